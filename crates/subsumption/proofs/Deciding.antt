-- What follows from having gone through all rows. Assumes nothing.
use Rattle.std.proofs.Common.{◌≡◌, ℕ, Bool, List, length, is_ok, Ok, Err, Result, sym, refl, ◌∙◌}
use Rattle.std.proofs.lemmas.Bool.{false≢true}
use Rattle.kinds.specs.Domain.{Domain}
use Rattle.rows.specs.Shapes.{Shaped, Coherent}
use Rattle.rows.specs.Tables.{rows_of}
use Rattle.rows.specs.declared.row.Row.{Row}
use Rattle.subsumption.specs.Answers.{Subsumes}
use Rattle.subsumption.specs.Inclusion.{Included}
use Rattle.subsumption.specs.Outcome.{Decided}
use Rattle.subsumption.specs.declared.gap.Match.{Match}
use Rattle.subsumption.specs.declared.gap.Short.{Short}
use Rattle.subsumption.proofs.Choosing.{not_included}
use Rattle.subsumption.proofs.Including.{included}

module _ {R V : Type 0} (k : Domain R V) (ps qs : List (Row R)) (sp : Shaped ps) (sq : Shaped qs) (M : ℕ → Match) (e : Row R) where
  pub yes_included : Decided k (rows_of e ps) (length ps) (rows_of e qs) (length qs) M (Ok tt) → Included k (rows_of e ps) (length ps) (rows_of e qs) (length qs)
  yes_included matched y i l met = included k (rows_of e ps) (length ps) sp.0 (rows_of e qs) (length qs) (sq.1 e).parents M matched y sq.0 i l met

  pub no_included : (short : Short) → Decided k (rows_of e ps) (length ps) (rows_of e qs) (length qs) M (Err short) → Coherent k (rows_of e ps) (length ps)
      → Included k (rows_of e ps) (length ps) (rows_of e qs) (length qs) → ⊥
  no_included short decided coherent =
      not_included k (rows_of e ps) (length ps) (rows_of e qs) (length qs) M (sp.1 e) (sq.1 e) coherent short.row (M short.row) short.need decided.0 decided.1 refl

pub subsumes : {R V : Type 0} (k : Domain R V) (ps qs : List (Row R)) → Shaped ps → Shaped qs → (M : ℕ → Match) (o : Result (Unit {0}) Short) (r : Bool)
    → ((e : Row R) → Decided k (rows_of e ps) (length ps) (rows_of e qs) (length qs) M o) → r ≡ is_ok o → Subsumes k ps qs r
subsumes k ps qs sp sq M (Ok done) r decided e = record {
  sound = λ x _. yes_included k ps qs sp sq M x (decided x);
  complete = λ x _ _. e;
}
subsumes k ps qs sp sq M (Err short) r decided e = record {
  sound = λ x t. absurd (false≢true (sym e ∙ t));
  complete = λ x coherent all. absurd (no_included k ps qs sp sq M x short (decided x) coherent all);
}
