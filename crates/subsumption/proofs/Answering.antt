-- What is answered where a row asks for more. Assumes nothing.
use Rattle.std.proofs.Common.{◌≡◌, ℕ, ◌<◌, ◌≤◌, List, length, Err, Option, sym, refl, subst, ⊎_elim, arith}
use Rattle.std.proofs.lemmas.Bool.{cases_eq}
use Rattle.concepts.proofs.Verdicts.{element}
use Rattle.kinds.specs.Domain.{Domain}
use Rattle.rows.specs.Groups.{groups_of}
use Rattle.rows.specs.Numbers.{Under}
use Rattle.rows.specs.Shapes.{Shaped, Coherent}
use Rattle.rows.specs.Tables.{rows_of}
use Rattle.rows.specs.declared.group.Group.{Group}
use Rattle.rows.specs.declared.row.Row.{Row}
use Rattle.subsumption.specs.Given.{row_gives, Lacks, count, atoms, reading}
use Rattle.subsumption.specs.Inclusion.{Countermodel}
use Rattle.subsumption.specs.Outcome.{matches_of, Decided}
use Rattle.subsumption.specs.Slots.{Forced, amount, force_of}
use Rattle.subsumption.specs.Written.{Writes}
use Rattle.subsumption.specs.declared.gap.Match.{Match}
use Rattle.subsumption.specs.declared.gap.Need.{Need}
use Rattle.subsumption.specs.declared.gap.Short.{Short}
use Rattle.subsumption.proofs.Marking.{forcing}
use Rattle.subsumption.proofs.Refuting as refuting
use Rattle.subsumption.proofs.Ways.{lower, lineage}

module _ {R V : Type 0} (k : Domain R V) (ps qs : List (Row R)) (sp : Shaped ps) (sq : Shaped qs) (ms : List Match) (short : Short) where
  abbrev n : ℕ
  n = length ps

  abbrev m : ℕ
  m = length qs

  -- the row is one of the second form
  pub inside : ((e : Row R) → Decided k (rows_of e ps) n (rows_of e qs) m (matches_of ms) (Err short)) → short.row < m
  inside decided = (decided (element ps 0 sp.0).0).0

  module _ (e : Row R) (coherent : Coherent k (rows_of e ps) n) (decided : Decided k (rows_of e ps) n (rows_of e qs) m (matches_of ms) (Err short)) where
    abbrev P : ℕ → Row R
    P = rows_of e ps

    abbrev Q : ℕ → Row R
    Q = rows_of e qs

    abbrev M : ℕ → Match
    M = matches_of ms

    first_few : (w : Need) → Lacks k (row_gives k (P 0)) (Q 0) w → amount w ≤ 1000
    first_few w (count {x = y} ok bad least) = absurd (bad (let low = (sq.1 e).bare.0 in (omega arith, (let U : Option ℕ → Type 0 = λ o. Under y o in subst U (sym (sq.1 e).bare.1) tt))))
    first_few w (atoms room bad) = omega arith
    first_few w (reading room bad) = omega arith

    -- what is needed is shown by 1,000 elements or fewer
    few : amount short.need ≤ 1000
    few =
        let line = lineage Q m (sq.1 e) short.row decided.0 in
        let force = forcing k P n Q m M (sp.1 e) (sq.1 e) short.row (M short.row) short.need decided.0 decided.1 refl line.0 line.1 (amount short.need) in
        ⊎_elim
        (λ z. first_few short.need (refuting.lacks_first k P n Q m M (sp.1 e) (sq.1 e) coherent short.row (M short.row) short.need decided.0 decided.1 refl force.0 force.1 short.row (M short.row) short.need decided.1 z))
        (λ nz. refuting.amount_limit k P n Q m M (sp.1 e) (sq.1 e) coherent short.row (M short.row) short.need decided.0 decided.1 refl force.0 force.1 (omega arith))
        (cases_eq short.row 0)

    pub refuted : (fs : List ℕ) (x g : ℕ) (gs : List (Group V)) → (amount short.need ≤ 1000 → x ≡ amount short.need) → Forced P n Q M short.row x (force_of fs) → Writes k ps qs ms fs short g gs
        → (d : Group V) → Countermodel k P n Q m (groups_of d gs) g
    refuted fs x g gs count_is forced writes d =
        let forced' = subst (λ y. Forced P n Q M short.row y (force_of fs)) (count_is few) forced in
        let w = writes e d (lower k P n Q m M (sp.1 e) (sq.1 e) short.row (M short.row) short.need decided.0 decided.1 refl) in
        refuting.refuted k P n Q m M (sp.1 e) (sq.1 e) coherent short.row (M short.row) short.need decided.0 decided.1 refl (force_of fs) forced' g (groups_of d gs) w.0 w.1
