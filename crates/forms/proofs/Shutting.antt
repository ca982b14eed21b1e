-- Nothing is reached along a path where nothing can stand. Assumes nothing.
use Rattle.std.proofs.Common.{ℕ, ◌<◌, ◌≤◌, List, Some, None, Option, subst, inl, inr, arith}
use Rattle.std.proofs.lemmas.Bool.{both_ways}
use Rattle.kinds.specs.Domain.{Domain}
use Rattle.concepts.specs.Interpretations.{Interpretation, how_many}
use Rattle.concepts.proofs.Meanings.{count_none, count_some}
use Rattle.rows.specs.Numbers.{Under, Over}
use Rattle.forms.specs.Labels.{Label}
use Rattle.forms.specs.Paths.{Along, Throughout}
use Rattle.rows.specs.Tables.{then_role}
use Rattle.forms.specs.Finished.{Dead, by_nothing, by_reading, by_numbers, by_filler, Shut}
use Rattle.forms.proofs.Along.{along_then, along_last, along_inside}
use Rattle.forms.proofs.Counting.{count_found}

over_under : (lo n : ℕ) (up : Option ℕ) → Over lo up → lo ≤ n → Under n up → ⊥
over_under lo n None p q r = p
over_under lo n (Some u) p q r = omega arith

module _ {R V : Type 0} (k : Domain R V) (y : Interpretation k) (f : List ℕ → Label V) (i : ℕ) (l : i < y.size) (t : Throughout y f i) where
  pub dead_bare : (π : List ℕ) → Dead k f π → (j : ℕ) → Along y i π j → ⊥
  dead_bare π (by_nothing e) j p = both_ways (f π).empty (t.there π j p).full e
  dead_bare π (by_reading e) j p = both_ways ((f π).admit (y.reading j)) (e (y.reading j) (y.reads j (along_inside y i j π l p))) (t.there π j p).reading
  dead_bare π (by_numbers r e) j p = let c = t.numbers π r j p in over_under _ _ _ e c.enough c.few
  dead_bare π (by_filler r e d) j p =
      let c = t.numbers π r j p in
      let w = count_found (y.filler j r) y.size (omega (arith, c.enough)) in
      dead_bare (then_role π r) d w.0 (along_then y i j w.0 r π p w.1 w.2)

  -- an element has no filler of a role after which nothing is allowed
  pub shut_none : (π : List ℕ) (r : ℕ) → Shut k f (then_role π r) → (j : ℕ) → Along y i π j → how_many (y.filler j r) y.size ≤ 0
  shut_none π r (inl e) j p = let n = how_many (y.filler j r) y.size in let P : Option ℕ → Type 0 = λ u. Under n u in subst P e (t.numbers π r j p).few
  shut_none π r (inr d) j p =
      count_none (y.filler j r) y.size (λ h m e. dead_bare (then_role π r) d h (along_then y i j h r π p m e))

  pub shut_bare : (π : List ℕ) (r : ℕ) → Shut k f (then_role π r) → (j : ℕ) → Along y i (then_role π r) j → ⊥
  shut_bare π r s j p =
      let q = along_last y i j r π p in
      omega (arith, shut_none π r s q.0 q.1, count_some (y.filler q.0 r) y.size j q.2 q.3)
