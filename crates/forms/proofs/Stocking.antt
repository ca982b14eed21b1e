-- Whether each place has the rows that are said to be held there. Assumes nothing.
use Rattle.std.proofs.Common.{◌≡◌, ℕ, ◌+◌, ◌<◌, ◌≤◌, List, length, Some, None, Option, refl, subst, ⊎_elim, arith}
use Rattle.std.proofs.lemmas.List.{get_or_past}
use Rattle.std.proofs.lemmas.Bool.{cases_lt}
use Rattle.concepts.specs.Weights.{rows_at}
use Rattle.forms.specs.Blocks.{block_of}
use Rattle.forms.specs.Seen.{Supplied, Stocked}
use Rattle.rows.specs.declared.row.Row.{Row}

supplied_by : (o : Option ℕ) (size : ℕ) → ((m : ℕ) → o ≡ Some m → (0 < m) × (m ≤ size)) → Supplied o size
supplied_by None size h = tt
supplied_by (Some m) size h = h m refl

supplied_at : (o : Option ℕ) (size m : ℕ) → Supplied o size → o ≡ Some m → (0 < m) × (m ≤ size)
supplied_at o size m h e = subst (λ (x : Option ℕ). Supplied x size) e h

module _ {R : Type 0} (held : List (Option ℕ)) (front back : List (Row R)) where
  -- the places before p have their rows
  abbrev pub BeforePlace : ℕ → Type 0
  BeforePlace p = (q : ℕ) → q < p → Supplied (rows_at held q) (length (block_of front back q))

  pub stocked_more : (p : ℕ) → BeforePlace p → Supplied (rows_at held p) (length (block_of front back p)) → BeforePlace (p + 1)
  stocked_more p before here q l = ⊎_elim (before q) (λ h. let e : p ≡ q = omega arith in subst (λ x. Supplied (rows_at held x) (length (block_of front back x))) e here) (cases_lt q p)

  pub stocked_all : (p : ℕ) → length held ≤ p → BeforePlace p → Stocked held front back
  stocked_all p l before q m e = ⊎_elim
      (λ h. supplied_at (rows_at held q) _ m (before q h) e)
      (λ h. let none : rows_at held q ≡ None = get_or_past held q None (omega arith) in let z : ◌≡◌ {A = ℕ} 0 1 = cc in absurd (omega arith))
      (cases_lt q p)

  pub stocked_not : (p : ℕ) → (Supplied (rows_at held p) (length (block_of front back p)) → ⊥) → Stocked held front back → ⊥
  stocked_not p none stocked = none (supplied_by (rows_at held p) _ (stocked p))
