-- Taking away the rows below an upper number 0: what makes a settled table a finished form. Assumes nothing.
use Rattle.std.specs.Prelude.{◌≡◌, ℕ, Bool, true, false, List, [], Some, None, Option, ◌==◌, slice_index_or}
use Rattle.kinds.specs.Domain.{Domain, Whole}
use Rattle.masks.specs.Masks.{None as NoMember}
use Rattle.forms.specs.Labels.{Label}
use Rattle.forms.specs.Finished.{Dead, FinishedBy}
use Rattle.forms.specs.Laid.{Closing, Placed, Settled}
use Rattle.rows.specs.declared.row.Row.{Row}

-- the upper number is 0
abbrev pub is_zero : Option ℕ → Bool
is_zero None = false
is_zero (Some u) = u == 0

module _ {R V : Type 0} (k : Domain R V) where
  -- r is a row with another parent, emptied where its upper number is 0
  pub record Hung (row : Row R) (p : ℕ) (r : Row R) : Type 0 where
    pub parent : r.parent ≡ p
    pub role : r.role ≡ row.role
    pub lower : r.lower ≡ row.lower
    pub upper : r.upper ≡ row.upper
    pub no_atoms : is_zero row.upper ≡ true → NoMember r.atoms
    pub whole : is_zero row.upper ≡ true → Whole k r.restriction
    pub atoms : is_zero row.upper ≡ false → r.atoms ≡ row.atoms
    pub restriction : is_zero row.upper ≡ false → r.restriction ≡ row.restriction

  -- where the first n rows of T are settled, the first m of U are the finished form
  abbrev pub Finishes : (ℕ → Row R) → ℕ → (ℕ → Row R) → ℕ → Type 0
  Finishes T n U m = (f : List ℕ → Label V) (w : List ℕ → Bool) → Closing k f w → (Dead k f [] → ⊥) → Placed k f w T n → Settled k f w T n → FinishedBy k f w U m

  -- the same of slices, whatever stands past their ends
  abbrev pub Strips : List (Row R) → ℕ → List (Row R) → ℕ → Type 0
  Strips xs n ys m = (e : Row R) → Finishes (λ i. slice_index_or xs i e) n (λ i. slice_index_or ys i e) m
