-- What it is to settle the numbers of a table of rows. Assumes nothing.
use Rattle.std.specs.Prelude.{◌≡◌, ℕ, ◌≤◌, Bool, true, false, ◌⊎◌, List, [], length, Some, slice_index_or}
use Rattle.kinds.specs.Domain.{Domain, Empty}
use Rattle.forms.specs.Labels.{Label}
use Rattle.forms.specs.Finished.{Dead}
use Rattle.forms.specs.Laid.{Closing, Placed, Filled, Flagged, Settled}
use Rattle.rows.specs.declared.row.Row.{Row}

-- a row as it was, but for the upper number
pub record Kept {R : Type 0} (row after : Row R) : Type 0 where
  pub parent : after.parent ≡ row.parent
  pub role : after.role ≡ row.role
  pub lower : after.lower ≡ row.lower
  pub atoms : after.atoms ≡ row.atoms
  pub restriction : after.restriction ≡ row.restriction

module _ {R V : Type 0} (k : Domain R V) where
  -- a row with the flag d, where nothing can stand
  abbrev pub Bare : Row R → Bool → Type 0
  Bare row d = (d ≡ true) ⊎ Empty k row.restriction

  -- a row whose upper number becomes 0 exactly where nothing can stand
  pub record Closes (row : Row R) (d : Bool) (after : Row R) : Type 0 where
    pub kept : Kept row after
    pub upper : (Bare row d × (after.upper ≡ Some 0)) ⊎ ((Bare row d → ⊥) × (after.upper ≡ row.upper))

  -- the first n rows hold what f writes at the paths of w, and the flags tell where f writes NOTHING
  pub record Ready (f : List ℕ → Label V) (w : List ℕ → Bool) (T : ℕ → Row R) (n : ℕ) (d : ℕ → Bool) : Type 0 where
    pub closing : Closing k f w
    pub placed : Placed k f w T n
    pub filled : Filled k f w T n
    pub flagged : Flagged k f w T n d

  -- what becomes of such rows, where r tells whether nothing can stand at row 0
  pub record Comes (f : List ℕ → Label V) (w : List ℕ → Bool) (T : ℕ → Row R) (n : ℕ) (r : Bool) : Type 0 where
    pub dead : r ≡ true → Dead k f []
    pub live : r ≡ false → Dead k f [] → ⊥
    pub placed : Placed k f w T n
    pub settled : r ≡ false → Settled k f w T n

  -- the first n of the rows xs, with the flags ds, become those of ys
  pub record Settles (xs : List (Row R)) (n : ℕ) (ds : List Bool) (r : Bool) (ys : List (Row R)) : Type 0 where
    pub size : length ys ≡ length xs
    pub kept : (e : Row R) (c : ℕ) → Kept (slice_index_or xs c e) (slice_index_or ys c e)
    pub past : (e : Row R) (c : ℕ) → n ≤ c → slice_index_or ys c e ≡ slice_index_or xs c e
    pub comes : (e : Row R) (f : List ℕ → Label V) (w : List ℕ → Bool) → Ready f w (λ c. slice_index_or xs c e) n (λ c. slice_index_or ds c false) → Comes f w (λ c. slice_index_or ys c e) n r
