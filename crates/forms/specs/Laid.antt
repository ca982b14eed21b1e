-- Tables on the way to a finished form: every written path with a row, then with its numbers settled. Assumes nothing.
use Rattle.std.specs.Prelude.{◌≡◌, ℕ, ◌<◌, Bool, true, false, ◌⊎◌, List, [], Some, None}
use Rattle.kinds.specs.Domain.{Domain}
use Rattle.forms.specs.Labels.{Label}
use Rattle.rows.specs.Tables.{then_role, Topmost, Stands, Before}
use Rattle.forms.specs.Finished.{Shut, Open}
use Rattle.rows.specs.declared.row.Row.{Row}

module _ {R V : Type 0} (k : Domain R V) (f : List ℕ → Label V) (w : List ℕ → Bool) where
  -- numbers are written at written paths alone, and what leads to a written path is written
  pub record Closing : Type 0 where
    pub quiet_lower : (π : List ℕ) → w π ≡ false → (f π).lower ≡ 0
    pub quiet_upper : (π : List ℕ) → w π ≡ false → (f π).upper ≡ None
    pub fronts : (π : List ℕ) (r : ℕ) → w (then_role π r) ≡ true → w π ≡ true
    pub root_upper : (f []).upper ≡ None

  -- the first n rows stand at the written paths, in their order
  pub record Placed (T : ℕ → Row R) (n : ℕ) : Type 0 where
    pub some : 0 < n
    pub first : Topmost (T 0)
    pub parents : (c : ℕ) → 0 < c → c < n → (T c).parent < c
    pub order : (b c : ℕ) (π ρ : List ℕ) → b < c → c < n → Stands T b π → Stands T c ρ → Before π ρ
    pub written : (c : ℕ) (π : List ℕ) → c < n → Stands T c π → w π ≡ true
    pub all : (π : List ℕ) → w π ≡ true → (c : ℕ) × (c < n) × Stands T c π

  -- each row holds what is written at its path
  abbrev pub Filled : (ℕ → Row R) → ℕ → Type 0
  Filled T n = (c : ℕ) (π : List ℕ) → c < n → Stands T c π → Open k (T c) (f π)

  -- each flag tells whether NOTHING is written at the path of its row
  abbrev pub Flagged : (ℕ → Row R) → ℕ → (ℕ → Bool) → Type 0
  Flagged T n d = (c : ℕ) (π : List ℕ) → c < n → Stands T c π → d c ≡ (f π).empty

  -- a row whose upper number is 0 since nothing is allowed
  pub record Halted (row : Row R) (l : Label V) : Type 0 where
    pub lower : row.lower ≡ l.lower
    pub upper : row.upper ≡ Some 0

  -- each row holds what is written at its path, but for the upper number 0 where nothing is allowed
  abbrev pub Settled : (ℕ → Row R) → ℕ → Type 0
  Settled T n = (c : ℕ) (π : List ℕ) → c < n → Stands T c π → ((Shut k f π → ⊥) × Open k (T c) (f π)) ⊎ (Shut k f π × Halted (T c) (f π))
