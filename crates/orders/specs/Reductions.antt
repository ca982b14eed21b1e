-- Relations between places as tables of masks, and their transitive reductions. Assumes nothing.
use Rattle.std.specs.Prelude.{◌≡◌, ℕ, ◌<◌, Bool, true, not, ◌&&◌, List, Decides, ◌==◌, ◌≢◌, slice_index}
use Rattle.masks.specs.Masks.{has}

-- p lies below q: the mask at p has q, which is so only of places below 64
abbrev pub lies : List ℕ → ℕ → ℕ → Bool
lies t p q = has (slice_index t p) q

-- p lies below q, and q is another place
abbrev pub strictly : List ℕ → ℕ → ℕ → Bool
strictly t p q = lies t p q && not (q == p)

-- p lies below q, q is another place, and no third place is between
pub record Nearest (t : List ℕ) (p q : ℕ) : Type 0 where
  pub below : lies t p q ≡ true
  pub other : p ≡ q → ⊥
  pub nearest : (z : ℕ) → (z ≢ p) → (z ≢ q) → lies t p z ≡ true → lies t z q ≢ true

-- s has just the nearest pairs of t
abbrev pub Reduction : List ℕ → List ℕ → Type 0
Reduction t s = (p q : ℕ) → Decides (lies s p q) ((p < 64) × Nearest t p q)
