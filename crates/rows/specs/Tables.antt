-- Row tables: at which path a row stands, in which order, and what it is for an element to meet a row. Assumes nothing.
use Rattle.std.specs.Prelude.{◌≡◌, ℕ, ◌<◌, ◌≤◌, true, List, [], ◌∷◌, ◌++◌, slice_index_or}
use Rattle.kinds.specs.Domain.{Domain}
use Rattle.masks.specs.Masks.{has}
use Rattle.concepts.specs.Interpretations.{Interpretation, how_many}
use Rattle.rows.specs.Numbers.{Under}
use Rattle.rows.specs.declared.row.Row.{Row}

-- the role r after the path π
abbrev pub then_role : List ℕ → ℕ → List ℕ
then_role π r = π ++ (r ∷ [])

-- a row that hangs from nothing: its parent and its role are 0
abbrev pub Topmost : {R : Type 0} → Row R → Type 0
Topmost row = (row.parent ≡ 0) × (row.role ≡ 0)

-- row c stands at a path: row 0 at the empty one, every other at its parent's and then its role
pub data Stands {R : Type 0} (T : ℕ → Row R) : ℕ → List ℕ → Type 0 where
  root : Stands T 0 []
  below : {π : List ℕ} (c : ℕ) → 0 < c → Stands T (T c).parent π → Stands T c (then_role π (T c).role)

-- a path comes before what extends it, and else the lower role first
pub data Before : List ℕ → List ℕ → Type 0 where
  shorter : {r : ℕ} {π : List ℕ} → Before [] (r ∷ π)
  lower_role : {r s : ℕ} {π ρ : List ℕ} → r < s → Before (r ∷ π) (s ∷ ρ)
  later : {r : ℕ} {π ρ : List ℕ} → Before π ρ → Before (r ∷ π) (r ∷ ρ)

module _ {R V : Type 0} {k : Domain R V} (y : Interpretation k) (T : ℕ → Row R) (n : ℕ) where
  -- element i meets row c: its atoms, its reading, and each row below by number and by the fillers themselves
  pub data Meets : ℕ → ℕ → Type 0 where
    meets : {c i : ℕ} → ((m : ℕ) → has (T c).atoms m ≡ true → y.atom i m ≡ true)
        → k.admits (T c).restriction (y.reading i) ≡ true
        → ((b : ℕ) → 0 < b → b < n → (T b).parent ≡ c
        → ((T b).lower ≤ how_many (y.filler i (T b).role) y.size) × Under (how_many (y.filler i (T b).role) y.size) (T b).upper)
        → ((b : ℕ) → 0 < b → b < n → (T b).parent ≡ c → (j : ℕ) → j < y.size → y.filler i (T b).role j ≡ true → Meets b j)
        → Meets c i

-- the rows of a slice; e stands past its end
abbrev pub rows_of : {R : Type 0} → Row R → List (Row R) → ℕ → Row R
rows_of e xs i = slice_index_or xs i e
