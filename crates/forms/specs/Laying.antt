-- Rows laid one after another, in the order of their paths. Assumes nothing.
use Rattle.std.specs.Prelude.{◌≡◌, ℕ, ◌+◌, ◌<◌, Bool, true, ◌⊎◌, List}
use Rattle.kinds.specs.Domain.{Domain}
use Rattle.forms.specs.Labels.{Label}
use Rattle.rows.specs.Tables.{Topmost, Stands, Before}
use Rattle.forms.specs.Finished.{Open}
use Rattle.rows.specs.declared.row.Row.{Row}

-- Over which paths are written.
module _ (w : List ℕ → Bool) where
  -- ρ is the first written path after π
  pub record Next (π ρ : List ℕ) : Type 0 where
    pub written : w ρ ≡ true
    pub after : Before π ρ
    pub first : (τ : List ℕ) → w τ ≡ true → Before π τ → (τ ≡ ρ) ⊎ Before ρ τ

  -- no written path comes after π
  abbrev pub Final : List ℕ → Type 0
  Final π = (τ : List ℕ) → w τ ≡ true → Before π τ → ⊥

-- the first n rows stand at the written paths up to π, in their order, and hold what is written there
pub record Laid {R V : Type 0} (k : Domain R V) (f : List ℕ → Label V) (w : List ℕ → Bool) (T : ℕ → Row R) (dead : ℕ → Bool) (n : ℕ) (π : List ℕ) : Type 0 where
  pub some : 0 < n
  pub first : Topmost (T 0)
  pub parents : (c : ℕ) → 0 < c → c < n → (T c).parent < c
  pub order : (b c : ℕ) (ρ τ : List ℕ) → b < c → c < n → Stands T b ρ → Stands T c τ → Before ρ τ
  pub written : (c : ℕ) (ρ : List ℕ) → c < n → Stands T c ρ → w ρ ≡ true
  pub filled : (c : ℕ) (ρ : List ℕ) → c < n → Stands T c ρ → Open k (T c) (f ρ)
  pub flagged : (c : ℕ) (ρ : List ℕ) → c < n → Stands T c ρ → dead c ≡ (f ρ).empty
  -- the last row stands at π, and every written path has a row or comes later
  pub last : (c : ℕ) → c + 1 ≡ n → Stands T c π
  pub all : (ρ : List ℕ) → w ρ ≡ true → ((c : ℕ) × (c < n) × Stands T c ρ) ⊎ Before π ρ
