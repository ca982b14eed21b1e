-- What is held at each place, for entries E of any sort, ordered by `le`. Assumes nothing.
use Rattle.std.specs.Prelude.{◌≡◌, ℕ, ◌<◌, cond, Some, None, Option, ◌==◌, ◌≢◌}

-- the entry at each place, if any
abbrev pub Ledger : Type 0 → Type 0
Ledger E = ℕ → Option E

module _ {E : Type 0} where
  -- o at p, and all else as before
  abbrev pub put : Ledger E → ℕ → Option E → Ledger E
  put L p o q = cond (q == p) o (L q)

  abbrev pub nothing : Ledger E
  nothing q = None

-- steps from place to place, none or more
pub data Leads (step : ℕ → ℕ → Type 0) : ℕ → ℕ → Type 0 where
  here : {p : ℕ} → Leads step p p
  on : {p q r : ℕ} → step p q → Leads step q r → Leads step p r

pub record Preorder {E : Type 0} (le : E → E → Type 0) : Type 0 where
  pub reflexive : (e : E) → le e e
  pub transitive : (e f d : E) → le e f → le f d → le e d

module _ {E : Type 0} (le : E → E → Type 0) (L : Ledger E) where
  -- p and q are held, and the entry at p is below the entry at q
  pub record Below (p q : ℕ) : Type 0 where
    pub first : E
    pub second : E
    pub held_p : L p ≡ Some first
    pub held_q : L q ≡ Some second
    pub less : le first second

  -- q covers p: p is below q, q is another place, and no third place is between
  pub record Covers (p q : ℕ) : Type 0 where
    pub below : Below p q
    pub other : p ≡ q → ⊥
    pub nearest : (z : ℕ) → (z ≢ p) → (z ≢ q) → Below p z → Below z q → ⊥

  -- all that is held lies below `places`, and no two places hold equivalent entries
  pub record Proper (places : ℕ) : Type 0 where
    pub inside : (p : ℕ) (e : E) → L p ≡ Some e → p < places
    pub apart : (p q : ℕ) (e f : E) → L p ≡ Some e → L q ≡ Some f → le e f → le f e → p ≡ q

  -- the steps are a Hasse diagram of what is held
  pub record Diagram (step : ℕ → ℕ → Type 0) : Type 0 where
    -- steps from a held place lead only to what is above it
    pub sound : (p q : ℕ) (e : E) → L p ≡ Some e → Leads step p q → Below p q
    -- and to all of it
    pub complete : (p q : ℕ) → Below p q → Leads step p q
    -- take away any one step, and the others no longer lead from its start to its end
    pub needed : (p q : ℕ) → step p q → Leads (λ a b. step a b × ((a ≡ p) × (b ≡ q) → ⊥)) p q → ⊥
