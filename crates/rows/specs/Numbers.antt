-- Lower and upper numbers: how many fillers at least, and at most. Assumes nothing.
use Rattle.std.specs.Prelude.{ℕ, ◌<◌, ◌≤◌, Bool, true, ◌&&◌, Some, None, Option, MatchOption, nat_le}

-- n is at most the upper number
abbrev pub Under : ℕ → Option ℕ → Type 0
Under n None = Unit {0}
Under n (Some u) = n ≤ u

-- so many fillers are allowed
abbrev pub Allows : ℕ → Option ℕ → ℕ → Type 0
Allows lo up n = (lo ≤ n) × Under n up

-- no filler is allowed
abbrev pub ClosesOff : ℕ → Option ℕ → Type 0
ClosesOff lo up = (n : ℕ) → Allows lo up n → n ≤ 0

-- the least number of fillers that the first numbers allow and the second do not, if there is any
abbrev pub Beyond : ℕ → Option ℕ → ℕ → Option ℕ → Option ℕ → Type 0
Beyond lo up lo' up' o =
    MatchOption o ((n : ℕ) → Allows lo up n → Allows lo' up' n)
    (λ n. Allows lo up n × (Allows lo' up' n → ⊥) × ((m : ℕ) → Allows lo up m → (Allows lo' up' m → ⊥) → n ≤ m))

-- the lower number is above the upper one
abbrev pub Over : ℕ → Option ℕ → Type 0
Over lo None = ⊥
Over lo (Some u) = u < lo

-- the same as `Under`, as a test
abbrev pub in_order : ℕ → Option ℕ → Bool
in_order lo None = true
in_order lo (Some u) = nat_le lo u

-- neither number is above 999
abbrev pub Limited : ℕ → Option ℕ → Type 0
Limited lo None = lo ≤ 999
Limited lo (Some u) = (lo ≤ 999) × (u ≤ 999)

abbrev pub limited : ℕ → Option ℕ → Bool
limited lo None = nat_le lo 999
limited lo (Some u) = nat_le lo 999 && nat_le u 999
