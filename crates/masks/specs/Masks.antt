-- Sets of numbers below 64, as the digits of a number of 64 bits. Assumes nothing.
use Rattle.std.specs.Prelude.{◌≡◌, ℕ, ◌/◌, ◌%◌, ◌^◌, Bool, true, false, not, ◌&&◌, ◌||◌, ◌==◌, nat_lt}

-- the digit that is worth 2 ^ k is set
abbrev pub digit : ℕ → ℕ → Bool
digit n k = n / 2 ^ k % 2 == 1

-- k is in the set n
abbrev pub has : ℕ → ℕ → Bool
has n k = nat_lt k 64 && digit n k

-- r has every number below 64
abbrev pub Full : ℕ → Type 0
Full r = (k : ℕ) → has r k ≡ nat_lt k 64

-- r has m alone, or nothing where m is above 63
abbrev pub Single : ℕ → ℕ → Type 0
Single m r = (k : ℕ) → has r k ≡ (nat_lt m 64 && k == m)

-- r has just what both a and b have
abbrev pub Common : ℕ → ℕ → ℕ → Type 0
Common a b r = (k : ℕ) → has r k ≡ (has a k && has b k)

-- r has just what a or b has
abbrev pub Joined : ℕ → ℕ → ℕ → Type 0
Joined a b r = (k : ℕ) → has r k ≡ (has a k || has b k)

-- r has just what a has and b lacks
abbrev pub Lacking : ℕ → ℕ → ℕ → Type 0
Lacking a b r = (k : ℕ) → has r k ≡ (has a k && not (has b k))

-- a has nothing
abbrev pub None : ℕ → Type 0
None a = (k : ℕ) → has a k ≡ false

-- b has whatever a has
abbrev pub Subset : ℕ → ℕ → Type 0
Subset a b = (k : ℕ) → has a k ≡ true → has b k ≡ true

-- a has m, if it has anything
abbrev pub Member : ℕ → ℕ → Type 0
Member a m = (k : ℕ) → has a k ≡ true → has a m ≡ true
