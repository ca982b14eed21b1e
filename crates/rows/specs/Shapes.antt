-- Rows as they come from anywhere, and when they are well formed. Assumes nothing.
use Rattle.std.specs.Prelude.{◌≡◌, ℕ, zero, suc, ◌<◌, ◌≤◌, Bool, true, cond, not, ◌&&◌, ◌||◌, List, length, is_some, None, ◌==◌, nat_le, nat_lt}
use Rattle.kinds.specs.Domain.{Domain, Empty}
use Rattle.rows.specs.Numbers.{Under, Limited, in_order, limited}
use Rattle.rows.specs.Tables.{Stands, Before, Topmost, rows_of}
use Rattle.rows.specs.declared.row.Row.{Row}

-- the first n rows are well formed
pub record Shape {R : Type 0} (T : ℕ → Row R) (n : ℕ) : Type 0 where
  pub some : 0 < n
  pub few : n ≤ 128
  -- row 0 hangs from nothing and has no numbers; each other row hangs from an earlier one
  pub first : Topmost (T 0)
  pub bare : ((T 0).lower ≡ 0) × ((T 0).upper ≡ None)
  pub parents : (c : ℕ) → 0 < c → c < n → (T c).parent < c
  pub roles : (c : ℕ) → 0 < c → c < n → (T c).role < 16
  -- the lower number is not above the upper one, and neither is above 999
  pub numbers : (c : ℕ) → 0 < c → c < n → Under (T c).lower (T c).upper
  pub limits : (c : ℕ) → 0 < c → c < n → Limited (T c).lower (T c).upper
  -- rows stand in the order of their paths
  pub order : (b c : ℕ) (π ρ : List ℕ) → b < c → c < n → Stands T b π → Stands T c ρ → Before π ρ

-- the rows of a slice are well formed, whatever stands past its end
abbrev pub Shaped : {R : Type 0} → List (Row R) → Type 0
Shaped {R} xs = (0 < length xs) × ((e : Row R) → Shape (rows_of e xs) (length xs))

-- each row admits a reading
abbrev pub Coherent : {R V : Type 0} → Domain R V → (ℕ → Row R) → ℕ → Type 0
Coherent k T n = (c : ℕ) → c < n → Empty k (T c).restriction → ⊥

-- Being well formed, as a test of each row by itself.

-- every number below n passes
abbrev pub every : (ℕ → Bool) → ℕ → Bool
every f zero = true
every f (suc n) = every f n && f n

module _ {R : Type 0} where
  -- a row x belongs below the parent of a row y, and there at a lower role
  abbrev pub precedes : Row R → Row R → Bool
  precedes x y = nat_lt y.parent x.parent || (x.parent == y.parent && nat_lt x.role y.role)

  abbrev pub top_fine : Row R → Bool
  top_fine x = x.parent == 0 && (x.role == 0 && (x.lower == 0 && not (is_some x.upper)))

  -- row b does not stand between row c and its parent, or belongs there
  abbrev pub clear : (ℕ → Row R) → ℕ → ℕ → Bool
  clear T c b = nat_le b (T c).parent || precedes (T b) (T c)

  abbrev pub later_fine : (ℕ → Row R) → ℕ → Bool
  later_fine T c = nat_lt (T c).parent c && (nat_lt (T c).role 16 && (in_order (T c).lower (T c).upper && (limited (T c).lower (T c).upper && every (clear T c) c)))

  -- row c may stand where it does
  abbrev pub row_fine : (ℕ → Row R) → ℕ → Bool
  row_fine T c = cond (c == 0) (top_fine (T c)) (later_fine T c)

  -- each row of a slice may stand where it does
  abbrev pub Fine : List (Row R) → Type 0
  Fine xs = (e : Row R) (c : ℕ) → c < length xs → row_fine (rows_of e xs) c ≡ true
