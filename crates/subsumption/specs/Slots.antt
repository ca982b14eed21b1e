-- The paths of two forms side by side: the rows of the first, and then those rows of the second whose paths it lacks. Assumes nothing.
use Rattle.std.specs.Prelude.{◌≡◌, ℕ, zero, suc, ◌+◌, ◌-◌, ◌<◌, max, cond, List, Some, None, Option, ◌≢◌, nat_lt, slice_index}
use Rattle.kinds.specs.Domain.{Domain}
use Rattle.rows.specs.declared.row.Row.{Row}
use Rattle.subsumption.specs.Given.{Given, gives, Sample, Outside}
use Rattle.subsumption.specs.declared.gap.Match.{Match}
use Rattle.subsumption.specs.declared.gap.Match.TheVariants.{At, Absent, Passed}
use Rattle.subsumption.specs.declared.gap.Need.{Need}
use Rattle.subsumption.specs.declared.gap.Need.TheVariants.{Count, Atoms, Reading}

-- the slot of row i of the second form, by its match, where the first has n rows
abbrev pub slot_of : ℕ → ℕ → Match → ℕ
slot_of n i (At b) = b
slot_of n i Absent = n + i
slot_of n i Passed = n + i

-- the row of the first form in a slot
abbrev pub own : ℕ → ℕ → Option ℕ
own n s = cond (nat_lt s n) (Some s) None

-- going from row c to the row that it hangs from, t times
abbrev pub ancestor : {R : Type 0} → (ℕ → Row R) → ℕ → ℕ → ℕ
ancestor Q c zero = c
ancestor Q c (suc t) = (Q (ancestor Q c t)).parent

-- row c is so deep below row 0
pub record Lineage {R : Type 0} (Q : ℕ → Row R) (c deep : ℕ) : Type 0 where
  pub top : ancestor Q c deep ≡ 0
  pub rows : (t : ℕ) → t < deep → 0 < ancestor Q c t

module _ {R : Type 0} (P : ℕ → Row R) (n : ℕ) (Q : ℕ → Row R) (M : ℕ → Match) where
  -- the slot that slot s hangs from, and by which role
  abbrev pub parent_of : ℕ → ℕ
  parent_of s = cond (nat_lt s n) (P s).parent (slot_of n (Q (s - n)).parent (M (Q (s - n)).parent))

  abbrev pub role_of : ℕ → ℕ
  role_of s = cond (nat_lt s n) (P s).role (Q (s - n)).role

  -- F says how many elements the slots on the way to row c are to have: x at its end, one before, and none elsewhere
  pub record Forced (c x : ℕ) (F : ℕ → ℕ) : Type 0 where
    pub deep : ℕ
    pub line : Lineage Q c deep
    pub end : 0 < deep → F (slot_of n c (M c)) ≡ x
    pub way : (t : ℕ) → 0 < t → t < deep → F (slot_of n (ancestor Q c t) (M (ancestor Q c t))) ≡ 1
    pub elsewhere : (s : ℕ) → 0 < F s → (t : ℕ) × (t < deep) × (s ≡ slot_of n (ancestor Q c t) (M (ancestor Q c t)))

-- the numbers of a slice
abbrev pub force_of : List ℕ → ℕ → ℕ
force_of fs s = slice_index fs s

-- how many elements the end of the way is to have
abbrev pub amount : Need → ℕ
amount (Count x) = x
amount Atoms = 1
amount Reading = 1

module _ {R V : Type 0} (k : Domain R V) (P : ℕ → Row R) (n : ℕ) where
  -- what is given in a slot
  abbrev pub given_at : ℕ → Given V
  given_at s = gives k P (own n s)

  -- how many elements a slot has: as few as are allowed, and no fewer than F says
  abbrev pub heads_at : (ℕ → ℕ) → ℕ → ℕ
  heads_at F s = max (given_at s).lower (F s)

  -- v is a reading for slot s, where the slot e needs one that q does not admit
  abbrev pub Picked : ℕ → Need → Row R → ℕ → V → Type 0
  Picked e (Count x) q s v = Sample (given_at s) v
  Picked e Atoms q s v = Sample (given_at s) v
  Picked e Reading q s v = ((s ≢ e) → Sample (given_at s) v) × (s ≡ e → Outside k (given_at s) q v)
