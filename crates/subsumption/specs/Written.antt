-- What the parts of a countermodel are, as they are written. Assumes nothing.
use Rattle.std.specs.Prelude.{◌≡◌, ℕ, ◌+◌, ◌<◌, Bool, true, false, List, length, Option}
use Rattle.kinds.specs.Domain.{Domain, Member, Separates}
use Rattle.masks.specs.Masks.{has}
use Rattle.rows.specs.Tables.{rows_of}
use Rattle.rows.specs.declared.row.Row.{Row}
use Rattle.rows.specs.declared.group.Group.{Group}
use Rattle.rows.specs.Groups.{groups_of}
use Rattle.subsumption.specs.Census.{Stated, Census}
use Rattle.subsumption.specs.Outcome.{matches_of}
use Rattle.subsumption.specs.Slots.{slot_of, parent_of, role_of, given_at, heads_at, Picked, force_of}
use Rattle.subsumption.specs.declared.countermodel.Likeness.{Likeness}
use Rattle.subsumption.specs.declared.countermodel.Slot.{Slot}
use Rattle.subsumption.specs.declared.gap.Match.{Match}
use Rattle.subsumption.specs.declared.gap.Need.{Need}
use Rattle.subsumption.specs.declared.gap.Need.TheVariants.{Count, Atoms, Reading}
use Rattle.subsumption.specs.declared.gap.Short.{Short}

module _ {R V : Type 0} (k : Domain R V) where
  -- a reading that a admits, or, at the end of a way that needs it, one that b does not admit
  abbrev pub Picks : R → R → Need → Bool → V → Type 0
  Picks a b (Count x) end v = Member k a v
  Picks a b Atoms end v = Member k a v
  Picks a b Reading true v = Separates k a b v
  Picks a b Reading false v = Member k a v

  module _ (ps qs : List (Row R)) (ms : List Match) where
    pub record SlotIs (fs : List ℕ) (s : ℕ) (r : Slot) : Type 0 where
      pub parent : (e : Row R) → r.parent ≡ parent_of (rows_of e ps) (length ps) (rows_of e qs) (matches_of ms) s
      pub role : (e : Row R) → r.role ≡ role_of (rows_of e ps) (length ps) (rows_of e qs) (matches_of ms) s
      pub headcount : (e : Row R) → r.headcount ≡ heads_at k (rows_of e ps) (length ps) (force_of fs) s

    pub record LikenessIs (short : Short) (s : ℕ) (r : Likeness V) : Type 0 where
      pub atoms : (e : Row R) (a : ℕ) → has r.atoms a ≡ (given_at k (rows_of e ps) (length ps) s).atom a
      pub reading : (e : Row R) → Picked k (rows_of e ps) (length ps) (slot_of (length ps) short.row (matches_of ms short.row)) short.need (rows_of e qs short.row) s r.reading

  -- Of all slots, with e past the ends of the rows.
  module _ (ps qs : List (Row R)) (ms : List Match) (fs : List ℕ) (short : Short) (e : Row R) where
    abbrev pub up_of : ℕ → ℕ
    up_of s = parent_of (rows_of e ps) (length ps) (rows_of e qs) (matches_of ms) s

    abbrev pub by_of : ℕ → ℕ
    by_of s = role_of (rows_of e ps) (length ps) (rows_of e qs) (matches_of ms) s

    abbrev pub many_of : ℕ → ℕ
    many_of s = heads_at k (rows_of e ps) (length ps) (force_of fs) s

    abbrev pub atom_of : ℕ → ℕ → Bool
    atom_of s a = (given_at k (rows_of e ps) (length ps) s).atom a

    abbrev pub picked_of : ℕ → V → Type 0
    picked_of s v = Picked k (rows_of e ps) (length ps) (slot_of (length ps) short.row (matches_of ms short.row)) short.need (rows_of e qs short.row) s v

    -- x is the group of slot s, which hangs from group h and has so many elements
    abbrev pub GroupOf : ℕ → ℕ → ℕ → Group V → Type 0
    GroupOf s h n x = Stated up_of by_of many_of atom_of picked_of s h n x

    -- the first s slots have been gone through, and g groups are written
    abbrev pub CensusOf : ℕ → ℕ → (ℕ → Group V) → (ℕ → Option ℕ) → Type 0
    CensusOf s g G made = Census up_of by_of many_of atom_of picked_of s g G made

    -- each slot hangs from an earlier one
    abbrev pub Falls : Type 0
    Falls = (s : ℕ) → 0 < s → s < length ps + short.row + 1 → up_of s < s

  abbrev pub GroupIs : List (Row R) → List (Row R) → List Match → List ℕ → Short → ℕ → ℕ → ℕ → Group V → Type 0
  GroupIs ps qs ms fs short s h n x = (e : Row R) → GroupOf ps qs ms fs short e s h n x

  -- g groups are written for all slots
  abbrev pub Writes : List (Row R) → List (Row R) → List Match → List ℕ → Short → ℕ → List (Group V) → Type 0
  Writes ps qs ms fs short g gs =
      (e : Row R) (d : Group V) → Falls ps qs ms fs short e → (made : ℕ → Option ℕ) × CensusOf ps qs ms fs short e (length ps + short.row + 1) g (groups_of d gs) made
