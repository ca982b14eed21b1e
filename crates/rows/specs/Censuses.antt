-- Groups as they come from anywhere, when they are well formed, and which is at fault else. Assumes nothing.
use Rattle.std.specs.Prelude.{◌≡◌, ℕ, suc, ◌<◌, ◌≤◌, true, ◌⊎◌, List, length}
use Rattle.kinds.specs.Domain.{Domain}
use Rattle.concepts.specs.declared.refusal.Refusal.{Refusal}
use Rattle.concepts.specs.declared.refusal.Refusal.TheVariants.{Table}
use Rattle.rows.specs.Groups.{WellFormed, groups_of}
use Rattle.rows.specs.declared.group.Group.{Group}

module _ {R V : Type 0} (k : Domain R V) where
  -- the groups of a slice are well formed, whatever stands past its end
  abbrev pub Formed : List (Group V) → Type 0
  Formed xs = (d : Group V) → WellFormed k (groups_of d xs) (length xs)

  -- group g is the lowest at fault: those before it are well formed, and with it they are not
  abbrev pub Lowest : (ℕ → Group V) → ℕ → Type 0
  Lowest G g = (0 < g → WellFormed k G g) × (WellFormed k G (suc g) → ⊥)

  -- the refusal of groups: of none or too many at 0, else at the lowest that is at fault
  abbrev pub AtFault : List (Group V) → Refusal → Type 0
  AtFault xs r =
      (((0 < length xs) × (length xs ≤ 256) → ⊥) × (r ≡ Table 0))
      ⊎ ((0 < length xs) × (length xs ≤ 256) × (g : ℕ) × (g < length xs) × (r ≡ Table g) × ((d : Group V) → Lowest (groups_of d xs) g))

-- Being well formed, as a test of each group by itself.

-- it is one element, and hangs from nothing
pub record First {V : Type 0} (x : Group V) : Type 0 where
  pub parent : x.parent ≡ 0
  pub role : x.role ≡ 0
  pub one : x.headcount ≡ 1

-- it hangs from an earlier one, from which no other before it hangs by its role
pub record Later {V : Type 0} (G : ℕ → Group V) (g : ℕ) : Type 0 where
  pub parent : (G g).parent < g
  pub role : (G g).role < 16
  pub some : 0 < (G g).headcount
  pub few : (G g).headcount ≤ 1000
  pub alone : (h : ℕ) → (G g).parent < h → h < g → (G h).parent ≡ (G g).parent → (G h).role ≡ (G g).role → ⊥

-- group g may stand where it does
pub record Fits {R V : Type 0} (k : Domain R V) (G : ℕ → Group V) (g : ℕ) : Type 0 where
  pub reads : k.reads (G g).reading ≡ true
  pub first : g ≡ 0 → First (G g)
  pub later : 0 < g → Later G g
