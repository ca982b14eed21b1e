-- Writing a group for each slot that has elements, one slot after another. Assumes nothing.
use Rattle.std.specs.Prelude.{◌≡◌, ℕ, ◌<◌, ◌≤◌, Bool, Some, None, Option}
use Rattle.masks.specs.Masks.{has}
use Rattle.rows.specs.declared.group.Group.{Group}

-- Over where the slots hang, how many elements they have, which atoms and which readings.
module _ {V : Type 0} (up by heads : ℕ → ℕ) (atom : ℕ → ℕ → Bool) (picked : ℕ → V → Type 0) where
  -- a group of n elements for slot s, which hangs from group h
  pub record Stated (s h n : ℕ) (x : Group V) : Type 0 where
    pub parent : x.parent ≡ h
    pub role : x.role ≡ by s
    pub headcount : x.headcount ≡ n
    pub atoms : (a : ℕ) → has x.atoms a ≡ atom s a
    pub reading : picked s x.reading

  -- what became of slot s, from what became of the one that it hangs from: a group or none
  pub data Fate (g : ℕ) (G : ℕ → Group V) (s : ℕ) : Option ℕ → Option ℕ → Type 0 where
    gone : Fate g G s None None
    idle : {a : Option ℕ} → heads s ≡ 0 → Fate g G s a None
    settled : {h x : ℕ} → 0 < x → x < g → h < x → 0 < heads s → Stated s h (heads s) (G x) → Fate g G s (Some h) (Some x)

  -- the first s slots have been gone through, and g groups are written
  pub record Census (s g : ℕ) (G : ℕ → Group V) (made : ℕ → Option ℕ) : Type 0 where
    pub some : 0 < g
    pub number : g ≤ s
    pub root : made 0 ≡ Some 0
    pub first : Stated 0 0 1 (G 0)
    pub bound : (b x : ℕ) → b < s → made b ≡ Some x → x < g
    pub fate : (b : ℕ) → 0 < b → b < s → Fate g G b (made (up b)) (made b)
    pub from : (x : ℕ) → 0 < x → x < g → (b : ℕ) × (0 < b) × (b < s) × (made b ≡ Some x)
    pub apart : (b c x : ℕ) → b < s → c < s → made b ≡ Some x → made c ≡ Some x → b ≡ c
