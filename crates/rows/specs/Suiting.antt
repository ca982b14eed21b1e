-- A row held against a group, and which group hangs where. Assumes nothing.
use Rattle.std.specs.Prelude.{◌≡◌, ℕ, ◌<◌, true, Some, None, Option}
use Rattle.kinds.specs.Domain.{Domain}
use Rattle.masks.specs.Masks.{has}
use Rattle.rows.specs.declared.row.Row.{Row}
use Rattle.rows.specs.declared.group.Group.{Group}

module _ {V : Type 0} (G : ℕ → Group V) (n : ℕ) where
  -- the group that hangs from group h by the role r, if there is one
  pub data Kin (h r : ℕ) : Option ℕ → Type 0 where
    kin : {g : ℕ} → 0 < g → g < n → (G g).parent ≡ h → (G g).role ≡ r → Kin h r (Some g)
    no_kin : ((g : ℕ) → 0 < g → g < n → (G g).parent ≡ h → (G g).role ≡ r → ⊥) → Kin h r None

  -- how many elements such a group has
  abbrev pub heads : Option ℕ → ℕ
  heads None = 0
  heads (Some g) = (G g).headcount

module _ {R V : Type 0} (k : Domain R V) where
  -- a group has the atoms of a row, and a reading that the row admits
  pub record Suits (row : Row R) (group : Group V) : Type 0 where
    pub atoms : (x : ℕ) → has row.atoms x ≡ true → has group.atoms x ≡ true
    pub reading : k.admits row.restriction group.reading ≡ true
