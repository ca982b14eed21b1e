-- What is found at a path of a form. Assumes nothing.
use Rattle.std.specs.Prelude.{◌≡◌, ℕ, ◌<◌, ◌≤◌, Bool, false, ◌&&◌, List, [], ◌∷◌, length, Some, None, Option, ◌==◌, nat_lt}
use Rattle.std.specs.Option.{option_map}
use Rattle.kinds.specs.Domain.{Domain}
use Rattle.masks.specs.Masks.{has}
use Rattle.concepts.specs.Weights.{rows_at}
use Rattle.forms.specs.Labels.{Label}
use Rattle.rows.specs.Tables.{then_role, rows_of}
use Rattle.forms.specs.Sheets.{Form, sheet_form}
use Rattle.forms.specs.Blocks.{block_of}
use Rattle.forms.specs.declared.label.Label.{Label as FoundLabel}
use Rattle.forms.specs.declared.look.Found.{Found}
use Rattle.rows.specs.declared.row.Row.{Row}

-- the path begins with the role s
abbrev pub begins : List ℕ → ℕ → Bool
begins [] s = false
begins (r ∷ π) s = r == s

module _ {R V : Type 0} (k : Domain R V) where
  -- a label as the code holds it
  pub record Holds (x : FoundLabel R) (l : Label V) : Type 0 where
    pub empty : x.empty ≡ l.empty
    pub atoms : (m : ℕ) → has x.atoms m ≡ l.atom m
    pub restriction : (v : V) → k.admits x.restriction v ≡ (k.reads v && l.admit v)
    pub lower : x.lower ≡ l.lower
    pub upper : x.upper ≡ l.upper

  -- the label at a path, and the roles below 64 that are written after it
  pub record Seen (f : Form V) (π : List ℕ) (x : FoundLabel R) (roles : ℕ) : Type 0 where
    pub label : Holds x (f.at π)
    pub after : (s : ℕ) → has roles s ≡ (nat_lt s 64 && f.on (then_role π s))

  -- the same of what is found
  abbrev pub Shows : Form V → List ℕ → Found R → Type 0
  Shows f π found = Seen f π found.label found.roles

  -- what the places hold: the sheets in their blocks, with as many rows as is said
  abbrev pub entries : Row R → List (Option ℕ) → List (Row R) → List (Row R) → ℕ → Option (Form V)
  entries e held front back p = option_map (λ m. sheet_form k (rows_of e (block_of front back p)) m) (rows_at held p)

-- a block of so many rows has those that are said to be held there, if any are, and then at least one
abbrev pub Supplied : Option ℕ → ℕ → Type 0
Supplied None size = Unit {0}
Supplied (Some m) size = (0 < m) × (m ≤ size)

-- every place that is held has a block with as many rows as is said, and at least one
abbrev pub Stocked : {R : Type 0} → List (Option ℕ) → List (Row R) → List (Row R) → Type 0
Stocked held front back = (p m : ℕ) → rows_at held p ≡ Some m → (0 < m) × (m ≤ length (block_of front back p))
