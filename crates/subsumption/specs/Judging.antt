-- Whether the first element of the model that groups stand for meets rows. Assumes nothing.
use Rattle.std.specs.Prelude.{ℕ, Bool, List, length, Option, IfSome, Decides}
use Rattle.kinds.specs.Domain.{Domain}
use Rattle.rows.specs.Groups.{WellFormed, world, groups_of}
use Rattle.rows.specs.Numbers.{Allows}
use Rattle.rows.specs.Suiting.{heads, Suits}
use Rattle.rows.specs.Tables.{rows_of, Meets}
use Rattle.rows.specs.declared.row.Row.{Row}
use Rattle.rows.specs.declared.group.Group.{Group}

module _ {R V : Type 0} (k : Domain R V) where
  -- the answer tells whether element 0 meets row 0
  abbrev pub Judges : List (Group V) → List (Row R) → Bool → Type 0
  Judges gs rows b =
      (d : Group V) (e : Row R) (w : WellFormed k (groups_of d gs) (length gs)) → Decides b (Meets (world k (groups_of d gs) (length gs) w) (rows_of e rows) (length rows) 0 0)

  -- a row with these numbers allows the elements of a group as fillers, and they suit it
  abbrev pub Filled : Row R → ℕ → Option ℕ → (ℕ → Group V) → Option ℕ → Type 0
  Filled row lower upper G o = Allows lower upper (heads G 0 o) × IfSome o (λ g. Suits k row (G g))
