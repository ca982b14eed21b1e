-- What is answered of two forms. Assumes nothing.
use Rattle.std.specs.Prelude.{◌≡◌, ℕ, ◌<◌, ◌≤◌, Bool, true, List, length, Some, None, Ok, Err, Option, Result}
use Rattle.kinds.specs.Domain.{Domain}
use Rattle.concepts.specs.declared.refusal.Refusal.{Refusal}
use Rattle.concepts.specs.declared.refusal.Refusal.TheVariants.{Groups}
use Rattle.rows.specs.Groups.{groups_of}
use Rattle.rows.specs.Shapes.{Coherent}
use Rattle.rows.specs.Tables.{rows_of}
use Rattle.rows.specs.declared.group.Group.{Group}
use Rattle.rows.specs.declared.row.Row.{Row}
use Rattle.subsumption.specs.Inclusion.{Included, Countermodel}

module _ {R V : Type 0} (k : Domain R V) (ps qs : List (Row R)) where
  -- whether all that meets the first form meets the second: a yes always holds, and a no does where each row of the first
  -- admits a reading, as is so of every form of a description
  pub record Subsumes (r : Bool) : Type 0 where
    pub sound : (e : Row R) → r ≡ true → Included k (rows_of e ps) (length ps) (rows_of e qs) (length qs)
    pub complete : (e : Row R) → Coherent k (rows_of e ps) (length ps) → Included k (rows_of e ps) (length ps) (rows_of e qs) (length qs) → r ≡ true

  -- the answer of comparing, with the groups before and after. None: all that meets the first form meets the second, and
  -- nothing is written. Some g: the first g groups are a countermodel where each row of the first form admits a reading, and
  -- the later ones are as before. Else there is no room for 256 groups, and nothing is written.
  abbrev pub Compared : List (Group V) → List (Group V) → Result (Option ℕ) Refusal → Type 0
  Compared old new (Ok None) = (256 ≤ length old) × (new ≡ old) × ((e : Row R) → Included k (rows_of e ps) (length ps) (rows_of e qs) (length qs))
  Compared old new (Ok (Some g)) =
      (256 ≤ length old)
      × (g ≤ 256)
      × (length new ≡ length old)
      × ((d : Group V) (x : ℕ) → g ≤ x → groups_of d new x ≡ groups_of d old x)
      × ((e : Row R) (d : Group V) → Coherent k (rows_of e ps) (length ps) → Countermodel k (rows_of e ps) (length ps) (rows_of e qs) (length qs) (groups_of d new) g)
  Compared old new (Err r) = (length old < 256) × (new ≡ old) × (r ≡ Groups)
