-- What it is for all that meets one form to meet another, and what shows that it is not so. Assumes nothing.
use Rattle.std.specs.Prelude.{ℕ, ◌+◌, ◌<◌, ◌≤◌}
use Rattle.kinds.specs.Domain.{Domain}
use Rattle.concepts.specs.Interpretations.{Interpretation}
use Rattle.rows.specs.Groups.{WellFormed, world}
use Rattle.rows.specs.Tables.{Meets}
use Rattle.rows.specs.declared.group.Group.{Group}
use Rattle.rows.specs.declared.row.Row.{Row}

module _ {R V : Type 0} (k : Domain R V) (P : ℕ → Row R) (n : ℕ) (Q : ℕ → Row R) (m : ℕ) where
  -- each element that meets the first form meets the second, in every finite interpretation
  abbrev pub Included : Type 0
  Included = (y : Interpretation k) (i : ℕ) → i < y.size → Meets y P n 0 i → Meets y Q m 0 i

  -- g groups, of which the first element meets the first form and not the second
  pub record Countermodel (G : ℕ → Group V) (g : ℕ) : Type 0 where
    pub formed : WellFormed k G g
    pub few : g ≤ n + m
    pub first : Meets (world k G g formed) P n 0 0
    pub second : Meets (world k G g formed) Q m 0 0 → ⊥
