-- What a demand says, as it is written: what a row or silence says. Assumes nothing.
use Rattle.std.specs.Prelude.{◌≡◌, ℕ}
use Rattle.kinds.specs.Domain.{Domain}
use Rattle.masks.specs.Masks.{has}
use Rattle.rows.specs.declared.row.Row.{Row}
use Rattle.subsumption.specs.Given.{Given}
use Rattle.subsumption.specs.declared.demand.Demand.{Demand}

-- it asks what the row asks
pub record Asks {R : Type 0} (d : Demand R) (q : Row R) : Type 0 where
  pub lower : d.bounds.lower ≡ q.lower
  pub upper : d.bounds.upper ≡ q.upper
  pub atoms : d.atoms ≡ q.atoms
  pub restriction : d.restriction ≡ q.restriction

-- it says what is given
pub record Gives {R V : Type 0} (k : Domain R V) (d : Demand R) (g : Given V) : Type 0 where
  pub lower : d.bounds.lower ≡ g.lower
  pub upper : d.bounds.upper ≡ g.upper
  pub atom : (x : ℕ) → has d.atoms x ≡ g.atom x
  pub admit : (v : V) → k.admits d.restriction v ≡ g.admit v
