use Rattle.std.proofs.Common.{◌≡◌, true}
use Rattle.orders.proofs.Diagrams.{reduction_facts}
use Rattle.orders.proofs.facts.reductions_stand.Goals as goal

pub returns : goal.returns
returns g c = record { facts = λ le. reduction_facts (λ e f. le e f ≡ true) }
