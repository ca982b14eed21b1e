use Rattle.std.proofs.Common.{◌≡◌, length, take}
use Rattle.concepts.specs.Tables.{values}
use Rattle.concepts.specs.Weights.{node_weight}
use Rattle.concepts.proofs.Saturation.{Saturated}
use Rattle.concepts.proofs.description.checks.weigh.Given as goal

abbrev pub invariant-loop-i : goal.invariant-loop-i
invariant-loop-i g l = (length l.weights ≡ 128) × Saturated l.weights (values (node_weight l.held) (take l.i l.nodes))
