use Rattle.std.proofs.Common.{refl, arith, length-set}
use Rattle.concepts.proofs.Saturation.{zeros, saturated_more}
use Rattle.concepts.proofs.description.checks.weigh.Goals as goal

pub loop-i-init : goal.loop-i-init
loop-i-init g c = (refl, zeros 128)

pub loop-i-preserved : goal.loop-i-preserved
loop-i-preserved g c = (
  simp length-set c.loop-i.invariant.0,
  saturated_more _ _ _ _ _ c.index-nodes-i.result c.loop-i.invariant.1 c.loop-i-test.true (omega arith) c.index-nodes-i.is c.weight_of.ensures,
)
