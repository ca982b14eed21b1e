use Rattle.std.proofs.Common.{arith}
use Rattle.matching.proofs.Codes.{listed_more}
use Rattle.matching.proofs.entry.read_list.Goals as goal

pub loop-text-preserved : goal.loop-text-preserved
loop-text-preserved c = (
  omega arith,
  listed_more c.args.list.now c.loop-text.text-index c.loop-text.bits c.single.result c.joined-bits.result c.in_ok-read_code.field-0 _
      c.loop-text-test.true c.loop-text.invariant.1 c.in_ok-read_code.ensures c.single.ensures c.joined-bits.ensures,
)
