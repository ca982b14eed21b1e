use Rattle.std.proofs.Common.{arith}
use Rattle.rows.proofs.Tallying.{fault_found}
use Rattle.rows.proofs.census.Census.of.Goals as goal

pub returns-then-not-fits-clause-fault : goal.returns-then-not-fits-clause-fault
returns-then-not-fits-clause-fault g c = fault_found g.K.Kind.domain c.args.groups.now c.loop-g.g (omega (arith, c.if-groups-gt-MOST_GROUPS.false)) c.loop-g-test.true c.loop-g.invariant c.if-not-fits.ensures
