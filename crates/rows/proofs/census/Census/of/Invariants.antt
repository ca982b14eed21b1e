use Rattle.rows.proofs.Tallying.{Passed}
use Rattle.rows.proofs.census.Census.of.Given as goal

abbrev pub invariant-loop-g : goal.invariant-loop-g
invariant-loop-g g l = Passed g.K.Kind.domain l.groups l.g
