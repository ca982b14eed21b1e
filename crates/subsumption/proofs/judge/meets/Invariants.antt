use Rattle.subsumption.proofs.Judging.{Sofar}
use Rattle.subsumption.proofs.judge.meets.Given as goal

abbrev pub invariant-loop-c : goal.invariant-loop-c
invariant-loop-c g l = Sofar g.K.Kind.domain l.groups l.rows l.reached l.c
