use Rattle.forms.proofs.Settling.{Going}
use Rattle.forms.proofs.settle.settle.Given as goal

abbrev pub invariant-loop-c : goal.invariant-loop-c
invariant-loop-c g l = Going g.K.Kind.domain l.initial.rows l.rows l.initial.dead l.dead l.c
