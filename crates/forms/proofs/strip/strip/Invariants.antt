use Rattle.forms.proofs.Sweeping.{Swept}
use Rattle.forms.proofs.strip.strip.Given as goal

abbrev pub invariant-loop-c : goal.invariant-loop-c
invariant-loop-c g l = Swept g.K.Kind.domain l.initial.rows l.rows l.under l.m l.c
