use Rattle.orders.proofs.Reducing.{Beyond}
use Rattle.orders.proofs.covers_of.Given as goal

abbrev pub invariant-loop-z : goal.invariant-loop-z
invariant-loop-z l = Beyond l.under l.yielded l.further
