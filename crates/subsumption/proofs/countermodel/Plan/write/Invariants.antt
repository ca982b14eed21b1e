use Rattle.subsumption.proofs.Writing.{Sofar}
use Rattle.subsumption.proofs.countermodel.Plan.write.Given as goal

abbrev pub invariant-loop-s : goal.invariant-loop-s
invariant-loop-s g l =
    Sofar g.K.Kind.domain l.self.first.now.rows.now l.self.second.now.rows.now l.self.matches.now l.self.force.now l.self.short l.fn.groups l.groups l.made l.s l.g
