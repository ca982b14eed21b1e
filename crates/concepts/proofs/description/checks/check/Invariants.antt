use Rattle.std.proofs.Common.{◌≡◌}
use Rattle.concepts.specs.Checks.{first, refusal}
use Rattle.concepts.proofs.Firsts.{left_at}
use Rattle.concepts.proofs.description.checks.check.Given as goal

abbrev pub invariant-loop-i : goal.invariant-loop-i
invariant-loop-i g l = refusal l.held l.nodes ≡ first (left_at l.held l.nodes l.i)
