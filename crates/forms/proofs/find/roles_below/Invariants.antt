use Rattle.std.proofs.Common.{◌+◌}
use Rattle.forms.proofs.Children.{RolesTo}
use Rattle.forms.proofs.find.roles_below.Given as goal

abbrev pub invariant-loop-row : goal.invariant-loop-row
invariant-loop-row g l = RolesTo l.rows l.c l.roles (l.c + 1 + l.row-index)
