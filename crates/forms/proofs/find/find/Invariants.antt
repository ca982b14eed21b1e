use Rattle.std.proofs.Common.{◌≡◌, length, drop}
use Rattle.rows.specs.Tables.{rows_of}
use Rattle.forms.specs.Sheets.{find}
use Rattle.rows.specs.declared.row.Row.{Row}
use Rattle.forms.proofs.find.find.Given as goal

abbrev pub invariant-loop-role : goal.invariant-loop-role
invariant-loop-role g l = (e : Row g.row.K.Denot) → find (rows_of e l.rows) (length l.rows) l.path 0 ≡ find (rows_of e l.rows) (length l.rows) (drop l.role-index l.path) l.c
