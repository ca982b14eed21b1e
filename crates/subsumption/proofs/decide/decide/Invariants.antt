use Rattle.std.proofs.Common.{◌≡◌, length}
use Rattle.rows.specs.Tables.{rows_of}
use Rattle.rows.specs.declared.row.Row.{Row}
use Rattle.subsumption.specs.Matches.{Matched}
use Rattle.subsumption.specs.Outcome.{matches_of}
use Rattle.subsumption.proofs.decide.decide.Given as goal

-- the rows before this one ask for no more
abbrev pub invariant-loop-c : goal.invariant-loop-c
invariant-loop-c g l = (length l.matches ≡ 128) × ((e : Row g.row.K.Denot) → Matched g.K.Kind.domain (rows_of e l.p.rows.now) (length l.p.rows.now) (rows_of e l.q.rows.now) (matches_of l.matches) l.c)
