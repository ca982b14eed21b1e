use Rattle.rows.specs.declared.row.Row.{Row}
use Rattle.forms.specs.Sources.{written}
use Rattle.forms.specs.Walks.{Narrow}
use Rattle.forms.proofs.Successors.{Early}
use Rattle.forms.proofs.source.Source.next.Given as goal

-- no later path parts from this one at depth d or deeper
abbrev pub invariant-loop-d : goal.invariant-loop-d
invariant-loop-d g l = (e : Row g.row.K.Denot) → Narrow (written g.K.Kind.domain e l.self).on → Early (written g.K.Kind.domain e l.self).on l.path l.d
