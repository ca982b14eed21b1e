use Rattle.std.proofs.Common.{◌≡◌, ◌<◌, length}
use Rattle.rows.specs.declared.row.Row.{Row}
use Rattle.forms.specs.Sources.{written}
use Rattle.forms.specs.Walks.{Proper}
use Rattle.forms.proofs.Fronts.{fronted_written}
use Rattle.forms.proofs.Lining.{LaidTo}
use Rattle.forms.proofs.source.Source.lay.Given as goal

-- n rows are laid, up to the path
abbrev pub invariant-loop-n : goal.invariant-loop-n
invariant-loop-n g l = record {
  some : 0 < l.n;
  short : length l.path.items < l.n;
  room : length l.rows ≡ length l.initial.rows;
  laid : (e : Row g.row.K.Denot) → Proper (written g.K.Kind.domain e l.self) → LaidTo g.K.Kind.domain (written g.K.Kind.domain e l.self) (fronted_written g.K.Kind.domain e l.self) e l.rows l.dead l.n l.path.items;
}
