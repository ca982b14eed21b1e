-- What a description writes, together with the forms that it names. Assumes nothing.
use Rattle.std.specs.Prelude.{ℕ, Option}
use Rattle.kinds.specs.Domain.{Domain}
use Rattle.forms.specs.Sheets.{Form, node_form}
use Rattle.forms.specs.Seen.{entries}
use Rattle.forms.specs.Walks.{whole_form}
use Rattle.forms.specs.declared.source.Source.{Source}
use Rattle.rows.specs.declared.row.Row.{Row}

module _ {R V : Type 0} (k : Domain R V) (e : Row R) (s : Source R) where
  -- what the places hold
  abbrev pub holdings : ℕ → Option (Form V)
  holdings = entries k e s.held.now s.sheets.front.now s.sheets.back.now

  -- what node i writes
  abbrev pub written_by : ℕ → Form V
  written_by i = node_form k holdings s.nodes.now i

  -- what the last node writes
  abbrev pub written : Form V
  written = whole_form k e s.held.now s.sheets.front.now s.sheets.back.now s.nodes.now
