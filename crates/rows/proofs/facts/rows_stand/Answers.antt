use Rattle.rows.proofs.RowFacts.{row_facts}
use Rattle.rows.proofs.facts.rows_stand.Goals as goal

pub returns : goal.returns
returns g c = record { facts = row_facts g.K.Kind.domain }
