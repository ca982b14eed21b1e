use Rattle.concepts.proofs.Verdicts.{table_facts}
use Rattle.concepts.proofs.facts.tables_stand.Goals as goal

pub returns : goal.returns
returns g c = record { facts = table_facts g.row.K.Denot }
