use Rattle.concepts.proofs.Meanings.{concept_facts}
use Rattle.concepts.proofs.facts.concepts_stand.Goals as goal

pub returns : goal.returns
returns g c = record { facts = concept_facts g.K.Kind.domain }
