use Rattle.std.proofs.Common.{rules}
use Rattle.concepts.proofs.Verdicts.{well_formed_of}
use Rattle.concepts.proofs.description.Description.nodes.Goals as goal

pub returns : goal.returns
returns g c = search (rules, well_formed_of)
