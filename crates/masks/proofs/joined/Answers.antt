use Rattle.masks.proofs.Digits.{has_or}
use Rattle.masks.proofs.joined.Goals as goal

pub returns : goal.returns
returns c = has_or c.args.a c.args.b
