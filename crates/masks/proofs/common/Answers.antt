use Rattle.masks.proofs.Digits.{has_and}
use Rattle.masks.proofs.common.Goals as goal

pub returns : goal.returns
returns c = has_and c.args.a c.args.b
