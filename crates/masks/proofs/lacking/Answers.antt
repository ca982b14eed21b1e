use Rattle.std.proofs.Common.{rules}
use Rattle.masks.proofs.Digits.{has_lacking}
use Rattle.masks.proofs.lacking.Goals as goal

pub returns : goal.returns
returns c = has_lacking c.args.a c.args.b (search rules)
