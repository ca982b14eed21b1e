use Rattle.std.proofs.Common.{rules}
use Rattle.masks.proofs.Digits.{has_none}
use Rattle.masks.proofs.is_none.Goals as goal

pub returns : goal.returns
returns c = has_none c.args.a (search rules)
