use Rattle.std.proofs.Common.{rules}
use Rattle.masks.proofs.Digits.{has_first}
use Rattle.masks.proofs.member.Goals as goal

pub returns : goal.returns
returns c = has_first c.args.a (search rules)
