use Rattle.masks.proofs.Digits.{has_single}
use Rattle.masks.proofs.single.Goals as goal

pub returns-then-k-lt64 : goal.returns-then-k-lt64
returns-then-k-lt64 c = has_single c.args.k c.if-k-lt64.true
