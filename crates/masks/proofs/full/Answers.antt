use Rattle.masks.proofs.Digits.{has_all}
use Rattle.masks.proofs.full.Goals as goal

pub returns : goal.returns
returns c = has_all
