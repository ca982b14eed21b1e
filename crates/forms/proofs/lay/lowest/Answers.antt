use Rattle.std.proofs.Common.{◌≡◌, true, false, rules}
use Rattle.std.proofs.lemmas.Iterator.{first_from_Range}
use Rattle.masks.specs.Masks.{has}
use Rattle.forms.proofs.Walking.{lowest_first}
use Rattle.forms.proofs.lay.lowest.Goals as goal

pub returns : goal.returns
returns c =
    let first = first_from_Range _ _ _ _ (λ x. has c.args.roles x ≡ true) (λ x. has c.args.roles x ≡ false) c.find.ensures.ran (λ x q k. search rules) (λ x q k. search rules) in
    lowest_first c.args.roles c.args.from c.find.result first
