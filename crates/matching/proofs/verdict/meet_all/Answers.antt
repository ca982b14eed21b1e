use Rattle.std.proofs.Common.{subst, rules}
use Rattle.std.proofs.lemmas.Fn.{fold_over, slice_gives, fronts}
use Rattle.matching.specs.Verdicts.{MeetsAll}
use Rattle.matching.proofs.Meets.{meets_push}
use Rattle.matching.proofs.verdict.meet_all.Goals as goal

pub returns : goal.returns
returns g c =
    let k = g.K.Kind.domain in
    record {
      answer = subst (λ rs. MeetsAll k rs c.fold.result) c.iter.ensures.rest
          (fold_over fronts (λ y. y.now) _ (MeetsAll k) _ (λ ys a x b f so_far call. search (rules, meets_push k ys x.now a b so_far)) _ _ _ _
          (slice_gives c.iter.result) (search rules) c.fold.ensures.ran);
    }
