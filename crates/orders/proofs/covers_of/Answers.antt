use Rattle.std.proofs.Common.{refl, sym, ap, ◌∙◌, rules, subst}
use borrow.Author.Tests.{tests}
use Rattle.std.proofs.lemmas.List.{map-id}
use Rattle.std.proofs.lemmas.Iterator.{YieldsList-from_range}
use Rattle.std.proofs.lemmas.Iterator.Consumers.{YieldsList-from_filter, YieldsList-end}
use Rattle.masks.specs.Masks.{has}
use Rattle.orders.proofs.Reducing.{Beyond, further_all, nearest_left}
use Rattle.orders.proofs.covers_of.Goals as goal

pub returns : goal.returns
returns c =
    let t = c.args.under.now in
    let above = c.others-above.result in
    let start = c.into_iter-z-iterator.ensures.into_iter_gives in
    let end = YieldsList-end (YieldsList-from_filter _ (has above) (YieldsList-from_range 0 64 64 (ap (λ s. s.iter) start ∙ c.filter-z-items.ensures.source) refl)
    (ap (λ s. s.p) start ∙ c.filter-z-items.ensures.closure) (λ x b q k. search (rules, tests))) c.loop-z.yielded _ c.loop-z.yielded_by _ _ c.in-None.is c.next.ensures.steps in
    nearest_left t c.told-under c.args.p above c.loop-z.further c.lacking.result c.others-above.ensures
    (further_all t above c.loop-z.further (subst (λ zs. Beyond t zs c.loop-z.further) (sym (map-id c.loop-z.yielded) ∙ end.0) c.loop-z.invariant))
    c.lacking.ensures
