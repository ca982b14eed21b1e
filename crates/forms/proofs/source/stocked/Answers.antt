use Rattle.std.proofs.Common.{length, sym, refl, subst}
use Rattle.std.proofs.lemmas.Bool.{false≢true}
use Rattle.std.proofs.lemmas.Bool.Decides.{not_from_Decides}
use Rattle.concepts.specs.Weights.{rows_at}
use Rattle.forms.specs.Seen.{Supplied}
use Rattle.forms.proofs.Stocking.{stocked_more, stocked_all, stocked_not}
use Rattle.forms.proofs.source.stocked.Goals as goal

pub loop-place-preserved : goal.loop-place-preserved
loop-place-preserved g c =
    let s = c.args.sheets.now in
    stocked_more c.args.held.now s.front.now s.back.now c.loop-place.place c.loop-place.invariant
    (subst (λ xs. Supplied (rows_at c.args.held.now c.loop-place.place) (length xs)) c.of.ensures.value (c.supplied.ensures.0 c.if-not-supplied.false))

pub returns : goal.returns
returns g c = (λ e. stocked_all c.args.held.now c.args.sheets.now.front.now c.args.sheets.now.back.now c.loop-place.place c.loop-place-test.false c.loop-place.invariant, λ h. refl)

pub returns-then-not-supplied : goal.returns-then-not-supplied
returns-then-not-supplied g c = (
  λ e. absurd (false≢true e),
  λ h. absurd (stocked_not c.args.held.now c.args.sheets.now.front.now c.args.sheets.now.back.now c.loop-place.place
      (λ s. not_from_Decides _ c.supplied.ensures c.if-not-supplied.true (subst (λ xs. Supplied (rows_at c.args.held.now c.loop-place.place) (length xs)) (sym c.of.ensures.value) s)) h),
)
