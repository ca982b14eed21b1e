use Rattle.std.proofs.Common.{sym, subst}
use Rattle.std.proofs.lemmas.Bool.{false≢true}
use Rattle.std.proofs.lemmas.Bool.Decides.{not_from_Decides}
use Rattle.forms.specs.Seen.{Stocked}
use Rattle.forms.proofs.source.Source.of.Goals as goal

pub returns-else-stocked-clause-answer : goal.returns-else-stocked-clause-answer
returns-else-stocked-clause-answer g c = (
  λ e. absurd (false≢true e),
  λ s. absurd (not_from_Decides _ c.stocked.ensures c.if-stocked.false (subst (λ xs. Stocked xs c.args.sheets.front.now c.args.sheets.back.now) (sym c.held-held.ensures.value) s)),
)
