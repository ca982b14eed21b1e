use Rattle.forms.proofs.Stocking.{BeforePlace}
use Rattle.forms.proofs.source.stocked.Given as goal

abbrev pub invariant-loop-place : goal.invariant-loop-place
invariant-loop-place g l = BeforePlace l.held l.sheets.front.now l.sheets.back.now l.place
