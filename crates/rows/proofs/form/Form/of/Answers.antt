use Rattle.std.proofs.Common.{length, sym, refl, arith}
use Rattle.std.proofs.lemmas.Bool.{false≢true, eqb-true}
use Rattle.std.proofs.lemmas.Bool.Decides.{nat_tests, not_from_Decides}
use Rattle.rows.proofs.Clearing.{fine_shaped, shaped_few, shaped_fine}
use Rattle.rows.proofs.form.Form.of.Goals as goal
use Rattle.rows.proofs.form.Form.of.Goals.{
  then-is_empty-via-then-is_empty,
  then-is_empty-via-else-is_empty+then-rows-gt-MOST_ROWS,
  then-is_empty-via-else-is_empty+else-rows-gt-MOST_ROWS+then-not-all_stand,
}

pub returns-then-is_empty-clause-answer : goal.returns-then-is_empty-clause-answer
returns-then-is_empty-clause-answer g c =
    let xs = c.args.rows.now in (
      λ e. absurd (false≢true e),
      λ shaped. absurd (elim c.then-is_empty.branch [
        | then-is_empty-via-then-is_empty w ↦ omega (arith, shaped.0, eqb-true (length xs) 0 (sym w.if-is_empty.ensures))
        | then-is_empty-via-else-is_empty+then-rows-gt-MOST_ROWS w ↦ omega (arith, shaped_few xs shaped, w.if-rows-gt-MOST_ROWS.true)
        | then-is_empty-via-else-is_empty+else-rows-gt-MOST_ROWS+then-not-all_stand w ↦ not_from_Decides _ w.all_stand.ensures w.if-not-all_stand.true (shaped_fine xs shaped)
      ]),
    )

pub returns-clause-answer : goal.returns-clause-answer
returns-clause-answer g c =
    (λ _. fine_shaped c.args.rows.now (grind (arith, nat_tests)) c.if-rows-gt-MOST_ROWS.false (c.all_stand.ensures.0 c.if-not-all_stand.false), λ _. refl)
