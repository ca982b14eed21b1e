use Rattle.std.proofs.Common.{true, false, length, refl, rules, arith}
use Rattle.std.proofs.lemmas.Iterator.{cases_from_all, YieldsList-from_range}
use Rattle.rows.proofs.Clearing.{Tested, all_fine}
use Rattle.rows.proofs.form.checks.all_stand.Goals as goal

pub returns : goal.returns
returns g c =
    let xs = c.args.rows.now in
    all_fine xs _ (cases_from_all _ _ _ (Tested xs true) (Tested xs false) c.all.ensures.ran (YieldsList-from_range 0 (length xs) (length xs) refl (omega arith))
    (λ x q k. search rules) (λ x q k. search rules))
