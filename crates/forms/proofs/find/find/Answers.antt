use Rattle.std.proofs.Common.{◌≡◌, Some, None, sym, ◌∙◌, rules}
use Rattle.rows.specs.Tables.{rows_of}
use Rattle.forms.proofs.Children.{find_step}
use Rattle.forms.proofs.find.find.Goals as goal

pub loop-role-preserved : goal.loop-role-preserved
loop-role-preserved g c e =
    find_step (rows_of e c.args.rows.now) _ c.args.path.now c.loop-role.role-index c.loop-role.c (c.loop-role.invariant e) (Some c.in_ok-c.c) c.loop-role-test.true
    (sym c.in_ok-c.was ∙ c.child.ensures.value e)

pub returns-in_err-c : goal.returns-in_err-c
returns-in_err-c g c e =
    let none : c.from_residual.result ≡ None = search rules in
    let gone : c.child.result ≡ None = search rules in
    none ∙ sym (find_step (rows_of e c.args.rows.now) _ c.args.path.now c.loop-role.role-index c.loop-role.c (c.loop-role.invariant e) None c.loop-role-test.true
    (sym gone ∙ c.child.ensures.value e))
