use Rattle.std.proofs.Common.{◌≡◌, ◌+◌, ◌<◌, get_or, length, sym, subst, arith}
use Rattle.forms.proofs.Children.{rest_length, rest_element, RolesTo, roles_same, roles_more}
use Rattle.forms.proofs.find.roles_below.Goals as goal
use Rattle.forms.proofs.find.roles_below.Goals.{then-row-c, else-row-c}

pub loop-row-preserved : goal.loop-row-preserved
loop-row-preserved g c =
    let xs = c.args.rows.now in
    let at = c.args.c in
    let i = c.loop-row.row-index in
    let x = c.row-item.result in
    let inside : at + 1 + i < length xs = omega (arith, c.loop-row-test.true, rest_length xs (at + 1)) in
    let is : x ≡ get_or xs (at + 1 + i) x = rest_element xs (at + 1) i x c.row-item.is in
    let next : at + 1 + i + 1 ≡ at + 1 + (i + 1) = omega arith in
    subst (λ b. RolesTo xs at c.if-row-c.roles b) next (
    elim c.if-row-c.branch [
      | then-row-c w ↦ subst (λ n. RolesTo xs at n (at + 1 + i + 1)) (sym w.roles-is) (roles_more xs at _ _ x c.loop-row.invariant (omega arith) inside is _ _ w.if-row-c.true w.single.ensures w.joined-roles.ensures)
      | else-row-c w ↦ subst (λ n. RolesTo xs at n (at + 1 + i + 1)) (sym w.roles-is) (roles_same xs at _ _ x c.loop-row.invariant (omega arith) inside is w.if-row-c.false)
    ])

pub returns : goal.returns
returns g c =
    let xs = c.args.rows.now in
    let end : c.args.c + 1 + c.loop-row.row-index ≡ length xs = omega (arith, c.loop-row-test.false, c.loop-row.auto.row-index-end, rest_length xs (c.args.c + 1), c.requires) in
    subst (λ b. RolesTo xs c.args.c c.loop-row.roles b) end c.loop-row.invariant
