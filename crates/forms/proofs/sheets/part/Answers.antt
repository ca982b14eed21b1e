use Rattle.std.proofs.Common.{◌≡◌, ◌+◌, ◌-◌, ◌*◌, ◌/◌, length, take, drop, ap, ◌∙◌, arith}
use Rattle.std.proofs.lemmas.Bool.{cond_below}
use Rattle.forms.proofs.sheets.part.Goals as goal

pub returns-then-place-rows : goal.returns-then-place-rows
returns-then-place-rows g c =
    let p = c.args.place in
    let xs = c.args.rows.now in
    let e : (p * 128 + 128) - p * 128 ≡ 128 = omega arith in
    ap (λ n. take n (drop (p * 128) xs)) e ∙ cond_below p (length xs / 128) _ _ c.if-place-rows.true
