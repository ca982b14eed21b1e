use Rattle.std.proofs.Common.{◌<◌, List, length, eqb, refl, ap, subst, subst₂, arith}
use Rattle.rows.specs.declared.row.Row.{Row}
use Rattle.subsumption.specs.Written.{Picks, LikenessIs}
use Rattle.subsumption.proofs.Picking.{like_own, like_new}
use Rattle.subsumption.proofs.countermodel.Plan.likeness.Goals as goal

pub returns-then-s-n : goal.returns-then-s-n
returns-then-s-n g c =
    let k = g.K.Kind.domain in
    let plan = c.args.self.now in
    let L : List (Row g.row.K.Denot) → List (Row g.row.K.Denot) → Type 0 = λ ps qs. LikenessIs k ps qs plan.matches.now plan.short c.args.s record { atoms = c.index-first-s.result.atoms; reading = c.pick.result } in
    let l : plan.short.row < length c.rows-second.result.now = omega (arith, ap length c.rows-second.ensures.value) in
    subst₂ L c.rows-first.ensures.value c.rows-second.ensures.value
    (like_own k c.rows-first.result.now c.rows-second.result.now plan.matches.now plan.short c.args.s c.index-second-c.result l c.index-second-c.is
    c.index-first-s.result _ c.if-s-n.true c.index-first-s.is refl
    (subst (λ e. Picks k c.index-first-s.result.restriction c.index-second-c.result.restriction plan.short.need (eqb c.args.s e) c.pick.result) c.slot.ensures.value c.pick.ensures))

pub returns-else-s-n : goal.returns-else-s-n
returns-else-s-n g c =
    let k = g.K.Kind.domain in
    let plan = c.args.self.now in
    let L : List (Row g.row.K.Denot) → List (Row g.row.K.Denot) → Type 0 = λ ps qs. LikenessIs k ps qs plan.matches.now plan.short c.args.s record { atoms = 0; reading = c.pick-else-s-n.result } in
    let l : plan.short.row < length c.rows-second.result.now = omega (arith, ap length c.rows-second.ensures.value) in
    subst₂ L c.rows-first.ensures.value c.rows-second.ensures.value
    (like_new k c.rows-first.result.now c.rows-second.result.now plan.matches.now plan.short c.args.s c.index-second-c.result l c.index-second-c.is
    c.whole.result _ c.if-s-n.false refl c.whole.ensures.law
    (subst (λ e. Picks k c.whole.result c.index-second-c.result.restriction plan.short.need (eqb c.args.s e) c.pick-else-s-n.result) c.slot.ensures.value c.pick-else-s-n.ensures))
