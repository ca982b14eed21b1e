use Rattle.std.proofs.Common.{set, true, refl, ap, inl, inr, arith}
use Rattle.std.proofs.lemmas.Bool.Decides.{not_from_Decides}
use Rattle.forms.proofs.Settling.{going_more, going_all}
use Rattle.forms.proofs.settle.settle.Goals as goal
use Rattle.forms.proofs.settle.settle.Goals.{else-parent-lt128-via-then-parent-lt128+else-over, else-parent-lt128-via-else-parent-lt128}

pub loop-c-preserved-then-over : goal.loop-c-preserved-then-over
loop-c-preserved-then-over g c =
    let l = c.loop-c in
    going_more g.K.Kind.domain c.args.rows.now l.rows c.args.dead.now l.dead _ l.c c.index-rows-c.result c.closed-row.result
    l.invariant (omega arith) c.loop-c-test.true (omega arith) c.index-rows-c.is c.closed-row.ensures
    (inl (ap (λ p. set l.dead p true) c.from-parent.ensures, omega arith, c.over.ensures.0 c.if-over.true))

pub loop-c-preserved : goal.loop-c-preserved
loop-c-preserved g c =
    let l = c.loop-c in
    going_more g.K.Kind.domain c.args.rows.now l.rows c.args.dead.now l.dead _ l.c c.index-rows-c.result c.closed-row.result
    l.invariant (omega arith) c.loop-c-test.true (omega arith) c.index-rows-c.is c.closed-row.ensures
    (inr (
      refl,
      λ inside. elim c.else-parent-lt128.branch [
        | else-parent-lt128-via-then-parent-lt128+else-over w ↦ not_from_Decides _ w.over.ensures w.if-over.false
        | else-parent-lt128-via-else-parent-lt128 w ↦ absurd (omega (arith, w.if-parent-lt128.false))
      ],
    ))

pub returns : goal.returns
returns g c = going_all g.K.Kind.domain _ _ _ _ _ _ c.bare.result c.loop-c.invariant (omega arith) c.loop-c-test.false (omega arith) c.bare.ensures
