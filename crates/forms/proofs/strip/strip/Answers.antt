use Rattle.std.proofs.Common.{◌≡◌, set, cond, not, Some, arith}
use Rattle.std.proofs.lemmas.Grind.{common_steps}
use Rattle.forms.specs.Stripping.{is_zero}
use Rattle.forms.proofs.Sweeping.{swept_none, swept_shut, swept_more, swept_all}
use Rattle.forms.proofs.strip.strip.Goals as goal
use Rattle.forms.proofs.strip.strip.Goals.{then-not-is_zero, else-not-is_zero}

pub loop-c-init : goal.loop-c-init
loop-c-init g c = swept_none g.K.Kind.domain c.args.rows.now

pub loop-c-preserved-in_default : goal.loop-c-preserved-in_default
loop-c-preserved-in_default g c =
    let l = c.loop-c in
    swept_shut g.K.Kind.domain c.args.rows.now l.rows l.under l.m l.c c.index-rows-c.result
    l.invariant (omega arith) (omega arith) c.requires.few (omega arith) c.index-rows-c.is (grind (arith, common_steps))

pub loop-c-preserved : goal.loop-c-preserved
loop-c-preserved g c =
    let l = c.loop-c in
    let row = c.index-rows-c.result in
    let marks : c.if-not-is_zero.under ≡ cond (not (is_zero row.upper)) (set l.under l.c (Some l.m)) l.under = elim c.if-not-is_zero.branch [
      | then-not-is_zero w ↦ grind (arith, common_steps)
      | else-not-is_zero w ↦ grind (arith, common_steps)
    ] in
    swept_more g.K.Kind.domain c.args.rows.now l.rows l.under l.m l.c row
    l.invariant (omega arith) (omega arith) c.requires.few (omega arith) c.index-rows-c.is
    c.if-not-is_zero.under c.in-Some.parent c.hung.result (grind (arith, common_steps)) c.hung.ensures marks

pub returns-clause-finished : goal.returns-clause-finished
returns-clause-finished g c = swept_all g.K.Kind.domain c.args.rows.now _ _ _ _ (omega arith) c.loop-c.invariant
