use Rattle.std.proofs.Common.{◌≡◌, length, ap, subst, arith, length-set}
use Rattle.rows.specs.Tables.{rows_of}
use Rattle.rows.proofs.Clearing.{form_shaped}
use Rattle.subsumption.specs.Matches.{Matched}
use Rattle.subsumption.specs.Outcome.{matches_of}
use Rattle.subsumption.proofs.Turning.{matched_first, stopped_first, matched_more, stopped_row, decided_stop}
use Rattle.subsumption.proofs.decide.decide.Goals as goal

pub returns-in-Err : goal.returns-in-Err
returns-in-Err g c e =
    let k = g.K.Kind.domain in
    let ps = c.args.p.now.rows.now in
    let qs = c.args.q.now.rows.now in
    let lacks = c.in-Err.ensures e (rows_of e qs 0) (c.of.ensures e) in
    decided_stop k (rows_of e ps) (length ps) (rows_of e qs) (length qs) _ c.short.result 0 c.in-Err.gap.need c.short.ensures.0 c.short.ensures.1 (omega arith)
    (stopped_first k ps qs c.args.matches.now e c.in-Err.gap.need (omega arith) lacks.1)

pub loop-c-init : goal.loop-c-init
loop-c-init g c =
    let qs = c.args.q.now.rows.now in (
      simp length-set (omega arith),
      λ e.
          matched_first g.K.Kind.domain c.args.p.now.rows.now qs c.args.matches.now e c.in_default.field-0 (form_shaped c.args.p.now) (omega arith)
          (c.in_default.ensures e (rows_of e qs 0) (c.of.ensures e)),
    )

pub returns-in-Err-turn : goal.returns-in-Err-turn
returns-in-Err-turn g c e =
    let k = g.K.Kind.domain in
    let ps = c.args.p.now.rows.now in
    let qs = c.args.q.now.rows.now in
    let gap = c.in-Err-turn.gap in
    let same = c.rows-rows.ensures.value in
    let h = c.in-Err-turn.ensures e in
    decided_stop k (rows_of e ps) (length ps) (rows_of e qs) (length qs) _ c.short-in-Err-turn.result c.loop-c.c gap.need c.short-in-Err-turn.ensures.0 c.short-in-Err-turn.ensures.1
    (omega (arith, ap length same))
    (stopped_row k ps qs c.loop-c.matches e c.loop-c.c gap.here (form_shaped c.args.q.now) (omega arith) c.rows-rows.result.now same c.loop-c-test.true c.loop-c.invariant.0
    c.index-rows-c.result _ c.from.ensures (c.loop-c.invariant.1 e) h.0 gap.need h.1 h.2 h.3)

pub loop-c-preserved : goal.loop-c-preserved
loop-c-preserved g c = (
  simp length-set c.loop-c.invariant.0,
  λ e.
      matched_more g.K.Kind.domain c.args.p.now.rows.now c.args.q.now.rows.now c.loop-c.matches e c.loop-c.c c.in-Ok.here (form_shaped c.args.q.now) (omega arith)
      c.rows-rows.result.now c.rows-rows.ensures.value c.loop-c-test.true c.loop-c.invariant.0 c.index-rows-c.result _ c.from.ensures (c.loop-c.invariant.1 e) (c.in-Ok.ensures e),
)

pub returns : goal.returns
returns g c e =
    let ps = c.args.p.now.rows.now in
    let qs = c.args.q.now.rows.now in
    let end : c.loop-c.c ≡ length qs = omega (arith, ap length c.rows-rows.ensures.value) in
    subst (λ i. Matched g.K.Kind.domain (rows_of e ps) (length ps) (rows_of e qs) (matches_of c.loop-c.matches) i) end (c.loop-c.invariant.1 e)
