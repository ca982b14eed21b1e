use Rattle.std.proofs.Common.{rules, ◌≡◌, ◌+◌, ◌<◌, length, ap, subst, inl, inr, arith}
use Rattle.subsumption.proofs.Writing.{Sofar, started, passed, stepped, written, moved}
use Rattle.subsumption.proofs.countermodel.Plan.write.Goals as goal
use Rattle.subsumption.proofs.countermodel.Plan.write.Goals.{in-Some+then-slot-gt0, in-Some+else-slot-gt0, in_default}

pub loop-s-init : goal.loop-s-init
loop-s-init g c =
    let plan = c.args.self.now in
    started g.K.Kind.domain plan.first.now.rows.now plan.second.now.rows.now plan.matches.now plan.force.now plan.short c.args.groups.now c.group.result (omega (arith, c.requires.room)) c.group.ensures

pub loop-s-preserved : goal.loop-s-preserved
loop-s-preserved g c =
    let k = g.K.Kind.domain in
    let plan = c.args.self.now in
    let ps = plan.first.now.rows.now in
    let qs = plan.second.now.rows.now in
    let old = c.args.groups.now in
    let so = c.loop-s.invariant in
    let slot = c.slot-slot.result in
    let few = plan.first.now.few in
    let less = plan.second.now.few in
    let l : c.loop-s.s < length ps + plan.short.row + 1 = omega (arith, ap length c.rows.ensures.value, c.loop-s-test.true) in
    let small : c.loop-s.s < 256 = omega (arith, l, few, less, plan.row) in
    let fits : c.loop-s.g < length c.loop-s.groups = omega (arith, so.few, small, so.size, c.requires.room) in
    elim c.match-made-slot.branch [
      | in-Some+then-slot-gt0 w ↦ moved k ps qs plan.matches.now plan.force.now plan.short old w.groups-is w.made-is w.g-is
          (stepped k ps qs plan.matches.now plan.force.now plan.short old c.loop-s.groups c.loop-s.made c.loop-s.s c.loop-s.g slot.parent slot.headcount so (omega (arith, so.some, so.few)) l c.slot-slot.ensures.value.parent
          c.slot-slot.ensures.value.headcount w.in-Some.h w.group-then-slot-gt0.result w.in-Some.is w.if-slot-gt0.true w.group-then-slot-gt0.ensures fits small)
      | in-Some+else-slot-gt0 w ↦ moved k ps qs plan.matches.now plan.force.now plan.short old w.groups-is w.made-is w.g-is
          (passed k ps qs plan.matches.now plan.force.now plan.short old c.loop-s.groups c.loop-s.made c.loop-s.s c.loop-s.g slot.parent slot.headcount so (omega (arith, so.some, so.few)) l c.slot-slot.ensures.value.parent
          c.slot-slot.ensures.value.headcount (inr (omega (arith, w.if-slot-gt0.false))))
      | in_default w ↦ moved k ps qs plan.matches.now plan.force.now plan.short old w.groups-is w.made-is w.g-is
          (passed k ps qs plan.matches.now plan.force.now plan.short old c.loop-s.groups c.loop-s.made c.loop-s.s c.loop-s.g slot.parent slot.headcount so (omega (arith, so.some, so.few)) l c.slot-slot.ensures.value.parent
          c.slot-slot.ensures.value.headcount (inl (search rules)))
    ]

pub returns-clause-written : goal.returns-clause-written
returns-clause-written g c =
    let plan = c.args.self.now in
    let ps = plan.first.now.rows.now in
    let end : c.loop-s.s ≡ length ps + plan.short.row + 1 = omega (arith, ap length c.rows.ensures.value) in
    written g.K.Kind.domain ps plan.second.now.rows.now plan.matches.now plan.force.now plan.short c.args.groups.now c.loop-s.groups c.loop-s.made c.loop-s.g
    (subst (λ i. Sofar g.K.Kind.domain ps plan.second.now.rows.now plan.matches.now plan.force.now plan.short c.args.groups.now c.loop-s.groups c.loop-s.made i c.loop-s.g) end c.loop-s.invariant)
