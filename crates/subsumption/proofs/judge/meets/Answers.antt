use Rattle.std.proofs.Common.{rules, ◌≡◌, ◌+◌, length, sym, refl, subst, arith}
use Rattle.subsumption.proofs.Judging.{Sofar, formed_some, kin_inside, judged_first, judged_later, judged_all, judged_moved, told_moved, sofar_first, sofar_passed, sofar_stepped}
use Rattle.subsumption.proofs.judge.meets.Goals as goal
use Rattle.subsumption.proofs.judge.meets.Goals.{in-Some+else-not-filled, in_default}

pub bounds-groups-0 : goal.bounds-groups-0
bounds-groups-0 g c = formed_some g.K.Kind.domain c.groups-groups.result.now c.groups-groups.ensures.formed

pub returns-then-not-suits : goal.returns-then-not-suits
returns-then-not-suits g c =
    let k = g.K.Kind.domain in
    judged_moved k c.groups-groups.ensures.value c.rows-rows.ensures.value
    (judged_first k c.groups-groups.result.now c.rows-rows.result.now c.groups-groups.ensures.formed c.rows-rows.ensures.shaped c.index-rows-0.result c.index-groups-0.result
    c.index-rows-0.is c.index-groups-0.is c.if-not-suits.ensures)

pub loop-c-init : goal.loop-c-init
loop-c-init g c =
    sofar_first g.K.Kind.domain c.groups-groups.result.now c.rows-rows.result.now c.groups-groups.ensures.formed c.rows-rows.ensures.shaped c.index-rows-0.result c.index-groups-0.result
    c.index-rows-0.is c.index-groups-0.is (c.if-not-suits.ensures.0 refl)

pub filled-requires : goal.filled-requires
filled-requires g c = kin_inside g.K.Kind.domain c.groups-groups.result.now c.in-Some.h c.index-rows-c.result.role c.child-kin.result c.child-kin.ensures.value

pub returns-then-not-filled : goal.returns-then-not-filled
returns-then-not-filled g c =
    let k = g.K.Kind.domain in
    let rows = c.rows-rows.result.now in
    let same = c.rows-rows.ensures.value in
    judged_moved k c.groups-groups.ensures.value same
    (judged_later k c.groups-groups.result.now rows c.groups-groups.ensures.formed c.rows-rows.ensures.shaped c.loop-c.reached c.loop-c.c c.from.result c.index-rows-c.result
    c.loop-c.invariant (omega arith) c.loop-c-test.true c.index-rows-c.is c.from.ensures c.in-Some.h c.bounds.result.lower c.bounds.result.upper c.child-kin.result c.in-Some.is
    c.child-kin.ensures.value (told_moved k (λ y. y.lower) same c.loop-c-test.true c.bounds.ensures.lower) (told_moved k (λ y. y.upper) same c.loop-c-test.true c.bounds.ensures.upper)
    c.if-not-filled.ensures)

pub loop-c-preserved : goal.loop-c-preserved
loop-c-preserved g c =
    let k = g.K.Kind.domain in
    let gs = c.groups-groups.result.now in
    let rows = c.rows-rows.result.now in
    let same = c.rows-rows.ensures.value in
    let row = c.index-rows-c.result in
    elim c.match-reached-from.branch [
      | in-Some+else-not-filled w ↦ subst (λ rs. Sofar k gs rows rs (c.loop-c.c + 1)) (sym w.reached-is)
          (sofar_stepped k gs rows c.groups-groups.ensures.formed c.rows-rows.ensures.shaped c.loop-c.reached c.loop-c.c c.from.result row c.loop-c.invariant (omega arith) c.loop-c-test.true
          c.index-rows-c.is c.from.ensures w.in-Some.h w.bounds.result.lower w.bounds.result.upper w.child-kin.result w.in-Some.is w.child-kin.ensures.value
          (told_moved k (λ y. y.lower) same c.loop-c-test.true w.bounds.ensures.lower) (told_moved k (λ y. y.upper) same c.loop-c-test.true w.bounds.ensures.upper) w.if-not-filled.ensures)
      | in_default w ↦ subst (λ rs. Sofar k gs rows rs (c.loop-c.c + 1)) (sym w.reached-is)
          (sofar_passed k gs rows c.groups-groups.ensures.formed c.rows-rows.ensures.shaped c.loop-c.reached c.loop-c.c c.from.result row c.loop-c.invariant (omega arith) c.loop-c-test.true
          c.index-rows-c.is c.from.ensures (search rules))
    ]

pub returns : goal.returns
returns g c =
    let k = g.K.Kind.domain in
    let rows = c.rows-rows.result.now in
    let end : c.loop-c.c ≡ length rows = omega arith in
    judged_moved k c.groups-groups.ensures.value c.rows-rows.ensures.value
    (judged_all k c.groups-groups.result.now rows c.groups-groups.ensures.formed c.rows-rows.ensures.shaped c.loop-c.reached
    (subst (λ i. Sofar k c.groups-groups.result.now rows c.loop-c.reached i) end c.loop-c.invariant))
