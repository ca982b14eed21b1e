use Rattle.std.proofs.Common.{◌≡◌, ◌<◌, length, replicate, refl, ap, ◌∙◌, subst, arith, length-set}
use Rattle.rows.specs.Tables.{rows_of}
use Rattle.rows.proofs.Clearing.{form_shaped, row_at}
use Rattle.subsumption.specs.Outcome.{matches_of}
use Rattle.subsumption.specs.Slots.{force_of}
use Rattle.subsumption.proofs.Marking.{Marks, marks_first, marks_set, marks_all, zeros}
use Rattle.subsumption.proofs.plan.mark_way.Goals as goal

pub loop-i-init : goal.loop-i-init
loop-i-init g c =
    let qs = c.args.q.now.rows.now in (
      omega arith,
      refl,
      λ e P goal shaped small shape stops.
          marks_first g.K.Kind.domain P c.args.n (rows_of e qs) (length qs) (matches_of c.args.matches.now) shape (shaped.1 e) c.args.c goal small stops c.args.count
          (force_of (replicate 256 0)) (zeros 256),
    )

pub loop-i-preserved : goal.loop-i-preserved
loop-i-preserved g c =
    let qs = c.args.q.now.rows.now in
    let shaped = form_shaped c.args.q.now in
    let i = c.loop-i.i in
    let row = c.index-rows-i.result in
    let l : i < length qs = omega (arith, c.loop-i.invariant.0, c.requires.row) in
    let parent = λ (e : _). c.from-i.ensures ∙ ap (λ r. r.parent) (row_at c.rows-rows.result.now qs i row e c.rows-rows.ensures.value l) in
    let low = (shaped.1 row).parents i c.loop-i-test.true l in (
      omega (arith, c.loop-i.invariant.0, parent row),
      length-set c.loop-i.force c.slot.result c.loop-i.most ∙ c.loop-i.invariant.1,
      λ e P goal shaped small shape stops.
          marks_set g.K.Kind.domain P c.args.n (rows_of e qs) (length qs) (matches_of c.args.matches.now) shape (shaped.1 e) c.args.c goal small stops c.args.count
          c.loop-i.force i c.loop-i.most c.slot.result _ (c.loop-i.invariant.2 e P goal shaped small shape stops) c.loop-i-test.true c.slot.ensures.value
          (omega (arith, c.slot.ensures.small, c.loop-i.invariant.1)) (parent e),
    )

pub returns : goal.returns
returns g c e P goal shape stops =
    let qs = c.args.q.now.rows.now in
    let shaped = form_shaped c.args.q.now in
    let z : c.loop-i.i ≡ 0 = omega arith in
    let done = c.loop-i.invariant.2 e P goal shaped c.requires.row shape stops in
    marks_all g.K.Kind.domain P c.args.n (rows_of e qs) (length qs) (matches_of c.args.matches.now) shape (shaped.1 e) c.args.c goal c.requires.row stops c.args.count
    c.loop-i.most (force_of c.loop-i.force)
    (subst (λ j. Marks g.K.Kind.domain P c.args.n (rows_of e qs) (length qs) (matches_of c.args.matches.now) shape (shaped.1 e) c.args.c goal c.requires.row stops c.args.count j c.loop-i.most (force_of c.loop-i.force)) z done)
