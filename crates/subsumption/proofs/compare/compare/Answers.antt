use Rattle.std.proofs.Common.{length, refl, ap, subst}
use Rattle.rows.specs.Shapes.{Shape}
use Rattle.rows.specs.Tables.{rows_of}
use Rattle.rows.proofs.Clearing.{form_shaped}
use Rattle.subsumption.specs.Matches.{Stops}
use Rattle.subsumption.specs.Outcome.{matches_of}
use Rattle.subsumption.specs.Slots.{Forced, force_of}
use Rattle.subsumption.proofs.Answering.{inside, refuted}
use Rattle.subsumption.proofs.Deciding.{yes_included}
use Rattle.subsumption.proofs.compare.compare.Goals as goal

pub returns-in_default : goal.returns-in_default
returns-in_default g c = record {
  answer = (
    c.if-groups-lt-MOST_GROUPS.false,
    refl,
    λ e. yes_included g.K.Kind.domain c.args.p.now.rows.now c.args.q.now.rows.now (form_shaped c.args.p.now) (form_shaped c.args.q.now) (matches_of c.decide.new.matches) e
        (c.in_default.ensures e),
  );
}

pub mark_way-force-requires-clause-row : goal.mark_way-force-requires-clause-row
mark_way-force-requires-clause-row g c =
    inside g.K.Kind.domain c.args.p.now.rows.now c.args.q.now.rows.now (form_shaped c.args.p.now) (form_shaped c.args.q.now) c.decide.new.matches c.in-Err.short c.in-Err.ensures

pub invariant_of-plan : goal.invariant_of-plan
invariant_of-plan g c = record {
  row = inside g.K.Kind.domain c.args.p.now.rows.now c.args.q.now.rows.now (form_shaped c.args.p.now) (form_shaped c.args.q.now) c.decide.new.matches c.in-Err.short c.in-Err.ensures;
}

pub returns : goal.returns
returns g c =
    let k = g.K.Kind.domain in
    let ps = c.args.p.now.rows.now in
    let qs = c.args.q.now.rows.now in
    let M = matches_of c.decide.new.matches in
    let short = c.in-Err.short in
    record {
      answer = (
        c.if-groups-lt-MOST_GROUPS.false,
        c.write.ensures.few,
        c.write.ensures.room,
        c.write.ensures.past,
        λ e d coherent.
            let forced = subst (λ i. Shape (rows_of e ps) i → Stops k (rows_of e ps) i (rows_of e qs) M short.row (M short.row) short.need → Forced (rows_of e ps) i (rows_of e qs) M short.row c.amount.result (force_of c.mark_way-force.result))
            (ap length c.rows.ensures.value) (λ s t. c.mark_way-force.ensures e (rows_of e ps) short.need s t) ((form_shaped c.args.p.now).1 e) (c.in-Err.ensures e).1 in
            refuted k ps qs (form_shaped c.args.p.now) (form_shaped c.args.q.now) c.decide.new.matches short e coherent (c.in-Err.ensures e) c.mark_way-force.result c.amount.result
            c.write.result c.write.new.groups c.amount.ensures forced c.write.ensures.written d,
      );
    }
