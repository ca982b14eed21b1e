use Rattle.std.proofs.Common.{refl}
use Rattle.std.proofs.lemmas.Bool.Decides.{not_from_Decides}
use Rattle.subsumption.specs.Given.{shut, room, atoms, reading}
use Rattle.subsumption.proofs.Comparing.{beyond_lacks, beyond_counted, closed_shut, shut_closed, subset_marked, marked_subset, within_read, read_within}
use Rattle.subsumption.proofs.demand.Demand.against.Goals as goal

pub returns-in-Some : goal.returns-in-Some
returns-in-Some g c v q w s = (refl, beyond_lacks g.K.Kind.domain _ _ v q w s _ c.in-Some.ensures.value)

pub returns-then-is_closed : goal.returns-then-is_closed
returns-then-is_closed g c v q w s =
    let k = g.K.Kind.domain in
    shut (beyond_counted k _ _ v q w s c.in_default.ensures.value) (closed_shut k _ _ v q w s (c.is_closed.ensures.value.0 c.if-is_closed.true))

pub returns-then-not-is_subset : goal.returns-then-not-is_subset
returns-then-not-is_subset g c v q w s =
    let k = g.K.Kind.domain in (
      refl,
      atoms
          (λ h. not_from_Decides _ c.is_closed.ensures.value c.if-is_closed.false (shut_closed k _ _ v q w s h))
          (λ h. not_from_Decides _ c.is_subset.ensures c.if-not-is_subset.true (marked_subset k _ _ v q w s h)),
    )

pub returns-then-not-within : goal.returns-then-not-within
returns-then-not-within g c v q w s =
    let k = g.K.Kind.domain in (
      refl,
      reading
          (λ h. not_from_Decides _ c.is_closed.ensures.value c.if-is_closed.false (shut_closed k _ _ v q w s h))
          (λ h. not_from_Decides _ c.within.ensures.law c.if-not-within.true (read_within k _ _ v q w s h)),
    )

pub returns : goal.returns
returns g c v q w s =
    let k = g.K.Kind.domain in
    room (beyond_counted k _ _ v q w s c.in_default.ensures.value)
    (λ h. not_from_Decides _ c.is_closed.ensures.value c.if-is_closed.false (shut_closed k _ _ v q w s h))
    (subset_marked k _ _ v q w s (c.is_subset.ensures.0 c.if-not-is_subset.false))
    (within_read k _ _ v q w s (c.within.ensures.law.0 c.if-not-within.false))
