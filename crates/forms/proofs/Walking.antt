-- The lowest role after a path, and the next path. Assumes nothing.
use Rattle.std.proofs.Common.{◌≡◌, ℕ, ◌+◌, ◌<◌, ◌≤◌, Bool, true, false, ◌&&◌, ltb, List, ◌++◌, length, take, drop, Some, None, Option, MatchOption, sym, ◌∙◌, subst, ⊎_elim, arith}
use Rattle.std.proofs.lemmas.List.{length-take-le, take-append-drop}
use Rattle.std.proofs.lemmas.Bool.{both_ways, and_parts, and_from, cases_lt, lt-ltb, ltb-true}
use Rattle.masks.specs.Masks.{has, digit}
use Rattle.rows.specs.Tables.{then_role}
use Rattle.forms.specs.Laying.{Next}
use Rattle.forms.specs.Walks.{Lowest, Starts, Narrow, Turn}
use Rattle.forms.proofs.Successors.{Early, early_past, next_found}

-- a set has numbers below 64
pub has_small : (n s : ℕ) → has n s ≡ true → s < 64
has_small n s e = ltb-true s 64 (and_parts (ltb s 64) (digit n s) e).0

-- the first number of a range that is in the set
pub lowest_first : (set from : ℕ) (o : Option ℕ)
    → MatchOption o ((k : ℕ) → from ≤ k → k < 64 → has set k ≡ false) (λ i. (from ≤ i) × (i < 64) × (has set i ≡ true) × ((k : ℕ) → from ≤ k → k < i → has set k ≡ false))
    → Lowest set from o
lowest_first set from None none = λ s l h. both_ways (has set s) (none s l (has_small set s h)) h
lowest_first set from (Some r) w = (w.2, w.0, λ s l h. ⊎_elim (λ m. absurd (both_ways (has set s) (w.3 s l m) h)) (λ m. m) (cases_lt s r))

module _ (w : List ℕ → Bool) (narrow : Narrow w) where
  -- by the roles that are found after the first roles of a path
  pub turn_by : (π : List ℕ) (d set from : ℕ) (o : Option ℕ) → ((s : ℕ) → has set s ≡ (ltb s 64 && w (then_role (take d π) s))) → Starts (drop d π) from → Lowest set from o
      → Turn w π d o
  turn_by π d set from None seen starts low = λ s after written.
      let small : s < 64 = omega (arith, narrow (take d π) s written) in
      low s ((starts s small).0 after) (seen s ∙ and_from (ltb s 64) (w (then_role (take d π) s)) (lt-ltb s 64 small) written)
  turn_by π d set from (Some r) seen starts low =
      let small = has_small set r low.0 in (
        (starts r small).1 low.1,
        (and_parts (ltb r 64) (w (then_role (take d π) r)) (sym (seen r) ∙ low.0)).1,
        λ s after written.
            let narrow' : s < 64 = omega (arith, narrow (take d π) s written) in
            low.2 s ((starts s narrow').0 after) (seen s ∙ and_from (ltb s 64) (w (then_role (take d π) s)) (lt-ltb s 64 narrow') written),
      )

  module _ (fronts : (π : List ℕ) (r : ℕ) → w (then_role π r) ≡ true → w π ≡ true) (π : List ℕ) where
    abbrev cut : (d : ℕ) → π ≡ take d π ++ drop d π
    cut d = sym (take-append-drop d π)

    -- no later path parts from π at depth d
    pub early_turn : (d : ℕ) → d ≤ length π → Turn w π d None → Early w π (d + 1) → Early w π d
    early_turn d l none early =
        let e = length-take-le d π l in
        subst (λ x. Early w π x) e (early_past w fronts π (take d π) (drop d π) (cut d) none (subst (λ x. Early w π (x + 1)) (sym e) early))

    pub next_turn : (d r : ℕ) → d ≤ length π → Turn w π d (Some r) → Early w π (d + 1) → Next w π (then_role (take d π) r)
    next_turn d r l found early =
        let e = length-take-le d π l in
        next_found w fronts π (take d π) (drop d π) r (cut d) (subst (λ x. Early w π (x + 1)) (sym e) early) found.0 found.1 found.2
