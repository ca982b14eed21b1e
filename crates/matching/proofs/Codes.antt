-- One code more in a list of codes. Assumes nothing.
use Rattle.std.proofs.Common.{◌≡◌, ℕ, ◌+◌, ◌<◌, eqb, ltb, List, length, get_or, sym, ◌∙◌, subst, ⊎_elim, arith, Bor}
use Rattle.std.proofs.lemmas.List.{get_or_default}
use Rattle.std.proofs.lemmas.Bool.{or_cases, or_left, or_right, and_parts, and_from, eqb-true, eq-eqb, lt-ltb, cases_lt}
use Rattle.masks.specs.Masks.{has, Single, Joined}
use Rattle.matching.specs.Words.{IsCode, Writes, Listed}

pub listed_more : (ps : List (Bor (List ℕ))) (n bits one r c : ℕ) (d : Bor (List ℕ)) → n < length ps
    → Listed ps n bits → IsCode (get_or ps n d).now c → Single c one → Joined bits one r → Listed ps (n + 1) r
listed_more ps n bits one r c d within before code single joined =
    let here : Writes ps n c = λ e. subst (λ (p : Bor (List ℕ)). IsCode p.now c) (get_or_default ps n d e within) code in
    record {
      each = λ i l. ⊎_elim (λ below. before.each i below) (λ above. let same : i ≡ n = omega arith in (c, subst (λ j. Writes ps j c) (sym same) here)) (cases_lt i n);
      set = λ k. (
        λ t. ⊎_elim
            (λ old. let s = (before.set k).0 old in (s.0, omega (arith, s.1), s.2))
            (λ new.
            let same = eqb-true k c (and_parts (ltb c 64) (eqb k c) (sym (single k) ∙ new)).1 in
            (n, omega arith, subst (λ j. Writes ps n j) (sym same) here))
            (or_cases (has bits k) (has one k) (sym (joined k) ∙ t)),
        λ s. joined k ∙ ⊎_elim
            (λ below. or_left (has bits k) (has one k) ((before.set k).1 (s.0, below, s.2)))
            (λ above.
            let at : s.0 ≡ n = omega (arith, s.1) in
            let same : k ≡ c = (subst (λ j. Writes ps j k) at s.2 d).1 ∙ sym code.1 in
            or_right (has bits k) (has one k) (single k ∙ and_from (ltb c 64) (eqb k c) (lt-ltb c 64 code.2) (eq-eqb k c same)))
            (cases_lt s.0 n),
      );
    }
