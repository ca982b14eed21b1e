-- Looking for what hangs somewhere by a role, one after another. Assumes nothing.
use Rattle.std.proofs.Common.{◌≡◌, ℕ, zero, suc, ◌+◌, ◌-◌, ◌<◌, ◌≤◌, min, Bool, true, false, cond, ◌||◌, eqb, ◌⊎◌, List, length, get_or, take, is_some, Some, None, MatchOption, Option, sym, refl, ap, ◌∙◌, subst, inl, inr, ⊎_elim, arith}
use Rattle.std.proofs.lemmas.Option.{none-some}
use Rattle.std.proofs.lemmas.List.{get_or_read, length-take-le, get_or-take}
use Rattle.std.proofs.lemmas.Bool.{cases_eq, cases_lt, cases_order, eqb-true, eq-eqb, and_parts, and_from, false≢true, both_ways}
use Rattle.rows.specs.Hanging.{Hook, hangs_by, child_from, child_in}

module _ (H : ℕ → Hook) where
  -- d hangs from c by the role r
  pub record Hangs (c r d : ℕ) : Type 0 where
    pub parent : (H d).0 ≡ c
    pub role : (H d).1 ≡ r

  pub hangs_true : (c r d : ℕ) → hangs_by (H d) c r ≡ true → Hangs c r d
  hangs_true c r d e = let p = and_parts (eqb (H d).0 c) (eqb (H d).1 r) e in record { parent = eqb-true (H d).0 c p.0; role = eqb-true (H d).1 r p.1 }

  pub true_hangs : (c r d : ℕ) → Hangs c r d → hangs_by (H d) c r ≡ true
  true_hangs c r d w = and_from (eqb (H d).0 c) (eqb (H d).1 r) (eq-eqb (H d).0 c w.parent) (eq-eqb (H d).1 r w.role)

  child_from_some : (c r m b d : ℕ) → child_from H c r m b ≡ Some d → (b ≤ d) × (d < b + m) × Hangs c r d
  child_from_some c r zero b d e = absurd (cc)
  child_from_some c r (suc m) b d e = go (hangs_by (H b) c r) refl e (child_from_some c r m (b + 1) d)
    where
      go : (t : Bool) → hangs_by (H b) c r ≡ t → cond t (Some b) (child_from H c r m (b + 1)) ≡ Some d
          → (child_from H c r m (b + 1) ≡ Some d → (b + 1 ≤ d) × (d < b + 1 + m) × Hangs c r d)
          → (b ≤ d) × (d < b + suc m) × Hangs c r d
      go true q h past = let s : b ≡ d = cc in (omega arith, omega arith, subst (λ x. Hangs c r x) s (hangs_true c r b q))
      go false q h past = let w = past h in (omega (arith, w.0), omega (arith, w.1), w.2)

  child_from_finds : (c r m b d : ℕ) → b ≤ d → d < b + m → Hangs c r d → (x : ℕ) × (child_from H c r m b ≡ Some x)
  child_from_finds c r zero b d l h w = absurd (omega arith)
  child_from_finds c r (suc m) b d l h w = go (hangs_by (H b) c r) refl (λ p. child_from_finds c r m (b + 1) d p (omega arith) w)
    where
      go : (t : Bool) → hangs_by (H b) c r ≡ t → (b + 1 ≤ d → (x : ℕ) × (child_from H c r m (b + 1) ≡ Some x)) → (x : ℕ) × (cond t (Some b) (child_from H c r m (b + 1)) ≡ Some x)
      go true q past = (b, refl)
      go false q past = ⊎_elim
          (λ s. absurd (false≢true (sym q ∙ true_hangs c r b (subst (λ x. Hangs c r x) (sym s) w))))
          (λ s. past (elim (cases_order b d) [ inl z ↦ absurd (s z) | inr z ↦ omega arith ]))
          (cases_eq b d)

  -- nothing before the one that is found hangs there
  child_from_nearest : (c r m b d i : ℕ) → child_from H c r m b ≡ Some d → b ≤ i → i < d → Hangs c r i → ⊥
  child_from_nearest c r zero b d i e l h w = absurd (cc)
  child_from_nearest c r (suc m) b d i e l h w = go (hangs_by (H b) c r) refl e (λ p q. child_from_nearest c r m (b + 1) d i p q h w)
    where
      go : (t : Bool) → hangs_by (H b) c r ≡ t → cond t (Some b) (child_from H c r m (b + 1)) ≡ Some d
          → (child_from H c r m (b + 1) ≡ Some d → b + 1 ≤ i → ⊥) → ⊥
      go true q p past = let s : b ≡ d = cc in absurd (omega arith)
      go false q p past = ⊎_elim
          (λ s. absurd (false≢true (sym q ∙ true_hangs c r b (subst (λ x. Hangs c r x) (sym s) w))))
          (λ s. past p (elim (cases_order b i) [ inl z ↦ absurd (s z) | inr z ↦ omega arith ]))
          (cases_eq b i)

  -- a child is a later one that hangs there
  pub child_some : (n c r d : ℕ) → child_in H n c r ≡ Some d → (c < d) × (d < n) × Hangs c r d
  child_some n c r d e = let w = child_from_some c r (n - (c + 1)) (c + 1) d e in (omega (arith, w.0), omega (arith, w.0, w.1), w.2)

  pub child_nearest : (n c r d i : ℕ) → child_in H n c r ≡ Some d → c < i → i < d → Hangs c r i → ⊥
  child_nearest n c r d i e l h w = child_from_nearest c r (n - (c + 1)) (c + 1) d i e (omega arith) h w

  pub child_finds : (n c r d : ℕ) → c < d → d < n → Hangs c r d → (x : ℕ) × (child_in H n c r ≡ Some x)
  child_finds n c r d l h w = child_from_finds c r (n - (c + 1)) (c + 1) d (omega arith) (omega arith) w

  pub child_none : (n c r : ℕ) → child_in H n c r ≡ None → (d : ℕ) → c < d → d < n → Hangs c r d → ⊥
  child_none n c r e d l h w = let x = child_finds n c r d l h w in none-some x.0 (sym e ∙ x.1)

  -- the first after c that hangs there is the child
  pub child_is : (n c r : ℕ) (o : Option ℕ) → MatchOption o ((k : ℕ) → c < k → k < n → Hangs c r k → ⊥)
      (λ d. (c < d) × (d < n) × Hangs c r d × ((k : ℕ) → c < k → k < d → Hangs c r k → ⊥)) → o ≡ child_in H n c r
  child_is n c r None none = go (child_in H n c r) refl
    where
      go : (o : Option ℕ) → child_in H n c r ≡ o → None ≡ o
      go None e = refl
      go (Some d) e = let w = child_some n c r d e in absurd (none d w.0 w.1 w.2)
  child_is n c r (Some d) h =
      let x = child_finds n c r d h.0 h.1 h.2 in
      let w = child_some n c r x.0 x.1 in
      elim (cases_order d x.0) [
        | inl e ↦ ap Some e ∙ sym x.1
        | inr (inl l) ↦ absurd (child_nearest n c r x.0 d x.1 h.0 l h.2)
        | inr (inr l) ↦ absurd (h.3 x.0 w.0 l w.2)
      ]

  -- one more at the end
  pub scan_more : (c r m b : ℕ) → is_some (child_from H c r (suc m) b) ≡ (is_some (child_from H c r m b) || hangs_by (H (b + m)) c r)
  scan_more c r zero b = let e : b + 0 ≡ b = omega arith in go (hangs_by (H b) c r) ∙ sym (ap (λ x. false || hangs_by (H x) c r) e)
    where
      go : (t : Bool) → is_some (cond t (Some b) None) ≡ t
      go true = refl
      go false = refl
  scan_more c r (suc m) b =
      let e : b + suc m ≡ (b + 1) + m = omega arith in
      go (hangs_by (H b) c r) _ _ _ (scan_more c r m (b + 1)) ∙ ap (λ x. is_some (cond (hangs_by (H b) c r) (Some b) (child_from H c r m (b + 1))) || hangs_by (H x) c r) (sym e)
    where
      go : (t : Bool) (o p : Option ℕ) (z : Bool) → is_some o ≡ (is_some p || z) → is_some (cond t (Some b) o) ≡ (is_some (cond t (Some b) p) || z)
      go true o p z h = refl
      go false o p z h = h

-- what hangs alike has the same child
child_from_same : (H I : ℕ → Hook) (c r m b : ℕ) → ((i : ℕ) → i < b + m → H i ≡ I i) → child_from H c r m b ≡ child_from I c r m b
child_from_same H I c r zero b same = refl
child_from_same H I c r (suc m) b same =
    ap (λ h. cond (hangs_by h c r) (Some b) (child_from H c r m (b + 1))) (same b (omega arith))
    ∙ ap (λ o. cond (hangs_by (I b) c r) (Some b) o) (child_from_same H I c r m (b + 1) (λ i l. same i (omega arith)))

-- the child among the first n
pub child_front : {X : Type 0} (hook : X → Hook) (xs : List X) (n c r : ℕ) (e : X) → n ≤ length xs
    → child_in (λ i. hook (get_or (take n xs) i e)) (length (take n xs)) c r ≡ child_in (λ i. hook (get_or xs i e)) n c r
child_front hook xs n c r e l =
    ap (λ m. child_in (λ i. hook (get_or (take n xs) i e)) m c r) (length-take-le n xs l) ∙ go (cases_lt c n)
  where
    go : (c < n) ⊎ (n ≤ c) → child_in (λ i. hook (get_or (take n xs) i e)) n c r ≡ child_in (λ i. hook (get_or xs i e)) n c r
    go (inl h) = child_from_same _ _ c r (n - (c + 1)) (c + 1) (λ i u. ap hook (get_or-take n xs i e (omega arith)))
    go (inr h) =
        let z : n - (c + 1) ≡ 0 = omega arith in
        ap (λ m. child_from (λ i. hook (get_or (take n xs) i e)) c r m (c + 1)) z ∙ sym (ap (λ m. child_from (λ i. hook (get_or xs i e)) c r m (c + 1)) z)

-- The first element of a slice after c that hangs there.
module _ {X : Type 0} (hook : X → Hook) (xs : List X) (c r : ℕ) where
  -- the test of the element at i comes to t
  abbrev pub Tests : Bool → ℕ → Type 0
  Tests t i = (x : X) × (x ≡ get_or xs i x) × (hangs_by (hook x) c r ≡ t)

  -- looked for from the next number on, where that is at most u
  pub child_found : (s u : ℕ) (o : Option ℕ) → s ≡ min (c + 1) u → length xs ≤ u
      → MatchOption o ((k : ℕ) → s ≤ k → k < length xs → Tests false k) (λ i. (s ≤ i) × (i < length xs) × Tests true i × ((k : ℕ) → s ≤ k → k < i → Tests false k))
      → (e : X) → o ≡ child_in (λ i. hook (get_or xs i e)) (length xs) c r
  child_found s u o q l h e = child_is H (length xs) c r o (go o h)
    where
      H : ℕ → Hook
      H i = hook (get_or xs i e)

      test : (t : Bool) (k : ℕ) → k < length xs → Tests t k → hangs_by (H k) c r ≡ t
      test t k b w = subst (λ y. hangs_by (hook y) c r ≡ t) (get_or_read xs k w.0 b w.1 e) w.2

      not_there : (k : ℕ) → k < length xs → Tests false k → Hangs H c r k → ⊥
      not_there k b w there = both_ways (hangs_by (H k) c r) (test false k b w) (true_hangs H c r k there)

      go : (o : Option ℕ) → MatchOption o ((k : ℕ) → s ≤ k → k < length xs → Tests false k) (λ i. (s ≤ i) × (i < length xs) × Tests true i × ((k : ℕ) → s ≤ k → k < i → Tests false k))
          → MatchOption o ((k : ℕ) → c < k → k < length xs → Hangs H c r k → ⊥) (λ d. (c < d) × (d < length xs) × Hangs H c r d × ((k : ℕ) → c < k → k < d → Hangs H c r k → ⊥))
      go None none = λ k a b. not_there k b (none k (omega arith) b)
      go (Some i) w = (omega (arith, w.0, w.1), w.1, hangs_true H c r i (test true i w.1 w.2), λ k a b. let z : k < length xs = omega (arith, w.1) in not_there k z (w.3 k (omega arith) b))
