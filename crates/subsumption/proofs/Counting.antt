-- Going through the slots, and what is then written. Assumes nothing.
use Rattle.std.proofs.Common.{◌≡◌, ℕ, ◌+◌, ◌<◌, ◌≤◌, Bool, ◌⊎◌, Some, None, Option, sym, refl, ap, ◌∙◌, subst, inl, inr, ⊎_elim, arith}
use Rattle.std.proofs.lemmas.Option.{none-some, same_Some}
use Rattle.std.proofs.lemmas.Bool.{cases_lt}
use Rattle.rows.specs.declared.group.Group.{Group}
use Rattle.rows.specs.Suiting.{Kin, kin, no_kin, heads}
use Rattle.rows.proofs.Fitting.{Lone}
use Rattle.subsumption.specs.Census.{Stated, Fate, gone, idle, settled, Census}

module _ {V : Type 0} (up by many : ℕ → ℕ) (atom : ℕ → ℕ → Bool) (picked : ℕ → V → Type 0) (t : ℕ) (lower : (s : ℕ) → 0 < s → s < t → up s < s) where
  abbrev Done : ℕ → ℕ → (ℕ → Group V) → (ℕ → Option ℕ) → Type 0
  Done s g G made = Census up by many atom picked s g G made

  abbrev Went : ℕ → (ℕ → Group V) → ℕ → Option ℕ → Option ℕ → Type 0
  Went g G s a b = Fate up by many atom picked g G s a b

  lift : (g g' : ℕ) (G G' : ℕ → Group V) (s : ℕ) (a v : Option ℕ) → g ≤ g' → ((x : ℕ) → x < g → G' x ≡ G x) → Went g G s a v → Went g' G' s a v
  lift g g' G G' s a v l keep gone = gone
  lift g g' G G' s a v l keep (idle e) = idle e
  lift g g' G G' s a v l keep (settled {h = h} {x = x} z u w p e) = settled z (omega arith) w p (subst (λ y. Stated up by many atom picked s h (many s) y) (sym (keep x u)) e)

  -- row 0 has its group
  pub census_first : (G : ℕ → Group V) (made : ℕ → Option ℕ) → made 0 ≡ Some 0 → Stated up by many atom picked 0 0 1 (G 0) → Done 1 1 G made
  census_first G made e first = record {
    some = omega arith;
    number = omega arith;
    root = e;
    first = first;
    bound = λ b x u q. let z : b ≡ 0 = omega arith in let w : 0 ≡ x = same_Some 0 x (sym e ∙ subst (λ i. made i ≡ Some x) z q) in omega arith;
    fate = λ b z u. absurd (omega arith);
    from = λ x z u. absurd (omega arith);
    apart = λ b c x u v p q. omega arith;
  }

  module _ (s g : ℕ) (G : ℕ → Group V) (made : ℕ → Option ℕ) (z : 0 < s) (l : s < t) (c : Done s g G made)
      (made' : ℕ → Option ℕ) (same : (b : ℕ) → b < s → made' b ≡ made b) where
    newest : (b : ℕ) → b < s + 1 → s ≤ b → b ≡ s
    newest b u v = omega arith

    -- the slot gets no group
    pub census_none : made' s ≡ None → (made (up s) ≡ None) ⊎ (many s ≡ 0) → Done (s + 1) g G made'
    census_none e w = record {
      some = c.some;
      number = omega (arith, c.number);
      root = same 0 z ∙ c.root;
      first = c.first;
      bound = λ b x u q. c.bound b x (old b x u q) (sym (same b (old b x u q)) ∙ q);
      fate = λ b y u. ⊎_elim
          (λ v. subst (λ a. Went g G b a (made' b)) (sym (same (up b) (omega (arith, lower b y (omega arith))))) (subst (λ a. Went g G b (made (up b)) a) (sym (same b v)) (c.fate b y v)))
          (λ v. subst (λ i. Went g G i (made' (up i)) (made' i)) (sym (newest b u v)) (subst (λ a. Went g G s (made' (up s)) a) (sym e) (subst (λ a. Went g G s a None) (sym (same (up s) (lower s z l))) (last w))))
          (cases_lt b s);
      from = λ x y u. let k = c.from x y u in (k.0, k.1, omega (arith, k.2), same k.0 k.2 ∙ k.3);
      apart = λ a b x u v p q. c.apart a b x (old a x u p) (old b x v q) (sym (same a (old a x u p)) ∙ p) (sym (same b (old b x v q)) ∙ q);
    }
      where
        old : (b x : ℕ) → b < s + 1 → made' b ≡ Some x → b < s
        old b x u q = ⊎_elim (λ v. v) (λ v. absurd (none-some x (sym e ∙ subst (λ i. made' i ≡ Some x) (newest b u v) q))) (cases_lt b s)

        last : (made (up s) ≡ None) ⊎ (many s ≡ 0) → Went g G s (made (up s)) None
        last (inl n) = subst (λ a. Went g G s a None) (sym n) gone
        last (inr n) = idle n

    -- the slot gets group g
    pub census_some : (h : ℕ) (G' : ℕ → Group V) → ((x : ℕ) → x < g → G' x ≡ G x) → made' s ≡ Some g → made (up s) ≡ Some h → 0 < many s
        → Stated up by many atom picked s h (many s) (G' g) → Done (s + 1) (g + 1) G' made'
    census_some h G' keep e w p f = record {
      some = omega arith;
      number = omega (arith, c.number);
      root = same 0 z ∙ c.root;
      first = subst (λ y. Stated up by many atom picked 0 0 1 y) (sym (keep 0 c.some)) c.first;
      bound = λ b x u q. ⊎_elim
          (λ v. omega (arith, c.bound b x v (sym (same b v) ∙ q)))
          (λ v. let k = same_Some g x (sym e ∙ subst (λ i. made' i ≡ Some x) (newest b u v) q) in omega arith)
          (cases_lt b s);
      fate = λ b y u. ⊎_elim
          (λ v. lift g (g + 1) G G' b (made' (up b)) (made' b) (omega arith) keep
          (subst (λ a. Went g G b a (made' b)) (sym (same (up b) (omega (arith, lower b y (omega arith))))) (subst (λ a. Went g G b (made (up b)) a) (sym (same b v)) (c.fate b y v))))
          (λ v. subst (λ i. Went (g + 1) G' i (made' (up i)) (made' i)) (sym (newest b u v))
          (subst (λ a. Went (g + 1) G' s (made' (up s)) a) (sym e) (subst (λ a. Went (g + 1) G' s a (Some g)) (sym (same (up s) (lower s z l) ∙ w)) (settled c.some (omega arith) (c.bound (up s) h (lower s z l) w) p f))))
          (cases_lt b s);
      from = λ x y u. ⊎_elim
          (λ v. let k = c.from x y v in (k.0, k.1, omega (arith, k.2), same k.0 k.2 ∙ k.3))
          (λ v. let q : g ≡ x = omega arith in (s, z, omega arith, e ∙ ap Some q))
          (cases_lt x g);
      apart = λ a b x u v p q. go a b x u v p q (cases_lt a s) (cases_lt b s);
    }
      where
        new : (b x : ℕ) → b < s → made' b ≡ Some x → made' s ≡ Some x → ⊥
        new b x v q q' = let k = same_Some g x (sym e ∙ q') in omega (arith, c.bound b x v (sym (same b v) ∙ q))

        go : (a b x : ℕ) → a < s + 1 → b < s + 1 → made' a ≡ Some x → made' b ≡ Some x → (a < s) ⊎ (s ≤ a) → (b < s) ⊎ (s ≤ b) → a ≡ b
        go a b x u v p q (inl i) (inl j) = c.apart a b x i j (sym (same a i) ∙ p) (sym (same b j) ∙ q)
        go a b x u v p q (inl i) (inr j) = absurd (new a x i p (subst (λ d. made' d ≡ Some x) (newest b v j) q))
        go a b x u v p q (inr i) (inl j) = absurd (new b x j q (subst (λ d. made' d ≡ Some x) (newest a u i) p))
        go a b x u v p q (inr i) (inr j) = omega arith

  -- Once all slots have been gone through.
  module _ (g : ℕ) (G : ℕ → Group V) (made : ℕ → Option ℕ) (c : Done t g G made) where
    pub record Comes (s x : ℕ) : Type 0 where
      pub from : ℕ
      pub parent : made (up s) ≡ Some from
      pub before : from < x
      pub less : x < g
      pub more : 0 < x
      pub crowd : 0 < many s
      pub stated : Stated up by many atom picked s from (many s) (G x)

    comes_by : (s x : ℕ) (a v : Option ℕ) → made (up s) ≡ a → Went g G s a v → v ≡ Some x → Comes s x
    comes_by s x a v e gone q = absurd (none-some x q)
    comes_by s x a v e (idle n) q = absurd (none-some x q)
    comes_by s x a v e (settled {h = h} {x = y} z u w p f) q =
        let i : y ≡ x = same_Some y x q in
        subst (λ d. Comes s d) i (record { from = h; parent = e; before = w; less = u; more = z; crowd = p; stated = f })

    pub comes : (s x : ℕ) → 0 < s → s < t → made s ≡ Some x → Comes s x
    comes s x z l e = comes_by s x (made (up s)) (made s) refl (c.fate s z l) e

    -- the slot of a group
    pub source : (x : ℕ) → 0 < x → x < g → (s : ℕ) × (0 < s) × (s < t) × (made s ≡ Some x) × Comes s x
    source x z u = let k = c.from x z u in (k.0, k.1, k.2, k.3, comes k.0 x k.1 k.2 k.3)

    -- no other slot with elements hangs where slot s does
    abbrev pub Only : ℕ → Type 0
    Only s = (b : ℕ) → 0 < b → b < t → 0 < many b → up b ≡ up s → by b ≡ by s → b ≡ s

    pub census_lone : ((s : ℕ) → 0 < s → s < t → 0 < many s → Only s) → Lone G g
    census_lone only x y zx lx zy ly p r =
        let a = source x zx lx in
        let b = source y zy ly in
        let from : a.4.from ≡ b.4.from = sym a.4.stated.parent ∙ p ∙ b.4.stated.parent in
        let hang : up a.0 ≡ up b.0 = c.apart (up a.0) (up b.0) b.4.from (omega (arith, lower a.0 a.1 a.2, a.2)) (omega (arith, lower b.0 b.1 b.2, b.2)) (a.4.parent ∙ ap Some from) b.4.parent in
        let same : a.0 ≡ b.0 = only b.0 b.1 b.2 b.4.crowd a.0 a.1 a.2 a.4.crowd hang (sym a.4.stated.role ∙ r ∙ b.4.stated.role) in
        same_Some x y (sym a.3 ∙ ap made same ∙ b.3)

    -- nothing hangs from the group of a slot's parent by the slot's role but the slot's own group
    module _ (s h : ℕ) (z : 0 < s) (l : s < t) (e : made (up s) ≡ Some h) (only : Only s) where
      hung : (x : ℕ) → 0 < x → x < g → (G x).parent ≡ h → (G x).role ≡ by s → made s ≡ Some x
      hung x zx lx p r =
          let a = source x zx lx in
          let from : a.4.from ≡ h = sym a.4.stated.parent ∙ p in
          let hang : up a.0 ≡ up s = c.apart (up a.0) (up s) h (omega (arith, lower a.0 a.1 a.2, a.2)) (omega (arith, lower s z l)) (a.4.parent ∙ ap Some from) e in
          let same : a.0 ≡ s = only a.0 a.1 a.2 a.4.crowd hang (sym a.4.stated.role ∙ r) in
          sym (ap made same) ∙ a.3

      pub record Kept (o : Option ℕ) : Type 0 where
        pub near : Kin G g h (by s) o
        pub many_are : heads G g o ≡ many s
        pub lives : 0 < many s → (x : ℕ) × (o ≡ Some x)

      kept_by : (a v : Option ℕ) → a ≡ Some h → made s ≡ v → Went g G s a v → Kept v
      kept_by a v q m gone = absurd (none-some h q)
      kept_by a v q m (idle n) = record { near = no_kin (λ x zx lx p r. none-some x (sym m ∙ hung x zx lx p r)); many_are = sym n; lives = λ u. absurd (omega arith) }
      kept_by a v q m (settled {h = j} {x = x} zx u w p f) = record {
        near = kin zx u (f.parent ∙ same_Some j h q) f.role;
        many_are = f.headcount;
        lives = λ _. (x, refl);
      }

      pub kept : Kept (made s)
      kept = kept_by (made (up s)) (made s) e refl (c.fate s z l)
