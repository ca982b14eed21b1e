-- The covers of a finite order lead everywhere that it does, and none can be spared. Assumes nothing.
use Rattle.std.proofs.Common.{◌≡◌, ℕ, zero, suc, ◌<◌, Bool, true, not, ◌&&◌, eqb, ltb, ◌⊎◌, List, get_or, Some, Decides, sym, refl, subst, inl, inr, ⊎_elim, arith}
use Rattle.std.proofs.lemmas.Bool.{cases_eq, cases_Bool, both_ways, and_parts, and_from, ne_eqb, eqb-false, ltb-true, not-true, not_from_false}
use Rattle.masks.specs.Masks.{has}
use Rattle.orders.specs.Ledgers.{Ledger, Preorder, Below, Covers, Proper, Leads, here, on, Diagram}
use Rattle.orders.specs.Reductions.{lies, Nearest, Reduction}
use Rattle.orders.specs.Theorems.{Tabled, ReductionFacts}
use Rattle.orders.proofs.Counting.{count, count_lt, Found, Missing, seek}
use Rattle.orders.proofs.Puts.{same_some}
use Rattle.orders.proofs.Steps.{First, append, first_of, weaker, but, spared_end, spared_start}

module _ {E : Type 0} (le : E → E → Type 0) (order : Preorder le) (L : Ledger E) where
  pub below_refl : (p : ℕ) (e : E) → L p ≡ Some e → Below le L p p
  below_refl p e is = record { first = e; second = e; held_p = is; held_q = is; less = order.reflexive e }

  below_trans : (p q z : ℕ) → Below le L p q → Below le L q z → Below le L p z
  below_trans p q z x y = record {
    first = x.first;
    second = y.second;
    held_p = x.held_p;
    held_q = y.held_q;
    less = order.transitive _ _ _ x.less (subst (λ (e : E). le e y.second) (same_some _ _ _ y.held_p x.held_q) y.less);
  }

  module _ (n : ℕ) (h : Proper le L n) where
    below_anti : (p q : ℕ) → Below le L p q → Below le L q p → p ≡ q
    below_anti p q x y =
        let a = same_some _ _ _ y.held_p x.held_q in
        let b = same_some _ _ _ y.held_q x.held_p in
        h.apart p q x.first x.second x.held_p x.held_q x.less
        (subst (λ (e : E). le e x.first) a (subst (λ (e : E). le y.first e) b y.less))

    -- the steps of a diagram from a held place are its covers
    module _ (step : ℕ → ℕ → Type 0) (d : Diagram le L step) where
      pub only_covers : (p q : ℕ) (e : E) → L p ≡ Some e → step p q → Covers le L p q
      only_covers p q e is s = record {
        below = d.sound p q e is (on s here);
        other = λ same. d.needed p q s (subst (λ (z : ℕ). Leads (but step p q) p z) same here);
        nearest = λ z not_p not_q low high. d.needed p q s (append
            (spared_end step p q (λ way. not_q (below_anti z q high (d.sound q z _ high.held_q way))) (d.complete p z low))
            (spared_start step p q (λ way. not_p (below_anti z p (d.sound z p _ low.held_q way) low)) (d.complete z q high)));
      }

      pub all_covers : (p q : ℕ) → Covers le L p q → step p q
      all_covers p q x = by (first_of (d.complete p q x.below))
        where
          by : (p ≡ q) ⊎ First step p q → step p q
          by (inl e) = absurd (x.other e)
          by (inr w) =
              let a = w.next in
              let low = d.sound p a _ x.below.held_p (on w.step_on here) in
              let not_p : a ≡ p → ⊥ = λ e. d.needed p a w.step_on (subst (λ (z : ℕ). Leads (but step p a) p z) (sym e) here) in
              ⊎_elim (λ e. subst (step p) e w.step_on) (λ not_q. absurd (x.nearest a not_p not_q low (d.sound a q _ low.held_q w.rest))) (cases_eq a q)

    -- steps that are covers
    module _ (step : ℕ → ℕ → Type 0) (covers : (p q : ℕ) → step p q → Covers le L p q) where
      sound : {p q : ℕ} (r : E) → L p ≡ Some r → Leads step p q → Below le L p q
      sound {p} r is here = below_refl p r is
      sound {p} {q} r is (on {q = a} s x) = let y = (covers p a s).below in below_trans p a q y (sound y.second y.held_q x)

      needed : (p q : ℕ) → step p q → Leads (but step p q) p q → ⊥
      needed p q s way = by (first_of way)
        where
          by : (p ≡ q) ⊎ First (but step p q) p q → ⊥
          by (inl e) = (covers p q s).other e
          by (inr w) =
              let x = covers p w.next w.step_on.0 in
              (covers p q s).nearest w.next (λ e. x.other (sym e)) (λ e. w.step_on.1 (refl, e)) x.below
              (sound _ x.below.held_q (weaker (λ _ _ t. t.0) w.rest))

      -- b says which places lie below which, and each cover is a step
      module _ (b : ℕ → ℕ → Bool) (decides : (p q : ℕ) → Decides (b p q) (Below le L p q)) (steps : (p q : ℕ) → Covers le L p q → step p q) where
        abbrev between : ℕ → ℕ → ℕ → Bool
        between p q z = b p z && b z q

        abbrev third : ℕ → ℕ → ℕ → Bool
        third p q z = not (eqb z p) && (not (eqb z q) && between p q z)

        fall : (a c m : ℕ) → a < c → c < suc m → a < m
        fall a c m x y = omega arith

        inside : (p q : ℕ) → Below le L p q → (p < n) × (q < n)
        inside p q x = (h.inside p _ x.held_p, h.inside q _ x.held_q)

        -- between p and z there is less than between p and q
        lower : (p q z : ℕ) → (z ≡ q → ⊥) → Below le L p q → Below le L z q → count (between p z) n < count (between p q) n
        lower p q z ne x y =
            count_lt (between p z) (between p q)
            (λ j t. let u = and_parts (b p j) (b j z) t in and_from (b p j) (b j q) u.0 ((decides j q).1 (below_trans j z q ((decides j z).0 u.1) y)))
            q
            (⊎_elim (λ t. absurd (ne (below_anti z q y ((decides q z).0 (and_parts (b p q) (b q z) t).1)))) (λ f. f) (cases_Bool (between p z q)))
            (and_from (b p q) (b q q) ((decides p q).1 x) ((decides q q).1 (below_refl q _ x.held_q)))
            n
            (inside p q x).1

        -- and so between z and q
        upper : (p q z : ℕ) → (z ≡ p → ⊥) → Below le L p q → Below le L p z → count (between z q) n < count (between p q) n
        upper p q z ne x y =
            count_lt (between z q) (between p q)
            (λ j t. let u = and_parts (b z j) (b j q) t in and_from (b p j) (b j q) ((decides p j).1 (below_trans p z j y ((decides z j).0 u.0))) u.1)
            p
            (⊎_elim (λ t. absurd (ne (below_anti z p ((decides z p).0 (and_parts (b z p) (b p q) t).0) y))) (λ f. f) (cases_Bool (between z q p)))
            (and_from (b p p) (b p q) ((decides p p).1 (below_refl p _ x.held_p)) ((decides p q).1 x))
            n
            (inside p q x).0

        third_parts : (p q z : ℕ) → third p q z ≡ true → (z ≡ p → ⊥) × (z ≡ q → ⊥) × Below le L p z × Below le L z q
        third_parts p q z t =
            let u = and_parts (not (eqb z p)) (not (eqb z q) && between p q z) t in
            let w = and_parts (not (eqb z q)) (between p q z) u.1 in
            let y = and_parts (b p z) (b z q) w.1 in
            (eqb-false z p (not-true _ u.0), eqb-false z q (not-true _ w.0), (decides p z).0 y.0, (decides z q).0 y.1)

        -- with none between, a step; else two ways through a third place, each with less between
        way_of : (m p q : ℕ) → ((a c : ℕ) → count (between a c) n < m → Below le L a c → Leads step a c) → count (between p q) n < suc m → Below le L p q
            → (p ≡ q) ⊎ (p ≡ q → ⊥) → Found (third p q) n ⊎ Missing (third p q) n → Leads step p q
        way_of m p q shorter lt x (inl e) _ = subst (λ (z : ℕ). Leads step p z) e here
        way_of m p q shorter lt x (inr ne) (inl found) =
            let z = found.number in
            let y = third_parts p q z found.passes in
            append (shorter p z (fall _ _ m (lower p q z y.1 x y.3) lt) y.2) (shorter z q (fall _ _ m (upper p q z y.0 x y.2) lt) y.3)
        way_of m p q shorter lt x (inr ne) (inr none) = on (steps p q record {
          below = x;
          other = ne;
          nearest = λ z not_p not_q low high.
              both_ways (third p q z) (none z (inside p z low).1)
              (and_from _ _ (not_from_false _ (ne_eqb z p not_p)) (and_from _ _ (not_from_false _ (ne_eqb z q not_q)) (and_from _ _ ((decides p z).1 low) ((decides z q).1 high))));
        }) here

        leads : (m p q : ℕ) → count (between p q) n < m → Below le L p q → Leads step p q
        leads zero p q lt x = absurd (omega arith)
        leads (suc m) p q lt x = way_of m p q (leads m) lt x (cases_eq p q) (seek (third p q) n)

        pub diagram : Diagram le L step
        diagram = record {
          sound = λ p q r is way. sound r is way;
          complete = λ p q x. leads (suc (count (between p q) n)) p q (omega arith) x;
          needed = needed;
        }

-- t says which places lie below which
module _ {E : Type 0} (le : E → E → Type 0) (order : Preorder le) (L : Ledger E) (n : ℕ) (h : Proper le L n) (t : List ℕ) (decides : Tabled le L t) where
  pub cover_from : (p q : ℕ) → Nearest t p q → Covers le L p q
  cover_from p q x = record {
    below = (decides p q).0 x.below;
    other = x.other;
    nearest = λ z not_p not_q low high. x.nearest z not_p not_q ((decides p z).1 low) ((decides z q).1 high);
  }

  pub cover_to : (p q : ℕ) → Covers le L p q → Nearest t p q
  cover_to p q x = record {
    below = (decides p q).1 x.below;
    other = x.other;
    nearest = λ z not_p not_q low high. x.nearest z not_p not_q ((decides p z).0 low) ((decides z q).0 high);
  }

  -- only places below 64 are held, since a mask has no others
  held_inside : (p : ℕ) (e : E) → L p ≡ Some e → p < 64
  held_inside p e is = ltb-true p 64 (and_parts (ltb p 64) _ ((decides p p).1 (below_refl le order L p e is))).0

  -- a mask of the nearest places has the covers
  pub covered : (p m : ℕ) → ((q : ℕ) → Decides (has m q) ((p < 64) × Nearest t p q)) → (q : ℕ) → Decides (has m q) (Covers le L p q)
  covered p m marks q = (λ b. cover_from p q ((marks q).0 b).1, λ x. (marks q).1 (held_inside p _ x.below.held_p, cover_to p q x))

  -- the reduced table is a diagram
  pub drawn : (s : List ℕ) → Reduction t s → Diagram le L (λ p q. lies s p q ≡ true)
  drawn s steps =
      diagram le order L n h (λ p q. lies s p q ≡ true)
      (λ p q. (covered p (get_or s p 0) (steps p) q).0)
      (lies t) decides
      (λ p q. (covered p (get_or s p 0) (steps p) q).1)

pub reduction_facts : {E : Type 0} (le : E → E → Type 0) → Preorder le → ReductionFacts le
reduction_facts le order = record {
  covers = λ L n t s h decides steps p. covered le order L n h t decides p (get_or s p 0) (steps p);
  diagram = λ L n t s h decides. drawn le order L n h t decides s;
  unique = λ L n step h d p q e is. (only_covers le order L n h (λ a b. step a b ≡ true) d p q e is, all_covers le order L n h (λ a b. step a b ≡ true) d p q);
}
