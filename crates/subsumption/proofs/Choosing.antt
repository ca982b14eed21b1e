-- Where a row asks for more, it is not so that all that meets the first form meets the second, whether or not readings are at hand. Assumes nothing.
use Rattle.std.proofs.Common.{◌≡◌, ℕ, zero, suc, ◌+◌, ◌<◌, ◌≤◌, Bool, cond, eqb, ltb, ◌⊎◌, Some, None, Option, sym, refl, ap, ◌∙◌, subst, inl, inr, ⊎_elim, arith}
use Rattle.std.proofs.lemmas.Bool.{cond-true, cond-false, eq-eqb, ne_eqb, lt-ltb, le-ltb, cases_lt}
use Rattle.masks.specs.Masks.{has}
use Rattle.kinds.specs.Domain.{Domain}
use Rattle.rows.specs.Groups.{total_some}
use Rattle.rows.specs.Shapes.{Shape, Coherent}
use Rattle.rows.specs.declared.group.Group.{Group}
use Rattle.rows.specs.declared.row.Row.{Row}
use Rattle.subsumption.specs.Census.{Stated, Census}
use Rattle.subsumption.specs.Given.{gives}
use Rattle.subsumption.specs.Inclusion.{Included}
use Rattle.subsumption.specs.Matches.{Stops}
use Rattle.subsumption.specs.Slots.{slot_of, amount, given_at, heads_at, parent_of, role_of, Picked, Forced}
use Rattle.subsumption.specs.declared.gap.Match.{Match}
use Rattle.subsumption.specs.declared.gap.Need.{Need}
use Rattle.subsumption.proofs.Counting.{census_first, census_none, census_some}
use Rattle.subsumption.proofs.Marking.{forcing}
use Rattle.subsumption.proofs.Refuting as refuting
use Rattle.subsumption.proofs.Ways.{own_own, own_past, lower, lineage}
use Rattle.masks.proofs.Digits.{has_zero}

-- a function changed at one place
change : {A : Type 0} → (ℕ → A) → ℕ → A → ℕ → A
change f i a j = cond (eqb j i) a (f j)

change_same : {A : Type 0} (f : ℕ → A) (i : ℕ) (a : A) → change f i a i ≡ a
unfolding change
change_same f i a = cond-true (eqb i i) a (f i) (eq-eqb i i refl)

change_other : {A : Type 0} (f : ℕ → A) (i : ℕ) (a : A) (j : ℕ) → j < i → change f i a j ≡ f j
unfolding change
change_other f i a j l = cond-false (eqb j i) a (f j) (ne_eqb j i (λ q. omega arith))

-- A census of any slots of which the readings are known.
module _ {V : Type 0} (up by many : ℕ → ℕ) (atom : ℕ → ℕ → Bool) (picked : ℕ → V → Type 0) (t : ℕ) (lower : (s : ℕ) → 0 < s → s < t → up s < s)
    (mask : ℕ → ℕ) (masked : (s a : ℕ) → has (mask s) a ≡ atom s a) (reading : ℕ → V) (read : (s : ℕ) → s < t → picked s (reading s)) where
  pub record Counted (s : ℕ) : Type 0 where
    pub number : ℕ
    pub groups : ℕ → Group V
    pub made : ℕ → Option ℕ
    pub census : Census up by many atom picked s number groups made

  group : ℕ → ℕ → ℕ → Group V
  group s h n = record { parent = h; role = by s; headcount = n; atoms = mask s; reading = reading s }

  stated : (s h n : ℕ) → s < t → (x : Group V) → x ≡ group s h n → Stated up by many atom picked s h n x
  unfolding group
  stated s h n l x e = subst (λ y. Stated up by many atom picked s h n y) (sym e) (record { parent = refl; role = refl; headcount = refl; atoms = masked s; reading = read s l })

  counted : (s : ℕ) → suc s ≤ t → Counted (suc s)
  counted zero l = record {
    number = 1;
    groups = λ _. group 0 0 1;
    made = λ _. Some 0;
    census = census_first up by many atom picked t lower (λ _. group 0 0 1) (λ _. Some 0) refl (stated 0 0 1 l (group 0 0 1) refl);
  }
  counted (suc s) l = next (counted s (omega arith))
    where
      e : suc s + 1 ≡ suc (suc s)
      e = omega arith

      none : (x : Counted (suc s)) → (x.made (up (suc s)) ≡ None) ⊎ (many (suc s) ≡ 0) → Counted (suc (suc s))
      none x w = record {
        number = x.number;
        groups = x.groups;
        made = change x.made (suc s) None;
        census = subst (λ i. Census up by many atom picked i x.number x.groups (change x.made (suc s) None)) e
            (census_none up by many atom picked t lower (suc s) x.number x.groups x.made (omega arith) l x.census (change x.made (suc s) None)
            (change_other x.made (suc s) None) (change_same x.made (suc s) None) w);
      }

      more : (x : Counted (suc s)) (h : ℕ) → x.made (up (suc s)) ≡ Some h → 0 < many (suc s) → Counted (suc (suc s))
      more x h w z = record {
        number = x.number + 1;
        groups = change x.groups x.number (group (suc s) h (many (suc s)));
        made = change x.made (suc s) (Some x.number);
        census = subst (λ i. Census up by many atom picked i (x.number + 1) (change x.groups x.number (group (suc s) h (many (suc s)))) (change x.made (suc s) (Some x.number))) e
            (census_some up by many atom picked t lower (suc s) x.number x.groups x.made (omega arith) l x.census (change x.made (suc s) (Some x.number))
            (change_other x.made (suc s) (Some x.number)) h (change x.groups x.number (group (suc s) h (many (suc s))))
            (change_other x.groups x.number (group (suc s) h (many (suc s)))) (change_same x.made (suc s) (Some x.number)) w z
            (stated (suc s) h (many (suc s)) l _ (change_same x.groups x.number (group (suc s) h (many (suc s))))));
      }

      go : (x : Counted (suc s)) (a : Option ℕ) → x.made (up (suc s)) ≡ a → Counted (suc (suc s))
      go x None q = none x (inl q)
      go x (Some h) q = ⊎_elim (λ z. more x h q z) (λ z. none x (inr (omega arith))) (cases_lt 0 (many (suc s)))

      next : Counted (suc s) → Counted (suc (suc s))
      next x = go x (x.made (up (suc s))) refl

  pub counted_all : (n : ℕ) → t ≡ suc n → Counted t
  counted_all n e = subst (λ i. Counted i) (sym e) (counted n (omega arith))

-- what is not absent at any of finitely many places is not absent at all of them
all_there : {A : ℕ → Type 0} (t : ℕ) → ((s : ℕ) → (A s → ⊥) → ⊥) → (((s : ℕ) → s < t → A s) → ⊥) → ⊥
all_there {A} zero each none = none (λ s l. absurd (omega arith))
all_there {A} (suc t) each none =
    all_there t each (λ before. each t (λ last. none (λ s l. ⊎_elim (before s) (λ h. let e : t ≡ s = omega arith in subst A e last) (cases_lt s t))))

module _ {R V : Type 0} (k : Domain R V) (P : ℕ → Row R) (n : ℕ) (Q : ℕ → Row R) (m : ℕ) (M : ℕ → Match) (shape : Shape P n) (other : Shape Q m) (coherent : Coherent k P n)
    (c : ℕ) (here : Match) (need : Need) (small : c < m) (stops : Stops k P n Q M c here need) (is : M c ≡ here) where
  -- the atoms of a slot
  mask : ℕ → ℕ
  mask s = cond (ltb s n) (P s).atoms 0

  masked : (s a : ℕ) → has (mask s) a ≡ (given_at k P n s).atom a
  unfolding mask
  masked s a = ⊎_elim
      (λ l. ap (λ w. has w a) (cond-true (ltb s n) _ _ (lt-ltb s n l)) ∙ sym (ap (λ o. (gives k P o).atom a) (own_own P n Q M s l)))
      (λ l. ap (λ w. has w a) (cond-false (ltb s n) _ _ (le-ltb s n l)) ∙ has_zero a ∙ sym (ap (λ o. (gives k P o).atom a) (own_past P n Q M s l)))
      (cases_lt s n)

  pub not_included : Included k P n Q m → ⊥
  not_included included =
      let line = lineage Q m other c small in
      let force = forcing k P n Q m M shape other c here need small stops is line.0 line.1 (amount need) in
      all_there (n + c + 1) (refuting.pick_exists k P n Q m M shape other coherent c here need small stops is force.0 force.1) (wrong force.0 force.1)
    where
      wrong : (F : ℕ → ℕ) → Forced P n Q M c (amount need) F → ((s : ℕ) → s < n + c + 1 → (v : V) × Picked k P n (slot_of n c (M c)) need (Q c) s v) → ⊥
      wrong F forced readings =
          let reading : (s : ℕ) → (v : V) × (s < n + c + 1 → Picked k P n (slot_of n c (M c)) need (Q c) s v) = λ s. ⊎_elim
          (λ l. let r = readings s l in (r.0, λ _. r.1))
          (λ h. (k.inhabited.0, λ l. absurd (omega arith)))
          (cases_lt s (n + c + 1)) in
          let done = counted_all (parent_of P n Q M) (role_of P n Q M) (heads_at k P n F) (λ s a. (given_at k P n s).atom a) (λ s v. Picked k P n (slot_of n c (M c)) need (Q c) s v) (n + c + 1)
          (lower k P n Q m M shape other c here need small stops is) mask masked (λ s. (reading s).0) (λ s l. (reading s).1 l) (n + c) (omega arith) in
          let model = refuting.refuted k P n Q m M shape other coherent c here need small stops is F forced done.number done.groups done.made done.census in
          let formed = model.formed in
          model.second (included _ 0 (total_some done.groups done.number formed.some (let e = formed.one in omega arith)) model.first)
