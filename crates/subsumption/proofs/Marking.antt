-- Marking the slots on the way to a row, from the row up. Assumes nothing.
use Rattle.std.proofs.Common.{◌≡◌, ℕ, zero, suc, ◌+◌, ◌<◌, ◌≤◌, cond, eqb, List, length, set, replicate, sym, refl, ap, ◌∙◌, subst, ⊎_elim, arith}
use lib.ListN.{get_or-replicate}
use Rattle.std.proofs.lemmas.List.{length-replicate, get_or_past, get_or-set_same, get_or-set_other}
use Rattle.std.proofs.lemmas.Bool.{cond-true, cond-false, eq-eqb, ne_eqb, cases_lt, cases_eq}
use Rattle.kinds.specs.Domain.{Domain}
use Rattle.rows.specs.Shapes.{Shape}
use Rattle.rows.specs.declared.row.Row.{Row}
use Rattle.subsumption.specs.Matches.{Stops}
use Rattle.subsumption.specs.Slots.{slot_of, ancestor, Lineage, Forced, force_of}
use Rattle.subsumption.specs.declared.gap.Match.{Match}
use Rattle.subsumption.specs.declared.gap.Need.{Need}
use Rattle.subsumption.proofs.Ways as ways

module _ {R V : Type 0} (k : Domain R V) (P : ℕ → Row R) (n : ℕ) (Q : ℕ → Row R) (m : ℕ) (M : ℕ → Match) (shape : Shape P n) (other : Shape Q m)
    (c : ℕ) (here : Match) (need : Need) (small : c < m) (stops : Stops k P n Q M c here need) (is : M c ≡ here) (deep : ℕ) (line : Lineage Q c deep) (x : ℕ) where
  abbrev place : ℕ → ℕ
  place t = slot_of n (ancestor Q c t) (M (ancestor Q c t))

  -- the first t rows of the way are marked
  pub record MarkedTo (t : ℕ) (F : ℕ → ℕ) : Type 0 where
    pub few : t ≤ deep
    pub end : 0 < t → F (place 0) ≡ x
    pub way : (u : ℕ) → 0 < u → u < t → F (place u) ≡ 1
    pub elsewhere : (s : ℕ) → 0 < F s → (u : ℕ) × (u < t) × (s ≡ place u)

  pub marked_none : (F : ℕ → ℕ) → ((s : ℕ) → F s ≡ 0) → MarkedTo 0 F
  marked_none F h = record { few = omega arith; end = λ z. absurd (omega arith); way = λ u z l. absurd (omega arith); elsewhere = λ s l. absurd (let e = h s in omega arith) }

  -- one more
  pub marked_more : (t : ℕ) (F F' : ℕ → ℕ) → MarkedTo t F → t < deep → (t ≡ 0 → F' (place t) ≡ x) → (0 < t → F' (place t) ≡ 1) → ((s : ℕ) → (s ≡ place t → ⊥) → F' s ≡ F s) → MarkedTo (t + 1) F'
  marked_more t F F' h l first later same = record {
    few = omega arith;
    end = λ z. ⊎_elim
        (λ e. subst (λ u. F' (place u) ≡ x) e (first e))
        (λ ne. same (place 0) (λ q. ne (sym (apart 0 (omega arith) q))) ∙ h.end (omega arith))
        (cases_eq t 0);
    way = λ u z v. ⊎_elim
        (λ e. subst (λ w. F' (place w) ≡ 1) (sym e) (later (omega arith)))
        (λ ne. same (place u) (λ q. ne (apart u (omega arith) q)) ∙ h.way u z (omega arith))
        (cases_eq u t);
    elsewhere = λ s v. ⊎_elim
        (λ e. (t, omega arith, e))
        (λ ne. let w = h.elsewhere s (subst (λ y. 0 < y) (same s ne) v) in (w.0, omega (arith, w.1), w.2))
        (cases_eq s (place t));
  }
    where
      apart : (u : ℕ) → u ≤ deep → place u ≡ place t → u ≡ t
      apart u v q = ways.places_apart k P n Q m M shape other c here need small stops is deep line u t v (omega arith) q

  -- the way ends at row 0
  pub marked_all : (t : ℕ) (F : ℕ → ℕ) → MarkedTo t F → ancestor Q c t ≡ 0 → Forced P n Q M c x F
  marked_all t F h e = ⊎_elim
      (λ l. absurd (let r = line.rows t l in omega arith))
      (λ l.
      let q : t ≡ deep = (let f = h.few in omega arith) in
      let g = subst (λ u. MarkedTo u F) q h in
      record { deep = deep; line = line; end = g.end; way = g.way; elsewhere = g.elsewhere })
      (cases_lt t deep)

  -- rows of the way before its end hang above row 0
  pub unfinished : (t : ℕ) (F : ℕ → ℕ) → MarkedTo t F → 0 < ancestor Q c t → t < deep
  unfinished t F h z = ⊎_elim
      (λ l. l)
      (λ l. absurd (let q : t ≡ deep = (let f = h.few in omega arith) in let r = ap (ancestor Q c) q ∙ line.top in omega arith))
      (cases_lt t deep)

  -- so there is such a marking
  marking : (t : ℕ) → t ≤ deep → (F : ℕ → ℕ) × MarkedTo t F
  marking zero l = (λ _. 0, marked_none (λ _. 0) (λ s. refl))
  marking (suc t) l =
      let w = marking t (omega arith) in
      let F' : ℕ → ℕ = λ s. cond (eqb s (place t)) (cond (eqb t 0) x 1) (w.0 s) in
      let here_is : F' (place t) ≡ cond (eqb t 0) x 1 = cond-true (eqb (place t) (place t)) _ _ (eq-eqb (place t) (place t) refl) in
      let done = marked_more t w.0 F' w.1 l
      (λ e. here_is ∙ cond-true (eqb t 0) _ _ (eq-eqb t 0 e))
      (λ z. here_is ∙ cond-false (eqb t 0) _ _ (ne_eqb t 0 (λ e. omega arith)))
      (λ s ne. cond-false (eqb s (place t)) _ _ (ne_eqb s (place t) ne)) in
      let e : t + 1 ≡ suc t = omega arith in
      (F', subst (λ u. MarkedTo u F') e done)

  pub forcing : (F : ℕ → ℕ) × Forced P n Q M c x F
  forcing = let w = marking deep (omega arith) in (w.0, marked_all deep w.0 w.1 line.top)

-- a slice of zeros
pub zeros : (n s : ℕ) → force_of (replicate n 0) s ≡ 0
zeros n s = ⊎_elim (λ l. get_or-replicate n s 0 0 l) (λ l. get_or_past (replicate n 0) s 0 (let e : length (replicate {A = ℕ} n 0) ≡ n = length-replicate n 0 in omega arith)) (cases_lt s n)

-- The loop that marks: at row i, with `most` to be written there.
module _ {R V : Type 0} (k : Domain R V) (P : ℕ → Row R) (n : ℕ) (Q : ℕ → Row R) (m : ℕ) (M : ℕ → Match) (shape : Shape P n) (other : Shape Q m)
    (c : ℕ) (need : Need) (small : c < m) (stops : Stops k P n Q M c (M c) need) (x : ℕ) where
  abbrev deep : ℕ
  deep = (ways.lineage Q m other c small).0

  abbrev line : Lineage Q c deep
  line = (ways.lineage Q m other c small).1

  abbrev To : ℕ → (ℕ → ℕ) → Type 0
  To = MarkedTo k P n Q m M shape other c (M c) need small stops refl deep line x

  pub record Marks (i most : ℕ) (F : ℕ → ℕ) : Type 0 where
    pub rows : ℕ
    pub at : i ≡ ancestor Q c rows
    pub first : rows ≡ 0 → most ≡ x
    pub later : 0 < rows → most ≡ 1
    pub marked : To rows F

  pub marks_first : (F : ℕ → ℕ) → ((s : ℕ) → F s ≡ 0) → Marks c x F
  marks_first F none = record {
    rows = 0;
    at = refl;
    first = λ _. refl;
    later = λ z. absurd (omega arith);
    marked = marked_none k P n Q m M shape other c (M c) need small stops refl deep line x F none;
  }

  pub marks_more : (i most : ℕ) (F F' : ℕ → ℕ) → Marks i most F → 0 < i → F' (slot_of n i (M i)) ≡ most → ((s : ℕ) → (s ≡ slot_of n i (M i) → ⊥) → F' s ≡ F s) → Marks (Q i).parent 1 F'
  marks_more i most F F' h z here_is same =
      let t = h.rows in
      let e : t + 1 ≡ suc t = omega arith in
      let place_is : slot_of n i (M i) ≡ slot_of n (ancestor Q c t) (M (ancestor Q c t)) = ap (λ j. slot_of n j (M j)) h.at in
      let l = unfinished k P n Q m M shape other c (M c) need small stops refl deep line x t F h.marked (subst (λ j. 0 < j) h.at z) in
      record {
        rows = t + 1;
        at = ap (λ j. (Q j).parent) h.at ∙ sym (ap (ancestor Q c) e);
        first = λ q. absurd (omega arith);
        later = λ _. refl;
        marked = marked_more k P n Q m M shape other c (M c) need small stops refl deep line x t F F' h.marked l
            (λ q. ap F' (sym place_is) ∙ here_is ∙ h.first q)
            (λ q. ap F' (sym place_is) ∙ here_is ∙ h.later q)
            (λ s ne. same s (λ q. ne (q ∙ place_is)));
      }

  -- in a slice
  pub marks_set : (fs : List ℕ) (i most s p : ℕ) → Marks i most (force_of fs) → 0 < i → s ≡ slot_of n i (M i) → s < length fs → p ≡ (Q i).parent → Marks p 1 (force_of (set fs s most))
  marks_set fs i most s p h z e l q =
      subst (λ j. Marks j 1 (force_of (set fs s most))) (sym q)
      (marks_more i most (force_of fs) (force_of (set fs s most)) h z
      (ap (force_of (set fs s most)) (sym e) ∙ get_or-set_same fs s most 0 l)
      (λ t ne. get_or-set_other fs s t most 0 (λ f. ne (f ∙ e))))

  pub marks_all : (most : ℕ) (F : ℕ → ℕ) → Marks 0 most F → Forced P n Q M c x F
  marks_all most F h = marked_all k P n Q m M shape other c (M c) need small stops refl deep line x h.rows F h.marked (sym h.at)
