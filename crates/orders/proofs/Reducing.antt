-- The nearest places above one: those strictly above it, without those strictly above one of them. Assumes nothing.
use Rattle.std.proofs.Common.{◌≡◌, ℕ, ◌<◌, ◌≤◌, Bool, true, false, cond, not, ◌&&◌, ◌||◌, eqb, ltb, List, [], ◌∷◌, length, get_or, filter, Decides, refl, sym, ap, ◌∙◌, ⊎_elim, arith, zero-add}
use Rattle.std.specs.List.{Any, list_any, range_with_len}
use Rattle.std.proofs.lemmas.List.{get_or_past}
use Rattle.std.proofs.lemmas.List.Folds.{list_any_at, Any-from_list_any}
use Rattle.std.proofs.lemmas.List.FromFn.{get_or-range_with_len}
use Rattle.std.proofs.lemmas.Bool.{cases_lt, cases_Bool, both_ways, and_parts, and_from, eqb-false, ne_eqb, ltb-true, not-true, not_from_false}
use Rattle.masks.specs.Masks.{has, Lacking}
use Rattle.masks.proofs.Digits.{has_zero}
use Rattle.orders.specs.Reductions.{lies, strictly, Nearest}

-- past the table there is nothing
pub lies_past : (t : List ℕ) (p q : ℕ) → length t ≤ p → lies t p q ≡ false
lies_past t p q past = ap (λ m. has m q) (get_or_past t p 0 past) ∙ has_zero q

strict_parts : (t : List ℕ) (p q : ℕ) → strictly t p q ≡ true → (lies t p q ≡ true) × (q ≡ p → ⊥)
strict_parts t p q b = let parts = and_parts (lies t p q) (not (eqb q p)) b in (parts.0, eqb-false q p (not-true _ parts.1))

strict_from : (t : List ℕ) (p q : ℕ) → lies t p q ≡ true → (q ≡ p → ⊥) → strictly t p q ≡ true
strict_from t p q b ne = and_from (lies t p q) (not (eqb q p)) b (not_from_false _ (ne_eqb q p ne))

-- some place that is in the mask `above` lies strictly below q
pub record Further (t : List ℕ) (above q : ℕ) : Type 0 where
  pub place : ℕ
  pub taken : has above place ≡ true
  pub less : strictly t place q ≡ true

-- m has what lies strictly above some of zs
abbrev pub Beyond : List ℕ → List ℕ → ℕ → Type 0
Beyond t zs m = (q : ℕ) → has m q ≡ list_any (λ z. strictly t z q) zs

module _ (t : List ℕ) (above m : ℕ) (all : Beyond t (filter (has above) (range_with_len 0 64)) m) (q : ℕ) where
  abbrev less : ℕ → Bool
  less z = strictly t z q

  abbrev between : ℕ → Bool
  between z = has above z && less z

  kept_one : (b : Bool) (z : ℕ) (zs : List ℕ) → list_any less (cond b (z ∷ zs) zs) ≡ ((b && less z) || list_any less zs)
  kept_one true z zs = refl
  kept_one false z zs = refl

  kept : (zs : List ℕ) → list_any less (filter (has above) zs) ≡ list_any between zs
  kept [] = refl
  kept (z ∷ zs) = kept_one (has above z) z (filter (has above) zs) ∙ ap (λ b. between z || b) (kept zs)

  found : Any (λ z. between z ≡ true) (range_with_len 0 64) → Further t above q
  found x = let parts = and_parts (has above x.1) (less x.1) x.4 in record { place = x.1; taken = parts.0; less = parts.1 }

  pub further_all : Decides (has m q) (Further t above q)
  further_all = (
    λ b. found (Any-from_list_any between (range_with_len 0 64) (sym (kept (range_with_len 0 64)) ∙ sym (all q) ∙ b)),
    λ f.
        let small : f.place < 64 = ltb-true f.place 64 (and_parts (ltb f.place 64) _ f.taken).0 in
        let at : get_or (range_with_len 0 64) f.place 0 ≡ f.place = get_or-range_with_len 0 64 f.place 0 small ∙ zero-add f.place in
        all q ∙ kept (range_with_len 0 64)
        ∙ list_any_at between (range_with_len 0 64) f.place 0 small (ap between at ∙ and_from (has above f.place) (less f.place) f.taken f.less),
  )

module _ (t : List ℕ) (whole : length t ≡ 64) (p above m r : ℕ) (own : (q : ℕ) → has above q ≡ strictly t p q)
    (further : (q : ℕ) → Decides (has m q) (Further t above q)) (left : Lacking above m r) where
  nearest_from : (q : ℕ) → strictly t p q ≡ true → has m q ≡ false → (p < 64) × Nearest t p q
  nearest_from q less none =
      let low = strict_parts t p q less in (
        ⊎_elim (λ lt. lt) (λ past. absurd (both_ways (lies t p q) (lies_past t p q (omega (arith, past, whole))) low.0)) (cases_lt p 64),
        record {
          below = low.0;
          other = λ e. low.1 (sym e);
          nearest = λ z not_p not_q up over. both_ways (has m q) none ((further q).1 record {
            place = z;
            taken = own z ∙ strict_from t p z up not_p;
            less = strict_from t z q over (λ e. not_q (sym e));
          });
        },
      )

  nearest_to : (q : ℕ) → Nearest t p q → Further t above q → ⊥
  nearest_to q x f =
      let up = strict_parts t p f.place (sym (own f.place) ∙ f.taken) in
      let over = strict_parts t f.place q f.less in
      x.nearest f.place up.1 (λ e. over.1 (sym e)) up.0 over.0

  pub nearest_left : (q : ℕ) → Decides (has r q) ((p < 64) × Nearest t p q)
  nearest_left q = (
    λ b. let parts = and_parts (has above q) (not (has m q)) (sym (left q) ∙ b) in nearest_from q (sym (own q) ∙ parts.0) (not-true _ parts.1),
    λ h. left q ∙ and_from _ _ (own q ∙ strict_from t p q h.1.below (λ e. h.1.other (sym e)))
        (not_from_false _ (⊎_elim (λ b. absurd (nearest_to q h.1 ((further q).0 b))) (λ none. none) (cases_Bool (has m q)))),
  )
