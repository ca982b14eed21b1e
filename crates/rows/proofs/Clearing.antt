-- Testing the rows of a slice. Assumes nothing.
use Rattle.std.proofs.Common.{◌≡◌, ℕ, ◌+◌, ◌-◌, ◌<◌, ◌≤◌, Bool, true, false, List, length, get_or, take, drop, Decides, MatchBool, sym, refl, ap, ◌∙◌, subst, arith, length-drop}
use Rattle.std.specs.List.{list_all, range_with_len, AllWithin, HoldsAt}
use Rattle.std.proofs.lemmas.List.{get_or_read, get_or_default, get_or-take, get_or-drop, length-take-le}
use Rattle.std.proofs.lemmas.List.FromFn.{length-range_with_len, get_or-range_with_len}
use Rattle.std.proofs.lemmas.Bool.{false≢true}
use Rattle.std.proofs.lemmas.Bool.Decides.{same_from_decides, Decides-like, Decides-by_and}
use Rattle.concepts.proofs.Verdicts.{element}
use Rattle.rows.specs.Shapes.{every, precedes, clear, row_fine, Fine, Shaped}
use Rattle.rows.specs.Tables.{rows_of}
use Rattle.rows.specs.declared.form.Form.{Form}
use Rattle.rows.specs.declared.row.Row.{Row}
use Rattle.rows.proofs.Shaping.{Between, clear_between, between_clear, fine_shape, shape_fine}

-- The rows between a row and its parent, as a slice.
module _ {R : Type 0} (xs : List (Row R)) (c : ℕ) (inside : c < length xs) (e : Row R) where
  abbrev T : ℕ → Row R
  T = rows_of e xs

  module _ (start : ℕ) (next : start ≡ (T c).parent + 1) where
    abbrev between : List (Row R)
    between = take (c - start) (drop start xs)

    between_length : length between ≡ c - start
    between_length = length-take-le (c - start) (drop start xs) (omega (arith, length-drop start xs))

    between_at : (k b : ℕ) (d : Row R) → start + k ≡ b → b < c → get_or between k d ≡ T b
    between_at k b d q l =
        get_or-take (c - start) (drop start xs) k d (omega arith) ∙ get_or-drop start xs k d ∙ ap (λ i. get_or xs i d) q ∙ get_or_default xs b d e (omega arith)

    all_between : Decides (list_all (λ x. precedes x (T c)) between) (Between T c)
    all_between = Decides-like _
        (λ h b low high. let k = b - start in
        subst (λ x. precedes x (T c) ≡ true) (between_at k b e (omega arith) high) (h k e (omega (arith, between_length))))
        (λ h k d l. let high : start + k < c = omega (arith, between_length) in
        subst (λ x. precedes x (T c) ≡ true) (sym (between_at k (start + k) d refl high)) (h (start + k) (omega arith) high))
        (Decides-by_and (λ x. precedes x (T c)) (λ x. precedes x (T c) ≡ true) (list_all (λ x. precedes x (T c))) (λ x. (λ h. h, λ h. h)) refl (λ _ _. refl) between)

  -- they belong there exactly where every row before it is clear
  pub between_every : (y : Row R) (p : ℕ) → y ≡ get_or xs c y → p ≡ y.parent → list_all (λ x. precedes x y) (take (c - (p + 1)) (drop (p + 1) xs)) ≡ every (clear (rows_of e xs) c) c
  between_every y p is q =
      let row_is = get_or_read xs c y inside is e in
      let next : p + 1 ≡ (T c).parent + 1 = ap (λ n. n + 1) (q ∙ ap (λ x. x.parent) row_is) in
      subst (λ z. list_all (λ x. precedes x z) (between (p + 1) next) ≡ every (clear T c) c) (sym row_is)
      (same_from_decides _ (every (clear T c) c) (all_between (p + 1) next) (clear_between T c, between_clear T c))

-- Every row passes.
module _ {R : Type 0} (xs : List (Row R)) where
  -- the test of row c comes to t
  abbrev pub Tested : Bool → ℕ → Type 0
  Tested t c = (e : Row R) → t ≡ row_fine (rows_of e xs) c

  abbrev places : List ℕ
  places = range_with_len 0 (length xs)

  place : (c : ℕ) → c < length xs → get_or places c 0 ≡ c
  place c l = get_or-range_with_len 0 (length xs) c 0 l ∙ (let e : 0 + c ≡ c = omega arith in e)

  tested : (t : Bool) (c : ℕ) → c < length xs → HoldsAt (Tested t) places c → (e : Row R) → t ≡ row_fine (rows_of e xs) c
  tested t c l h e = subst (λ b. t ≡ row_fine (rows_of e xs) b) (place c l) (h 0 e)

  pub all_fine : (r : Bool) → MatchBool r (AllWithin (Tested true) places 0 (length places)) ((k : ℕ) × (k < length places) × HoldsAt (Tested false) places k) → Decides r (Fine xs)
  all_fine true h = (
    λ _ e c l. sym (tested true c l (λ d. h c d (omega arith) (omega (arith, length-range_with_len 0 (length xs)))) e),
    λ _. refl,
  )
  all_fine false h = (
    λ e. absurd (false≢true e),
    λ fine. absurd (
        let l : h.0 < length xs = omega (arith, h.1, length-range_with_len 0 (length xs)) in
        let x = (element xs h.0 l).0 in
        false≢true (tested false h.0 l h.2 x ∙ fine x h.0 l)),
  )

  -- rows that pass are well formed
  pub fine_shaped : 0 < length xs → length xs ≤ 128 → Fine xs → Shaped xs
  fine_shaped some few fine = (some, λ e. fine_shape (rows_of e xs) (length xs) some few (fine e))

  pub shaped_few : Shaped xs → length xs ≤ 128
  shaped_few shaped = (shaped.1 (element xs 0 shaped.0).0).few

  pub shaped_fine : Shaped xs → Fine xs
  shaped_fine shaped e c l = shape_fine (rows_of e xs) (length xs) (shaped.1 e) c l

-- a form has such rows
pub form_shaped : {R : Type 0} (f : Form R) → Shaped f.rows.now
form_shaped f = fine_shaped f.rows.now f.some f.few f.fine

-- a row that is read from a slice of its rows
pub row_at : {R : Type 0} (xs ys : List (Row R)) (c : ℕ) (y e : Row R) → xs ≡ ys → c < length ys → get_or xs c y ≡ rows_of e ys c
row_at xs ys c y e v l = ap (λ zs. get_or zs c y) v ∙ get_or_default ys c y e l
