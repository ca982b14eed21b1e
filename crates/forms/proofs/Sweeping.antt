-- The turns of the loop that takes away the rows below an upper number 0. Assumes nothing.
use Rattle.std.proofs.Common.{◌≡◌, ℕ, suc, ◌+◌, ◌<◌, ◌≤◌, Bool, true, false, cond, not, ◌||◌, List, length, get_or, set, Some, None, Option, replicate, sym, refl, ap, ◌∙◌, subst, ⊎_elim, add-one, arith}
use Rattle.std.proofs.lemmas.List.{get_or_past, get_or-replicate, get_or_read, get_or-set_same, get_or-set_other, length-set}
use Rattle.std.proofs.lemmas.Bool.{both_ways, cases_lt, or_left, not-true, not-false}
use Rattle.std.proofs.lemmas.Option.{cond_some, none-some}
use Rattle.kinds.specs.Domain.{Domain}
use Rattle.forms.specs.Stripping.{is_zero, Hung, Strips}
use Rattle.forms.specs.Finished.{FinishedBy}
use Rattle.rows.specs.declared.row.Row.{Row}
use Rattle.rows.proofs.Rooted.{Earlier}
use Rattle.forms.proofs.Stripping.{new, new_zero, new_more, new_same, new_strict, stop, keep, stop_first, keep_first, keep_by, stop_by, Carried, finished}

-- the number of a row, unless nothing below it stays
abbrev pub parent_of : {R : Type 0} → (ℕ → Row R) → ℕ → Option ℕ
parent_of T c = cond (not (stop T c)) (Some (new (keep T) c)) None

cond_none : {A : Type 0} (b : Bool) (x : A) → cond b (Some x) None ≡ None → b ≡ false
cond_none true x e = absurd (none-some x (sym e))
cond_none false x e = refl

module _ {R V : Type 0} (k : Domain R V) (xs : List (Row R)) where
  -- the rows as they were, whatever stands past their end
  abbrev pub was : Row R → ℕ → Row R
  was e c = get_or xs c e

  -- the first i rows have been carried over into ys, m of them stay, and the marks say so
  pub record Through (ys : List (Row R)) (un : List (Option ℕ)) (m i : ℕ) (e : Row R) : Type 0 where
    pub count : m ≡ new (keep (was e)) i
    pub under : (c : ℕ) → c < i → get_or un c None ≡ parent_of (was e) c
    pub carried : (c : ℕ) → c < i → keep (was e) c ≡ true → Carried k (was e) (λ b. get_or ys b e) c

  -- the same, and what holds whether or not each row hangs from an earlier one
  pub record Swept (ys : List (Row R)) (un : List (Option ℕ)) (m i : ℕ) : Type 0 where
    pub size : length un ≡ 128
    pub some : 0 < m
    pub few : m ≤ i
    pub blank : (c : ℕ) → i ≤ c → get_or un c None ≡ None
    pub first : (e : Row R) → get_or ys 0 e ≡ was e 0
    pub rest : (c : ℕ) (e : Row R) → i ≤ c → get_or ys c e ≡ was e c
    pub through : (e : Row R) → Earlier (was e) (length xs) → Through ys un m i e

  pub swept_none : Swept xs (set (replicate 128 None) 0 (Some 0)) 1 1
  swept_none = record {
    size = refl;
    some = omega arith;
    few = omega arith;
    blank = λ c l. get_or-set_other (replicate 128 None) 0 c (Some 0) None (λ q. omega arith) ∙ ⊎_elim (λ h. get_or-replicate 128 c None None h) (λ h. get_or_past (replicate 128 None) c None h) (cases_lt c 128);
    first = λ e. refl;
    rest = λ c e l. refl;
    through = λ e early. record {
      count = sym (new_more (keep (was e)) 0 (keep_first (was e)) ∙ ap suc (new_zero (keep (was e))));
      under = λ c l. let q : c ≡ 0 = omega arith in rw q (sym (rw (stop_first (was e), new_zero (keep (was e))) refl));
      carried = λ c l h. record { first = λ q. refl; later = λ z. absurd (omega arith) };
    };
  }

  module _ (ys : List (Row R)) (un : List (Option ℕ)) (m i : ℕ) (row : Row R) (s : Swept ys un m i) (z : 0 < i) (l : i < length xs) (fits : length xs ≤ 128) (room : length ys ≡ length xs) (read : row ≡ get_or ys i row) where
    same : (e : Row R) → row ≡ was e i
    same e = get_or_read ys i row (omega arith) read e ∙ s.rest i e (omega arith)

    module _ (e : Row R) (early : Earlier (was e) (length xs)) where
      t : Through ys un m i e
      t = s.through e early

      up : row.parent < i
      up = let q = early i z l in let p = ap (λ r. r.parent) (same e) in omega arith

      mark : get_or un row.parent None ≡ parent_of (was e) (was e i).parent
      mark = t.under row.parent up ∙ ap (λ r. parent_of (was e) r.parent) (same e)

      goes : get_or un row.parent None ≡ None → keep (was e) i ≡ false
      goes h = keep_by (was e) i z ∙ cond_none _ _ (sym mark ∙ h)

      stays : (p : ℕ) → get_or un row.parent None ≡ Some p → (keep (was e) i ≡ true) × (stop (was e) (was e i).parent ≡ false) × (new (keep (was e)) (was e i).parent ≡ p)
      stays p h = let x = cond_some _ _ _ (sym mark ∙ h) in (keep_by (was e) i z ∙ x.0, not-true _ x.0, x.1)

      stop_here : stop (was e) i ≡ (stop (was e) (was e i).parent || is_zero row.upper)
      stop_here = stop_by (was e) (length xs) early i z l ∙ ap (λ r. stop (was e) (was e i).parent || is_zero r.upper) (sym (same e))

    -- a row that goes
    pub swept_shut : get_or un row.parent None ≡ None → Swept ys un m (i + 1)
    swept_shut h = record {
      size = s.size;
      some = s.some;
      few = omega (arith, s.few);
      blank = λ c u. s.blank c (omega arith);
      first = s.first;
      rest = λ c e u. s.rest c e (omega arith);
      through = λ e early. record {
        count = (t e early).count ∙ sym (ap (new (keep (was e))) (add-one i) ∙ new_same (keep (was e)) i (goes e early h));
        under = λ c u. ⊎_elim
            (λ v. (t e early).under c v)
            (λ v.
            let q : c ≡ i = omega arith in
            let stops : stop (was e) i ≡ true = stop_here e early ∙ or_left _ _ (not-false _ (sym (keep_by (was e) i z) ∙ goes e early h)) in
            let none : get_or un i None ≡ None = s.blank i (omega arith) in
            rw q (none ∙ sym (ap (λ b. cond (not b) (Some (new (keep (was e)) i)) None) stops)))
            (cases_lt c i);
        carried = λ c u g. ⊎_elim
            (λ v. (t e early).carried c v g)
            (λ v. absurd (let q : c ≡ i = omega arith in both_ways (keep (was e) i) (goes e early h) (rw q at g)))
            (cases_lt c i);
      };
    }

    -- a row that stays
    module _ (vs : List (Option ℕ)) (p : ℕ) (r : Row R) (h : get_or un row.parent None ≡ Some p) (hung : Hung k row p r) (marks : vs ≡ cond (not (is_zero row.upper)) (set un i (Some m)) un) where
      marked : (b : Bool) → vs ≡ cond b (set un i (Some m)) un → (length vs ≡ 128) × (get_or vs i None ≡ cond b (Some m) None) × ((c : ℕ) → (c ≡ i → ⊥) → get_or vs c None ≡ get_or un c None)
      marked true q = (
        ap length q ∙ length-set un i (Some m) ∙ s.size,
        ap (λ x. get_or x i None) q ∙ get_or-set_same un i (Some m) None (omega (arith, s.size)),
        λ c ne. ap (λ x. get_or x c None) q ∙ get_or-set_other un i c (Some m) None ne,
      )
      marked false q = (ap length q ∙ s.size, ap (λ x. get_or x i None) q ∙ s.blank i (omega arith), λ c ne. ap (λ x. get_or x c None) q)

      abbrev now : (length vs ≡ 128) × (get_or vs i None ≡ cond (not (is_zero row.upper)) (Some m) None) × ((c : ℕ) → (c ≡ i → ⊥) → get_or vs c None ≡ get_or un c None)
      now = marked (not (is_zero row.upper)) marks

      apart : (e : Row R) (c : ℕ) → (c ≡ m → ⊥) → get_or (set ys m r) c e ≡ get_or ys c e
      apart e c ne = get_or-set_other ys m c r e ne

      module _ (e : Row R) (early : Earlier (was e) (length xs)) where
        old : (c : ℕ) → c < i → keep (was e) c ≡ true → Carried k (was e) (λ c. get_or (set ys m r) c e) c
        old c u g =
            let x = (t e early).carried c u g in
            let less = new_strict (keep (was e)) c i g u in record {
              first = λ o. apart e 0 (λ q. omega (arith, s.some)) ∙ x.first o;
              later = λ o. subst (λ y. Hung k (was e c) (new (keep (was e)) (was e c).parent) y) (sym (apart e _ (λ q. omega (arith, (t e early).count)))) (x.later o);
            }

        here : Carried k (was e) (λ c. get_or (set ys m r) c e) i
        here = record {
          first = λ o. absurd (omega arith);
          later = λ o.
              let at_m : get_or (set ys m r) (new (keep (was e)) i) e ≡ r = ap (λ c. get_or (set ys m r) c e) (sym (t e early).count) ∙ get_or-set_same ys m r e (omega (arith, s.few)) in
              let one : Hung k (was e i) p r = subst (λ y. Hung k y p r) (same e) hung in
              let two : Hung k (was e i) (new (keep (was e)) (was e i).parent) r = subst (λ y. Hung k (was e i) y r) (sym (stays e early p h).2) one in
              subst (λ y. Hung k (was e i) (new (keep (was e)) (was e i).parent) y) (sym at_m) two;
        }

        mark_here : get_or vs i None ≡ parent_of (was e) i
        mark_here =
            let stops : stop (was e) i ≡ is_zero row.upper = stop_here e early ∙ ap (λ b. b || is_zero row.upper) (stays e early p h).1 in
            now.1 ∙ ap (λ b. cond (not b) (Some m) None) (sym stops) ∙ ap (λ x. cond (not (stop (was e) i)) (Some x) None) (t e early).count

      pub swept_more : Swept (set ys m r) vs (m + 1) (i + 1)
      swept_more = record {
        size = now.0;
        some = omega arith;
        few = omega (arith, s.few);
        blank = λ c u. now.2 c (λ q. omega arith) ∙ s.blank c (omega arith);
        first = λ e. apart e 0 (λ q. omega (arith, s.some)) ∙ s.first e;
        rest = λ c e u. apart e c (λ q. omega (arith, s.few)) ∙ s.rest c e (omega arith);
        through = λ e early. record {
          count = add-one m ∙ ap suc (t e early).count ∙ sym (ap (new (keep (was e))) (add-one i) ∙ new_more (keep (was e)) i (stays e early p h).0);
          under = λ c u. ⊎_elim
              (λ v. now.2 c (λ q. omega arith) ∙ (t e early).under c v)
              (λ v. let q : c ≡ i = omega arith in rw q (mark_here e early))
              (cases_lt c i);
          carried = λ c u g. ⊎_elim
              (λ v. old e early c v g)
              (λ v. let q : c ≡ i = omega arith in subst (λ x. Carried k (was e) (λ c. get_or (set ys m r) c e) x) (sym q) (here e early))
              (cases_lt c i);
        };
      }

  -- all rows have been carried over
  pub swept_all : (ys : List (Row R)) (un : List (Option ℕ)) (m i : ℕ) → i ≡ length xs → Swept ys un m i → Strips k xs (length xs) ys m
  swept_all ys un m i q s e f w closing live placed settled =
      let t = s.through e placed.parents in
      subst (λ b. FinishedBy k f w (λ c. get_or ys c e) b) (sym (t.count ∙ ap (new (keep (was e))) q))
      (finished k (was e) (λ c. get_or ys c e) (length xs) placed.some placed.parents (λ c u. t.carried c (omega arith)) f w closing live placed settled)
