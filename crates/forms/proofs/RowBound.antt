-- At most as many paths are written as the weight of a node says. Assumes nothing.
use Rattle.std.proofs.Common.{◌≡◌, ℕ, zero, suc, ◌+◌, ◌<◌, ◌≤◌, Bool, true, false, cond, not, ◌||◌, eqb, List, [], ◌∷◌, map, length, get_or, take, is_some, Some, None, filter, Option, unwrap_or, sym, refl, ap, subst, inl, inr, ⊎_elim, arith}
use lib.ListN.{length-map}
use Rattle.std.specs.List.{AllByRecursion}
use Rattle.std.proofs.ByRecursion.{all_kept_by, kept_by_passes, All-weaker, All-map}
use Rattle.std.proofs.lemmas.List.Filters.{length-filter_both}
use Rattle.std.proofs.lemmas.Bool.{cases_lt, cases_order, eqb-true, eqb-false, or_cases, or_left, or_right, and_parts, not-true, both_ways, false≢true}
use Rattle.std.proofs.lemmas.Bool.Decides.{nat_tests}
use Rattle.kinds.specs.Domain.{Domain}
use Rattle.concepts.specs.Concepts.{thing}
use Rattle.concepts.specs.Checks.{bad_operand, bad_entry}
use Rattle.concepts.specs.Tables.{is_nothing, is_prim, is_within, is_and, is_all, is_at_least, is_at_most, is_entry, values}
use Rattle.concepts.specs.Weights.{rows_at, node_weight}
use Rattle.concepts.specs.WellFormed.{WellFormed}
use Rattle.concepts.specs.declared.node.Node.{Node}
use Rattle.concepts.proofs.Values.{value_at, values_below}
use Rattle.concepts.proofs.Verdicts.{element}
use Rattle.forms.specs.Labels.{silent, writes}
use Rattle.rows.specs.Tables.{Stands, Before, shorter, lower_role, later}
use Rattle.forms.specs.Sheets.{Form, find, sheet_form, plain_form, below_role, form_of, node_form}
use Rattle.forms.specs.Few.{Pairs, Ascends, Few}
use Rattle.rows.specs.declared.row.Row.{Row}
use Rattle.forms.proofs.Finding.{find_stands}
use Rattle.forms.proofs.NodeForms.{left_lower, right_lower}
use Rattle.rows.proofs.Standing.{before_apart, stands_once}

-- no number twice
abbrev pub Distinct : List ℕ → Type 0
Distinct xs = Pairs (λ x y. x ≡ y → ⊥) xs

module _ {X : Type 0} where
  pairs_kept : (Q : X → X → Type 0) (p : X → Bool) (xs : List X) → Pairs Q xs → Pairs Q (filter p xs)
  pairs_kept Q p [] h = tt
  pairs_kept Q p (x ∷ xs) h = go (p x) (all_kept_by p (Q x) xs h.0) (pairs_kept Q p xs h.1)
    where
      go : (t : Bool) → AllByRecursion (Q x) (filter p xs) → Pairs Q (filter p xs) → Pairs Q (cond t (x ∷ filter p xs) (filter p xs))
      go true u v = (u, v)
      go false u v = v

  -- what two facts of each element give
  all_both : (P Q S : X → Type 0) → ((x : X) → P x → Q x → S x) → (xs : List X) → AllByRecursion P xs → AllByRecursion Q xs → AllByRecursion S xs
  all_both P Q S f [] p q = tt
  all_both P Q S f (x ∷ xs) p q = (f x p.0 q.0, all_both P Q S f xs p.1 q.1)

  pairs_map : {Y : Type 0} (P : X → Type 0) (Q : X → X → Type 0) (S : Y → Y → Type 0) (f : X → Y) → ((x y : X) → P x → P y → Q x y → S (f x) (f y))
      → (xs : List X) → AllByRecursion P xs → Pairs Q xs → Pairs S (map f xs)
  pairs_map P Q S f g [] p q = tt
  pairs_map P Q S f g (x ∷ xs) p q = (
    All-map (S (f x)) f xs (all_both P (Q x) (λ y. S (f x) (f y)) (λ y u v. g x y p.0 u v) xs p.1 q.0),
    pairs_map P Q S f g xs p.1 q.1,
  )

-- a number is kept from a list as often as it stands there: not at all, or once
kept_none : (m : ℕ) (xs : List ℕ) → AllByRecursion (λ y. m ≡ y → ⊥) xs → length (filter (λ x. eqb x m) xs) ≡ 0
kept_none m [] h = refl
kept_none m (x ∷ xs) h = go (eqb x m) refl (kept_none m xs h.1)
  where
    go : (t : Bool) → eqb x m ≡ t → length (filter (λ x. eqb x m) xs) ≡ 0 → length (cond t (x ∷ filter (λ x. eqb x m) xs) (filter (λ x. eqb x m) xs)) ≡ 0
    go true e q = absurd (h.0 (sym (eqb-true x m e)))
    go false e q = q

kept_once : (m : ℕ) (xs : List ℕ) → Distinct xs → length (filter (λ x. eqb x m) xs) ≤ 1
kept_once m [] h = omega arith
kept_once m (x ∷ xs) h = go (eqb x m) refl (kept_once m xs h.1)
  where
    go : (t : Bool) → eqb x m ≡ t → length (filter (λ x. eqb x m) xs) ≤ 1 → length (cond t (x ∷ filter (λ x. eqb x m) xs) (filter (λ x. eqb x m) xs)) ≤ 1
    go true e q = let z = kept_none m xs (subst (λ u. AllByRecursion (λ y. u ≡ y → ⊥) xs) (eqb-true x m e) h.0) in omega arith
    go false e q = q

-- there are at most m numbers below m
pub pigeonhole : (m : ℕ) (xs : List ℕ) → Distinct xs → AllByRecursion (λ x. x < m) xs → length xs ≤ m
pigeonhole zero [] d h = omega arith
pigeonhole zero (x ∷ xs) d h = absurd (omega (arith, h.0))
pigeonhole (suc m) xs d h =
    let q : ℕ → Bool = λ x. not (eqb x m) in
    let ys = filter q xs in
    let low : AllByRecursion (λ x. x < m) ys = all_both (λ x. x < suc m) (λ x. q x ≡ true) (λ x. x < m) (λ x u v. fall x u (eqb-false x m (not-true (eqb x m) v))) ys (all_kept_by q (λ x. x < suc m) xs h) (kept_by_passes q xs) in
    let rest = pigeonhole m ys (pairs_kept (λ x y. x ≡ y → ⊥) q xs d) low in
    let sum = length-filter_both (λ x. eqb x m) q (λ x. refl) xs in
    let one = kept_once m xs d in
    omega arith
  where
    fall : (x : ℕ) → x < suc m → (x ≡ m → ⊥) → x < m
    fall x u v = elim (cases_order x m) [ inl e ↦ absurd (v e) | inr (inl e) ↦ e | inr (inr e) ↦ absurd (omega arith) ]

bounds_more : (w : List ℕ → Bool) (m n : ℕ) → m ≤ n → Few w m → Few w n
bounds_more w m n l h ps a e = omega (arith, h ps a e)

-- by one or the other
bounds_both : (w v : List ℕ → Bool) (m n : ℕ) → Few w m → Few v n → Few (λ p. w p || v p) (m + n)
bounds_both w v m n h i ps a e =
    let q : List ℕ → Bool = λ p. not (w p) in
    let other : (p : List ℕ) → (w p || v p) ≡ true → q p ≡ true → v p ≡ true = λ p x y. ⊎_elim (λ z. absurd (both_ways (w p) (not-true (w p) y) z)) (λ z. z) (or_cases (w p) (v p) x) in
    let left = h (filter w ps) (pairs_kept Before w ps a) (kept_by_passes w ps) in
    let right = i (filter q ps) (pairs_kept Before q ps a)
    (all_both (λ p. (w p || v p) ≡ true) (λ p. q p ≡ true) (λ p. v p ≡ true) other (filter q ps) (all_kept_by q (λ p. (w p || v p) ≡ true) ps e) (kept_by_passes q ps)) in
    let sum = length-filter_both w q (λ p. refl) ps in
    omega arith

-- the empty path alone
bounds_root : (R : Type 0) → Few (writes {R = R} thing) 1
bounds_root R [] a e = omega arith
bounds_root R (p ∷ []) a e = omega arith
bounds_root R ([] ∷ [] ∷ ps) a e = absurd (before_apart [] [] a.0.0 refl)
bounds_root R ((r ∷ p) ∷ q ∷ ps) a e = absurd (false≢true e.0)
bounds_root R ([] ∷ (r ∷ q) ∷ ps) a e = absurd (false≢true e.1.0)

-- a path without its first role
abbrev tail : List ℕ → List ℕ
tail [] = []
tail (r ∷ π) = π

before_tail : (p q : List ℕ) (s : ℕ) → p ≡ s ∷ tail p → q ≡ s ∷ tail q → Before p q → Before (tail p) (tail q)
before_tail p q s e f shorter = absurd (let z = ap length e in omega arith)
before_tail p q s e f (lower_role {r = r} {s = t} l) = absurd (let x : r ≡ s = cc in let y : t ≡ s = cc in omega arith)
before_tail p q s e f (later b) = b

module _ {R V : Type 0} (k : Domain R V) (s : ℕ) (w : List ℕ → Bool) where
  -- the path begins with the role, and what comes after it is written
  record Past (p : List ℕ) : Type 0 where
    pub begins : p ≡ s ∷ tail p
    pub written : w (tail p) ≡ true

  bounds_past : (m : ℕ) → Few w m → (ps : List (List ℕ)) → Ascends ps → AllByRecursion Past ps → length ps ≤ m
  bounds_past m h ps a e =
      let q = h (map tail ps) (pairs_map Past Before Before tail (λ x y u v b. before_tail x y s u.begins v.begins b) ps e a)
      (All-map (λ p. w p ≡ true) tail ps (All-weaker Past (λ p. w (tail p) ≡ true) (λ p u. u.written) ps e)) in
      omega (arith, length-map ps tail)

  past_role : (p q : List ℕ) → Before p q → below_role k s w q ≡ true → Past q
  past_role p [] b e = absurd (none p [] b refl)
    where
      none : (p q : List ℕ) → Before p q → q ≡ [] → ⊥
      none p q shorter e = let z = ap length e in omega arith
      none p q (lower_role l) e = let z = ap length e in omega arith
      none p q (later b) e = let z = ap length e in omega arith
  past_role p (r ∷ π) b e = let x = and_parts (eqb r s) (w π) e in record { begins = ap (λ t. t ∷ π) (eqb-true r s x.0); written = x.1 }

  -- below a role
  bounds_under : (m : ℕ) → Few w m → Few (below_role k s w) (1 + m)
  bounds_under m h [] a e = omega arith
  bounds_under m h (p ∷ ps) a e =
      let rest = bounds_past m h ps a.1 (all_both (Before p) (λ q. below_role k s w q ≡ true) Past (λ q b x. past_role p q b x) ps a.0 e.1) in
      omega arith

-- the rows of a sheet: paths that differ lead to different rows
module _ {R V : Type 0} (k : Domain R V) (T : ℕ → Row R) (m : ℕ) (some : 0 < m) where
  abbrev row : List ℕ → ℕ
  row p = unwrap_or (find T m p 0) 0

  found : (p : List ℕ) → is_some (find T m p 0) ≡ true → find T m p 0 ≡ Some (row p)
  found p e = go (find T m p 0) e
    where
      go : (o : Option ℕ) → is_some o ≡ true → o ≡ Some (unwrap_or o 0)
      go None e = absurd (false≢true e)
      go (Some c) e = refl

  bounds_sheet : Few (sheet_form k T m).on m
  bounds_sheet ps a e =
      let rows = pigeonhole m (map row ps) (pairs_map (λ p. is_some (find T m p 0) ≡ true) Before (λ x y. x ≡ y → ⊥) row differ ps e a)
      (All-map (λ c. c < m) row ps (All-weaker (λ p. is_some (find T m p 0) ≡ true) (λ p. row p < m) (λ p u. (find_stands T m p (row p) some (found p u)).0) ps e)) in
      omega (arith, length-map ps row)
    where
      differ : (p q : List ℕ) → is_some (find T m p 0) ≡ true → is_some (find T m q 0) ≡ true → Before p q → row p ≡ row q → ⊥
      differ p q u v b z = before_apart p q b (stands_once T (row q) p q (subst (λ c. Stands T c p) z (find_stands T m p (row p) some (found p u)).1) (find_stands T m q (row q) some (found q v)).1)

module _ {R V : Type 0} (k : Domain R V) (held : List (Option ℕ)) (S : ℕ → Option (Form V)) where
  -- each place that is held has a sheet of as many rows, and at least one
  abbrev pub SheetsHeld : Type 0
  SheetsHeld = (p m : ℕ) → rows_at held p ≡ Some m → (0 < m) × ((T : ℕ → Row R) × (S p ≡ Some (sheet_form k T m)))

  module _ (sheets : SheetsHeld) where
    split : (t : Bool) (F G : Form V) (m : ℕ) → (t ≡ true → Few F.on m) → (t ≡ false → Few G.on m) → Few (cond t F G).on m
    split true F G m p q = p refl
    split false F G m p q = q refl

    entry_bound : (p : ℕ) (o : Option ℕ) → rows_at held p ≡ o → is_some o ≡ true → Few (unwrap_or (S p) (plain_form k silent)).on (unwrap_or o 0)
    entry_bound p None e h = absurd (false≢true h)
    entry_bound p (Some m) e h = let x = sheets p m e in
        let P : Option (Form V) → Type 0 = λ o. Few (unwrap_or o (plain_form k silent)).on m in
        subst P (sym x.1.1) (bounds_sheet k x.1.0 m x.0)

    module _ (i : ℕ) (n : Node R) (fs : List (Form V)) (ws : List ℕ) (operand : bad_operand i n ≡ false) (entry : bad_entry held n ≡ false)
        (low : (j : ℕ) → j < i → Few (get_or fs j (plain_form k silent)).on (get_or ws j 0)) where
      abbrev W : ℕ
      W = node_weight held ws n

      root_bound : 1 ≤ W → Few (writes {R = R} thing) W
      root_bound l = bounds_more (writes {R = R} thing) 1 W l (bounds_root R)

      nothing_weighs : is_nothing n ≡ true → 1 ≤ W
      nothing_weighs e = grind (arith, nat_tests)

      prim_weighs : is_prim n ≡ true → 1 ≤ W
      prim_weighs e = grind (arith, nat_tests)

      within_weighs : is_within n ≡ true → 1 ≤ W
      within_weighs e = grind (arith, nat_tests)

      and_weighs : is_and n ≡ true → get_or ws n.left 0 + get_or ws n.right 0 ≤ W
      and_weighs e = grind (arith, nat_tests)

      all_weighs : is_all n ≡ true → 1 + get_or ws n.left 0 ≤ W
      all_weighs e = grind (arith, nat_tests)

      at_least_weighs : is_at_least n ≡ true → 1 + 1 ≤ W
      at_least_weighs e = grind (arith, nat_tests)

      at_most_weighs : is_at_most n ≡ true → 1 + 1 ≤ W
      at_most_weighs e = grind (arith, nat_tests)

      entry_weighs : is_entry n ≡ true → unwrap_or (rows_at held n.which) 0 ≤ W
      entry_weighs e = grind (arith, nat_tests)

      thing_weighs : is_and n ≡ false → is_all n ≡ false → is_at_least n ≡ false → is_at_most n ≡ false → is_entry n ≡ false → 1 ≤ W
      thing_weighs a b c d e = grind (arith, nat_tests)

      entry_held : is_entry n ≡ true → is_some (rows_at held n.which) ≡ true
      entry_held e = grind (arith, nat_tests)

      node_bound : Few (form_of k S fs n).on W
      node_bound =
          split (is_nothing n) _ _ W (λ e. root_bound (nothing_weighs e)) (λ e.
          split (is_prim n) _ _ W (λ e. root_bound (prim_weighs e)) (λ e.
          split (is_within n) _ _ W (λ e. root_bound (within_weighs e)) (λ e.
          split (is_and n) _ _ W
          (λ e. bounds_more _ _ W (and_weighs e) (bounds_both (get_or fs n.left (plain_form k silent)).on (get_or fs n.right (plain_form k silent)).on (get_or ws n.left 0) (get_or ws n.right 0)
          (low n.left (left_lower i n operand (or_left (is_and n) (is_all n) e))) (low n.right (right_lower i n operand e)))) (λ notand.
          split (is_all n) _ _ W
          (λ e. bounds_more _ _ W (all_weighs e) (bounds_under k n.which (get_or fs n.left (plain_form k silent)).on (get_or ws n.left 0) (low n.left (left_lower i n operand (or_right (is_and n) (is_all n) e))))) (λ notall.
          split (is_at_least n) _ _ W (λ e. bounds_more _ _ W (at_least_weighs e) (bounds_under k n.which (writes {R = R} thing) 1 (bounds_root R))) (λ notleast.
          split (is_at_most n) _ _ W (λ e. bounds_more _ _ W (at_most_weighs e) (bounds_under k n.which (writes {R = R} thing) 1 (bounds_root R))) (λ notmost.
          split (is_entry n) _ _ W
          (λ e. bounds_more _ _ W (entry_weighs e) (entry_bound n.which (rows_at held n.which) refl (entry_held e)))
          (λ e. root_bound (thing_weighs notand notall notleast notmost e)))))))))

    module _ (nodes : List (Node R)) (fine : WellFormed held nodes) where
      abbrev Good : ℕ → Type 0
      Good i = Few (node_form k S nodes i).on (get_or (values (node_weight held) nodes) i 0)

      next : (i : ℕ) → i < length nodes → ((j : ℕ) → j < i → Good j) → Good i
      next i l below =
          let x = element nodes i l in
          let n = x.0 in
          let fs = values (form_of k S) (take i nodes) in
          let ws = values (node_weight held) (take i nodes) in
          let operands : (j : ℕ) → j < i → Few (get_or fs j (plain_form k silent)).on (get_or ws j 0) = λ j h.
          rw (← values_below (form_of k S) nodes i j (plain_form k silent) h (omega arith), ← values_below (node_weight held) nodes i j 0 h (omega arith)) (below j h) in
          rw (value_at (form_of k S) nodes i n (plain_form k silent) l x.1, value_at (node_weight held) nodes i n 0 l x.1)
          (node_bound i n fs ws (fine.faultless.operands i n (l, x.1)) (fine.faultless.entries i n (l, x.1)) operands)

      up_to : (m : ℕ) → m ≤ length nodes → (i : ℕ) → i < m → Good i
      up_to zero h i l = absurd (omega arith)
      up_to (suc m) h i l = elim (cases_lt i m) [
        | inl low ↦ up_to m (omega arith) i low
        | inr high ↦ (let q : m ≡ i = omega arith in subst (λ j. Good j) q (next m (omega arith) (up_to m (omega arith))))
      ]

      pub rows_bound : (i : ℕ) → i < length nodes → (ps : List (List ℕ)) → Ascends ps → AllByRecursion (λ p. (node_form k S nodes i).on p ≡ true) ps
          → length ps ≤ get_or (values (node_weight held) nodes) i 0
      rows_bound i l = up_to (length nodes) (omega arith) i l
