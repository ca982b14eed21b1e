-- A table whose rows are closed from the flags, and whose flags come from the rows below, is settled. Assumes nothing.
use Rattle.std.proofs.Common.{◌≡◌, ℕ, zero, suc, ◌+◌, ◌-◌, ◌<◌, ◌≤◌, Bool, true, false, Decides, ◌⊎◌, List, [], ◌∷◌, length, get_or, set, Some, None, Option, sym, refl, ap, ◌∙◌, subst, inl, inr, ⊎_elim, arith, length-append}
use Rattle.std.proofs.lemmas.List.{get_or_past, get_or_read, get_or_default, get_or-set_same, get_or-set_other}
use Rattle.std.proofs.lemmas.Bool.{both_ways, and_cases, and_left, and_right, cases_Bool, cases_lt, cases_eq}
use Rattle.std.proofs.lemmas.Bool.Decides.{not_from_Decides}
use Rattle.kinds.specs.Domain.{Domain, Empty}
use Rattle.masks.specs.Masks.{has}
use Rattle.rows.specs.Numbers.{Over}
use Rattle.forms.specs.Labels.{Label}
use Rattle.rows.specs.Tables.{then_role, Stands, root, below}
use Rattle.forms.specs.Finished.{Dead, by_nothing, by_reading, by_numbers, by_filler, Shut, Open}
use Rattle.forms.specs.Laid.{Placed, Halted, Settled}
use Rattle.forms.specs.Settling.{Kept, Bare, Closes, Ready, Comes, Settles}
use Rattle.rows.specs.declared.row.Row.{Row}
use Rattle.rows.proofs.Standing.{last_same, stands_by, before_apart}
use Rattle.rows.proofs.Rooted.{Earlier}

over_some : (lo : ℕ) (up : Option ℕ) → Over lo up → 0 < lo
over_some lo None o = absurd o
over_some lo (Some u) o = omega arith

over_zero : (lo : ℕ) (up : Option ℕ) → up ≡ Some 0 → 0 < lo → Over lo up
over_zero lo up e l = let P : Option ℕ → Type 0 = λ u. Over lo u in subst P (sym e) l

over_same : (a b : ℕ) (u v : Option ℕ) → a ≡ b → u ≡ v → Over b v → Over a u
over_same a b u v p q h = rw (p, q) h

-- an upper number is 0 or not
cases_zero : (up : Option ℕ) → (up ≡ Some 0) ⊎ (up ≡ Some 0 → ⊥)
cases_zero None = inr (λ e. let z : ◌≡◌ {A = ℕ} 0 1 = cc in omega arith)
cases_zero (Some zero) = inl refl
cases_zero (Some (suc u)) = inr (λ e. let z : suc u ≡ 0 = cc in omega arith)

module _ {R : Type 0} (S T : ℕ → Row R) where
  -- where a row stands comes from parents and roles alone
  pub stands_moves : ((c : ℕ) → (T c).parent ≡ (S c).parent) → ((c : ℕ) → (T c).role ≡ (S c).role) → (c : ℕ) (π : List ℕ) → Stands S c π → Stands T c π
  stands_moves p r c π root = root
  stands_moves p r c π (below {π = σ} d l s) =
      let up = stands_moves p r (S d).parent σ s in
      subst (λ x. Stands T d (then_role σ x)) (r d) (below d l (subst (λ x. Stands T x σ) (sym (p d)) up))

-- What the flags d and the rows T come to, from the flags of the start and the rows S.
pub record Through {R V : Type 0} (k : Domain R V) (S T : ℕ → Row R) (start d : ℕ → Bool) (n i : ℕ) : Type 0 where
  -- the rows from i on are done
  pub closes : (c : ℕ) → i ≤ c → c < n → Closes k (S c) (d c) (T c)
  -- each flag of the start stays
  pub given : (c : ℕ) → start c ≡ true → d c ≡ true
  -- the others come from the rows below
  pub marked : (c : ℕ) → i ≤ c → c < n → Over (T c).lower (T c).upper → d (S c).parent ≡ true
  pub marks : (b : ℕ) → d b ≡ true → (start b ≡ true) ⊎ ((c : ℕ) × (i ≤ c) × (c < n) × ((S c).parent ≡ b) × Over (T c).lower (T c).upper)

module _ {R V : Type 0} (k : Domain R V) (f : List ℕ → Label V) (w : List ℕ → Bool) (S T : ℕ → Row R) (start d : ℕ → Bool) (n : ℕ)
    (laid : Ready k f w S n start) (thr : Through k S T start d n 1) where
  -- two rows at one path are one
  alone : (b c : ℕ) (π : List ℕ) → b < n → c < n → Stands S b π → Stands S c π → b ≡ c
  alone b c π l u s t = ⊎_elim
      (λ h. absurd (before_apart π π (laid.placed.order b c π π h u s t) refl))
      (λ h. ⊎_elim (λ g. absurd (before_apart π π (laid.placed.order c b π π g l t s) refl)) (λ g. omega arith) (cases_lt c b))
      (cases_lt b c)

  -- the row at a path with one role more hangs from the row at the path
  child : (b c : ℕ) (π : List ℕ) (r : ℕ) → b < n → c < n → Stands S c π → Stands S b (then_role π r) → (0 < b) × ((S b).parent ≡ c)
  child b c π r l u s t = ⊎_elim
      (λ z. let e = ap length z.1 in let g = length-append π (r ∷ []) in absurd (omega arith))
      (λ z.
      let q = last_same π z.0 r (S b).role z.3 in
      (z.1, alone (S b).parent c π (omega (arith, laid.placed.parents b z.1 l)) u (subst (λ ρ. Stands S (S b).parent ρ) (sym q.0) z.2) s))
      (stands_by S b (then_role π r) t)

  -- a restriction is empty exactly where no reading is admitted
  unread : (c : ℕ) (π : List ℕ) → Open k (S c) (f π) → Empty k (S c).restriction → (v : V) → k.reads v ≡ true → (f π).admit v ≡ false
  unread c π o none v e =
      ⊎_elim (λ q. absurd (both_ways (k.reads v) q e)) (λ q. q) (and_cases (k.reads v) ((f π).admit v) (sym (o.restriction v) ∙ none v))

  barren : (c : ℕ) (π : List ℕ) → Open k (S c) (f π) → ((v : V) → k.reads v ≡ true → (f π).admit v ≡ false) → Empty k (S c).restriction
  barren c π o none v =
      o.restriction v ∙ ⊎_elim (λ e. and_right (k.reads v) ((f π).admit v) (none v e)) (λ e. and_left (k.reads v) ((f π).admit v) e) (cases_Bool (k.reads v))

  lower_of : (b : ℕ) (ρ : List ℕ) → 0 < b → b < n → Stands S b ρ → (T b).lower ≡ (f ρ).lower
  lower_of b ρ z l s = (thr.closes b (omega arith) l).kept.lower ∙ (laid.filled b ρ l s).lower

  -- a row whose numbers are over tells that nothing can stand where it hangs from
  over_dies : (b : ℕ) (π : List ℕ) → 0 < b → b < n → Stands S b (then_role π (S b).role) → (Bare k (S b) (d b) → Dead k f (then_role π (S b).role))
      → Over (T b).lower (T b).upper → Dead k f π
  over_dies b π z l s dies o = ⊎_elim
      (λ h. by_filler (S b).role (subst (λ x. 0 < x) (lower_of b _ z l s) (over_some _ _ o)) (dies h.0))
      (λ h. by_numbers (S b).role (over_same _ _ _ _ (sym (lower_of b _ z l s)) (sym (h.1 ∙ (laid.filled b _ l s).upper)) o))
      (thr.closes b (omega arith) l).upper

  -- and the other way round
  numbers_over : (b : ℕ) (ρ : List ℕ) → 0 < b → b < n → Stands S b ρ → Over (f ρ).lower (f ρ).upper → Over (T b).lower (T b).upper
  numbers_over b ρ z l s o = ⊎_elim
      (λ h. over_zero _ _ h.1 (subst (λ x. 0 < x) (sym (lower_of b ρ z l s)) (over_some _ _ o)))
      (λ h. over_same _ _ _ _ (lower_of b ρ z l s) (h.1 ∙ (laid.filled b ρ l s).upper) o)
      (thr.closes b (omega arith) l).upper

  filler_over : (b : ℕ) (ρ : List ℕ) → 0 < b → b < n → Stands S b ρ → 0 < (f ρ).lower → Bare k (S b) (d b) → Over (T b).lower (T b).upper
  filler_over b ρ z l s lo bare = ⊎_elim
      (λ h. over_zero _ _ h.1 (subst (λ x. 0 < x) (sym (lower_of b ρ z l s)) lo))
      (λ h. absurd (h.0 bare))
      (thr.closes b (omega arith) l).upper

  -- a path where numbers are written has a row
  asked : (ρ : List ℕ) → 0 < (f ρ).lower → (b : ℕ) × (b < n) × Stands S b ρ
  asked ρ lo = ⊎_elim (λ e. laid.placed.all ρ e) (λ e. absurd (let q = laid.closing.quiet_lower ρ e in omega arith)) (cases_Bool (w ρ))

  flag_up : (b c : ℕ) → 0 < b → b < n → (S b).parent ≡ c → Over (T b).lower (T b).upper → d c ≡ true
  flag_up b c z l p o = subst (λ x. d x ≡ true) p (thr.marked b (omega arith) l o)

  -- nothing can stand at the path of a row exactly where the row is bare
  dies_by : (m c : ℕ) (π : List ℕ) → n ≤ c + m → c < n → Stands S c π → Bare k (S c) (d c) → Dead k f π
  dies_by zero c π fuel l s bare = absurd (omega arith)
  dies_by (suc m) c π fuel l s (inr none) = by_reading (unread c π (laid.filled c π l s) none)
  dies_by (suc m) c π fuel l s (inl e) = ⊎_elim
      (λ h. by_nothing (sym (laid.flagged c π l s) ∙ h))
      (λ h.
      let b = h.0 in
      let z : 0 < b = omega (arith, h.1) in
      let up = laid.placed.parents b z h.2 in
      let t : Stands S b (then_role π (S b).role) = below b z (subst (λ x. Stands S x π) (sym h.3) s) in
      over_dies b π z h.2 t (dies_by m b (then_role π (S b).role) (omega (arith, h.3)) h.2 t) h.4)
      (thr.marks c e)

  bare_by : (m c : ℕ) (π : List ℕ) → n ≤ c + m → c < n → Stands S c π → Dead k f π → Bare k (S c) (d c)
  bare_by zero c π fuel l s dead = absurd (omega arith)
  bare_by (suc m) c π fuel l s (by_nothing e) = inl (thr.given c (laid.flagged c π l s ∙ e))
  bare_by (suc m) c π fuel l s (by_reading h) = inr (barren c π (laid.filled c π l s) h)
  bare_by (suc m) c π fuel l s (by_numbers r o) =
      let x = asked (then_role π r) (over_some _ _ o) in
      let q = child x.0 c π r x.1 l s x.2 in
      inl (flag_up x.0 c q.0 x.1 q.1 (numbers_over x.0 (then_role π r) q.0 x.1 x.2 o))
  bare_by (suc m) c π fuel l s (by_filler r lo dead) =
      let x = asked (then_role π r) lo in
      let q = child x.0 c π r x.1 l s x.2 in
      let up = laid.placed.parents x.0 q.0 x.1 in
      let bare = bare_by m x.0 (then_role π r) (omega (arith, q.1)) x.1 x.2 dead in
      inl (flag_up x.0 c q.0 x.1 q.1 (filler_over x.0 (then_role π r) q.0 x.1 x.2 lo bare))

  pub bare_dies : (c : ℕ) (π : List ℕ) → c < n → Stands S c π → Bare k (S c) (d c) → Dead k f π
  bare_dies c π l s = dies_by n c π (omega arith) l s

  pub dies_bare : (c : ℕ) (π : List ℕ) → c < n → Stands S c π → Dead k f π → Bare k (S c) (d c)
  dies_bare c π l s = bare_by n c π (omega arith) l s

  module _ (kept : (c : ℕ) → Kept (S c) (T c)) where
    back : (c : ℕ) (π : List ℕ) → Stands T c π → Stands S c π
    back = stands_moves T S (λ c. sym (kept c).parent) (λ c. sym (kept c).role)

    pub still_placed : Placed k f w T n
    still_placed = record {
      some = laid.placed.some;
      first = ((kept 0).parent ∙ laid.placed.first.0, (kept 0).role ∙ laid.placed.first.1);
      parents = λ c z l. subst (λ x. x < c) (sym (kept c).parent) (laid.placed.parents c z l);
      order = λ b c π ρ l u s t. laid.placed.order b c π ρ l u (back b π s) (back c ρ t);
      written = λ c π l s. laid.placed.written c π l (back c π s);
      all = λ π e. let x = laid.placed.all π e in (x.0, x.1, stands_moves S T (λ c. (kept c).parent) (λ c. (kept c).role) x.0 π x.2);
    }

    opened : (c : ℕ) (π : List ℕ) → (T c).upper ≡ (S c).upper → Open k (S c) (f π) → Open k (T c) (f π)
    opened c π e o = record {
      lower = (kept c).lower ∙ o.lower;
      upper = e ∙ o.upper;
      atoms = λ m. ap (λ a. has a m) (kept c).atoms ∙ o.atoms m;
      restriction = λ v. ap (λ a. k.admits a v) (kept c).restriction ∙ o.restriction v;
    }

    -- a row that is not bare
    alive : (c : ℕ) (π : List ℕ) → c < n → Stands S c π → (Bare k (S c) (d c) → ⊥) → (T c).upper ≡ (S c).upper
        → ((Shut k f π → ⊥) × Open k (T c) (f π)) ⊎ (Shut k f π × Halted k f w (T c) (f π))
    alive c π l s lives e = ⊎_elim
        (λ h. inr (inl h, record { lower = (kept c).lower ∙ o.lower; upper = e ∙ o.upper ∙ h }))
        (λ h. inl (λ x. ⊎_elim h (λ x. lives (dies_bare c π l s x)) x, opened c π e o))
        (cases_zero (f π).upper)
      where
        o : Open k (S c) (f π)
        o = laid.filled c π l s

    pub is_settled : (T 0).upper ≡ (S 0).upper → (Bare k (S 0) (d 0) → ⊥) → Settled k f w T n
    is_settled first lives zero π l s = alive 0 π l (back 0 π s) lives first
    is_settled first lives (suc c) π l s = ⊎_elim
        (λ h. inr (inr (bare_dies (suc c) π l t h.0), record { lower = (kept (suc c)).lower ∙ (laid.filled (suc c) π l t).lower; upper = h.1 }))
        (λ h. alive (suc c) π l t h.0 h.1)
        (thr.closes (suc c) (omega arith) l).upper
      where
        t : Stands S (suc c) π
        t = back (suc c) π s

-- The flag at p after a row: up where the row's numbers are over, and else as it was.
abbrev pub Raised : {R : Type 0} → Row R → (ℕ → Bool) → (ℕ → Bool) → ℕ → Type 0
Raised row d g p = (Over row.lower row.upper × (g p ≡ true)) ⊎ ((Over row.lower row.upper → ⊥) × (g p ≡ d p))

-- One row more.
module _ {R V : Type 0} (k : Domain R V) (S T U : ℕ → Row R) (start d g : ℕ → Bool) (n i j : ℕ) (next : j ≡ i + 1)
    (earlier : Earlier S n) (some : 0 < i) (inside : i < n) (thr : Through k S T start d n j)
    (here : Closes k (S i) (d i) (U i)) (others : (c : ℕ) → (c ≡ i → ⊥) → U c ≡ T c) (flags : (c : ℕ) → (c ≡ (S i).parent → ⊥) → g c ≡ d c)
    (raised : Raised (U i) d g (S i).parent) where
  stays : (c : ℕ) → d c ≡ true → g c ≡ true
  stays c e = ⊎_elim
      (λ p. ⊎_elim (λ h. ap g p ∙ h.1) (λ h. ap g p ∙ h.1 ∙ sym (ap d p) ∙ e) raised)
      (λ p. flags c p ∙ e)
      (cases_eq c (S i).parent)

  flag_same : (c : ℕ) → i ≤ c → g c ≡ d c
  flag_same c l = flags c (λ p. omega (arith, earlier i some inside))

  later : (c : ℕ) → i ≤ c → (c ≡ i → ⊥) → j ≤ c
  later c l ne = ⊎_elim (λ h. absurd (ne (omega arith))) (λ h. omega arith) (cases_lt c j)

  over_before : (c : ℕ) → (c ≡ i → ⊥) → Over (U c).lower (U c).upper → Over (T c).lower (T c).upper
  over_before c ne o = subst (λ row. Over row.lower row.upper) (others c ne) o

  over_after : (c : ℕ) → (c ≡ i → ⊥) → Over (T c).lower (T c).upper → Over (U c).lower (U c).upper
  over_after c ne o = subst (λ row. Over row.lower row.upper) (sym (others c ne)) o

  closes_more : (c : ℕ) → i ≤ c → c < n → Closes k (S c) (g c) (U c)
  closes_more c l u = subst (λ b. Closes k (S c) b (U c)) (sym (flag_same c l)) (⊎_elim
      (λ p. subst (λ x. Closes k (S x) (d x) (U x)) (sym p) here)
      (λ p. subst (λ row. Closes k (S c) (d c) row) (sym (others c p)) (thr.closes c (later c l p) u))
      (cases_eq c i))

  marked_more : (c : ℕ) → i ≤ c → c < n → Over (U c).lower (U c).upper → g (S c).parent ≡ true
  marked_more c l u o = ⊎_elim
      (λ p. ⊎_elim (λ h. ap (λ x. g (S x).parent) p ∙ h.1) (λ h. absurd (h.0 (subst (λ x. Over (U x).lower (U x).upper) p o))) raised)
      (λ p. stays (S c).parent (thr.marked c (later c l p) u (over_before c p o)))
      (cases_eq c i)

  marks_more : (b : ℕ) → g b ≡ true → (start b ≡ true) ⊎ ((c : ℕ) × (i ≤ c) × (c < n) × ((S c).parent ≡ b) × Over (U c).lower (U c).upper)
  marks_more b e = ⊎_elim
      (λ p. ⊎_elim (λ h. inr (i, omega arith, inside, sym p, h.0)) (λ h. old (ap d p ∙ sym h.1 ∙ sym (ap g p) ∙ e)) raised)
      (λ p. old (sym (flags b p) ∙ e))
      (cases_eq b (S i).parent)
    where
      old : d b ≡ true → (start b ≡ true) ⊎ ((c : ℕ) × (i ≤ c) × (c < n) × ((S c).parent ≡ b) × Over (U c).lower (U c).upper)
      old q = ⊎_elim inl (λ x. inr (x.0, omega (arith, x.1), x.2, x.3, over_after x.0 (λ p. omega (arith, x.1)) x.4)) (thr.marks b q)

  pub through_more : Through k S U start g n i
  through_more = record { closes = closes_more; given = λ c e. stays c (thr.given c e); marked = marked_more; marks = marks_more }

-- The rows xs have become ys from row i on, and the flags ds have become es.
pub record Going {R V : Type 0} (k : Domain R V) (xs ys : List (Row R)) (ds es : List Bool) (i : ℕ) : Type 0 where
  pub some : 0 < i
  pub kept : (e : Row R) (c : ℕ) → Kept (get_or xs c e) (get_or ys c e)
  pub ahead : (e : Row R) (c : ℕ) → c < i → get_or ys c e ≡ get_or xs c e
  pub through : (e : Row R) → Earlier (λ c. get_or xs c e) (length xs) → Through k (λ c. get_or xs c e) (λ c. get_or ys c e) (λ c. get_or ds c false) (λ c. get_or es c false) (length xs) i

-- One turn of the loop: row j - 1 becomes `after`.
module _ {R V : Type 0} (k : Domain R V) (xs ys : List (Row R)) (ds es gs : List Bool) (j : ℕ) (row after : Row R)
    (go : Going k xs ys ds es j) (size : length ys ≡ length xs) (more : 1 < j) (most : j ≤ length xs) (read : row ≡ get_or ys (j - 1) row)
    (closes : Closes k row (get_or es (j - 1) false) after)
    (marks : ((gs ≡ set es after.parent true) × (after.parent < length es) × Over after.lower after.upper) ⊎ ((gs ≡ es) × (after.parent < length xs → Over after.lower after.upper → ⊥))) where
  flags : (c : ℕ) → (c ≡ after.parent → ⊥) → get_or gs c false ≡ get_or es c false
  flags c ne = ⊎_elim
      (λ h. ap (λ x. get_or x c false) h.0 ∙ get_or-set_other es after.parent c true false ne)
      (λ h. ap (λ x. get_or x c false) h.0)
      marks

  raised : after.parent < length xs → Raised after (λ c. get_or es c false) (λ c. get_or gs c false) after.parent
  raised l = ⊎_elim
      (λ h. inl (h.2, ap (λ x. get_or x after.parent false) h.0 ∙ get_or-set_same es after.parent true false h.1))
      (λ h. inr (h.1 l, ap (λ x. get_or x after.parent false) h.0))
      marks

  it : (e : Row R) → row ≡ get_or xs (j - 1) e
  it e = get_or_read ys (j - 1) row (omega arith) read e ∙ go.ahead e (j - 1) (omega arith)

  new : (e : Row R) → get_or (set ys (j - 1) after) (j - 1) e ≡ after
  new e = get_or-set_same ys (j - 1) after e (omega arith)

  other : (e : Row R) (c : ℕ) → (c ≡ j - 1 → ⊥) → get_or (set ys (j - 1) after) c e ≡ get_or ys c e
  other e c ne = get_or-set_other ys (j - 1) c after e ne

  kept_more : (e : Row R) (c : ℕ) → Kept (get_or xs c e) (get_or (set ys (j - 1) after) c e)
  kept_more e c = ⊎_elim
      (λ p. subst (λ x. Kept (get_or xs x e) (get_or (set ys (j - 1) after) x e)) (sym p)
      (subst (λ x. Kept (get_or xs (j - 1) e) x) (sym (new e)) (subst (λ x. Kept x after) (it e) closes.kept)))
      (λ p. subst (λ x. Kept (get_or xs c e) x) (sym (other e c p)) (go.kept e c))
      (cases_eq c (j - 1))

  hangs : (e : Row R) → after.parent ≡ (get_or xs (j - 1) e).parent
  hangs e = closes.kept.parent ∙ ap (λ x. x.parent) (it e)

  rises : (e : Row R) → after.parent < length xs → Raised (get_or (set ys (j - 1) after) (j - 1) e) (λ c. get_or es c false) (λ c. get_or gs c false) (get_or xs (j - 1) e).parent
  rises e l =
      subst (λ p. Raised (get_or (set ys (j - 1) after) (j - 1) e) (λ c. get_or es c false) (λ c. get_or gs c false) p) (hangs e)
      (subst (λ u. Raised u (λ c. get_or es c false) (λ c. get_or gs c false) after.parent) (sym (new e)) (raised l))

  pub going_more : Going k xs (set ys (j - 1) after) ds gs (j - 1)
  going_more = record {
    some = omega arith;
    kept = kept_more;
    ahead = λ e c l. other e c (λ p. omega arith) ∙ go.ahead e c (omega arith);
    through = λ e earlier.
        let up = earlier (j - 1) (omega arith) (omega arith) in
        through_more k (λ c. get_or xs c e) (λ c. get_or ys c e) (λ c. get_or (set ys (j - 1) after) c e) (λ c. get_or ds c false) (λ c. get_or es c false) (λ c. get_or gs c false)
        (length xs) (j - 1) j (omega arith) earlier (omega arith) (omega arith) (go.through e earlier)
        (subst (λ x. Closes k (get_or xs (j - 1) e) (get_or es (j - 1) false) x) (sym (new e)) (subst (λ x. Closes k x (get_or es (j - 1) false) after) (it e) closes))
        (other e)
        (λ c ne. flags c (λ p. ne (p ∙ hangs e)))
        (rises e (omega (arith, hangs e)));
  }

-- The end of the loop: r tells whether row 0 is bare.
module _ {R V : Type 0} (k : Domain R V) (xs ys : List (Row R)) (ds es : List Bool) (i : ℕ) (d : Row R) (r : Bool)
    (go : Going k xs ys ds es i) (size : length ys ≡ length xs) (last : i ≤ 1) (some : 0 < length ys) (tells : Decides r (Bare k (get_or ys 0 d) (get_or es 0 false))) where
  same : (e : Row R) → get_or ys 0 e ≡ get_or xs 0 e
  same e = go.ahead e 0 go.some

  top : (e : Row R) → get_or ys 0 d ≡ get_or xs 0 e
  top e = get_or_default ys 0 d e some ∙ same e

  module _ (e : Row R) (f : List ℕ → Label V) (w : List ℕ → Bool) (laid : Ready k f w (λ c. get_or xs c e) (length xs) (λ c. get_or ds c false)) where
    thr : Through k (λ c. get_or xs c e) (λ c. get_or ys c e) (λ c. get_or ds c false) (λ c. get_or es c false) (length xs) 1
    thr =
        let q : i ≡ 1 = omega (arith, go.some) in
        subst (λ x. Through k (λ c. get_or xs c e) (λ c. get_or ys c e) (λ c. get_or ds c false) (λ c. get_or es c false) (length xs) x) q (go.through e laid.placed.parents)

    bare : r ≡ true → Bare k (get_or xs 0 e) (get_or es 0 false)
    bare h = subst (λ x. Bare k x (get_or es 0 false)) (top e) (tells.0 h)

    lives : r ≡ false → Bare k (get_or xs 0 e) (get_or es 0 false) → ⊥
    lives h x = not_from_Decides r tells h (subst (λ x. Bare k x (get_or es 0 false)) (sym (top e)) x)

    comes : Comes k f w (λ c. get_or ys c e) (length xs) r
    comes = record {
      dead = λ h. bare_dies k f w _ _ _ _ (length xs) laid thr 0 [] laid.placed.some root (bare h);
      live = λ h x. lives h (dies_bare k f w _ _ _ _ (length xs) laid thr 0 [] laid.placed.some root x);
      placed = still_placed k f w _ _ _ _ (length xs) laid thr (go.kept e);
      settled = λ h. is_settled k f w _ _ _ _ (length xs) laid thr (go.kept e) (ap (λ x. x.upper) (same e)) (lives h);
    }

  pub going_all : Settles k xs (length xs) ds r ys
  going_all = record { size = size; kept = go.kept; past = λ e c l. get_or_past ys c e (omega arith) ∙ sym (get_or_past xs c e l); comes = comes }
