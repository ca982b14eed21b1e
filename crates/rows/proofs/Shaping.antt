-- Rows that may each stand where they do stand in the order of their paths, and the other way round. Assumes nothing.
use Rattle.std.proofs.Common.{◌≡◌, ℕ, zero, suc, ◌<◌, ◌≤◌, Bool, true, not, ◌&&◌, eqb, ltb, leb, ◌⊎◌, List, [], ◌∷◌, ◌++◌, is_some, Some, None, Option, sym, refl, ap, ◌∙◌, subst, inl, inr, ⊎_elim, append_assoc, append-nil, arith}
use Rattle.std.proofs.lemmas.List.{append_cancel_left}
use Rattle.std.proofs.lemmas.Bool.{false≢true, and_parts, and_from, or_cases, or_left, or_right, lt-ltb, ltb-true, le-leb, leb-true, eq-eqb, ne_eqb, eqb-true, cond-false, cases_eq, cases_lt, cases_order}
use Rattle.rows.specs.Numbers.{Under, in_order, Limited, limited}
use Rattle.rows.specs.Tables.{then_role, Stands, below, Before, shorter, lower_role, later}
use Rattle.rows.specs.Shapes.{Shape, every, precedes, clear, later_fine, row_fine}
use Rattle.rows.specs.declared.row.Row.{Row}
use Rattle.rows.proofs.Standing.{stands_by, front_of, stands_once, before_apart}
use Rattle.rows.proofs.Rooted.{Earlier, Single, parent_path}

before_longer : {π σ : List ℕ} (τ : List ℕ) → Before π σ → Before π (σ ++ τ)
before_longer τ shorter = shorter
before_longer τ (lower_role l) = lower_role l
before_longer τ (later b) = later (before_longer τ b)

before_branch : (σ : List ℕ) (s r : ℕ) (τ ρ : List ℕ) → s < r → Before (σ ++ (s ∷ τ)) (σ ++ (r ∷ ρ))
before_branch [] s r τ ρ l = lower_role l
before_branch (x ∷ σ) s r τ ρ l = later (before_branch σ s r τ ρ l)

-- a path comes before what extends it
before_further : (σ : List ℕ) (s : ℕ) (τ : List ℕ) → Before σ (σ ++ (s ∷ τ))
before_further [] s τ = shorter
before_further (x ∷ σ) s τ = later (before_further σ s τ)

-- the ways in which one path comes before another
before_nil : (π ρ : List ℕ) → Before π ρ → ρ ≡ [] → ⊥
before_nil π ρ shorter e = cc
before_nil π ρ (lower_role l) e = cc
before_nil π ρ (later b) e = cc

before_heads : {x y : ℕ} {π ρ : List ℕ} → Before (x ∷ π) (y ∷ ρ) → (x < y) ⊎ ((x ≡ y) × Before π ρ)
before_heads (lower_role l) = inl l
before_heads (later b) = inr (refl, b)

-- what comes after a path and before one role more extends the path by a lower role
between : (σ π : List ℕ) (r : ℕ) → Before σ π → Before π (then_role σ r) → (s : ℕ) × (τ : List ℕ) × (π ≡ σ ++ (s ∷ τ)) × (s < r)
between σ [] r p q = absurd (before_nil σ [] p refl)
between [] (s ∷ τ) r p q = ⊎_elim (λ l. (s, τ, refl, l)) (λ z. absurd (before_nil τ [] z.1 refl)) (before_heads q)
between (x ∷ σ) (y ∷ π) r p q = go (before_heads p) (before_heads q) (between σ π r)
  where
    go : (x < y) ⊎ ((x ≡ y) × Before σ π) → (y < x) ⊎ ((y ≡ x) × Before π (then_role σ r))
        → (Before σ π → Before π (then_role σ r) → (s : ℕ) × (τ : List ℕ) × (π ≡ σ ++ (s ∷ τ)) × (s < r))
        → (s : ℕ) × (τ : List ℕ) × (y ∷ π ≡ x ∷ (σ ++ (s ∷ τ))) × (s < r)
    go (inl l) (inl m) rest = absurd (omega arith)
    go (inl l) (inr m) rest = absurd (omega (arith, m.0))
    go (inr l) (inl m) rest = absurd (omega (arith, l.0))
    go (inr l) (inr m) rest = let w = rest l.1 m.1 in (w.0, w.1, ap (λ z. z ∷ π) (sym l.0) ∙ ap (λ z. x ∷ z) w.2, w.3)

-- no two paths come before each other
crossed : (π ρ : List ℕ) → Before π ρ → Before ρ π → ⊥
crossed π [] y x = before_nil π [] y refl
crossed [] (s ∷ ρ) y x = before_nil (s ∷ ρ) [] x refl
crossed (r ∷ π) (s ∷ ρ) y x = go (before_heads y) (before_heads x) (crossed π ρ)
  where
    go : (r < s) ⊎ ((r ≡ s) × Before π ρ) → (s < r) ⊎ ((s ≡ r) × Before ρ π) → (Before π ρ → Before ρ π → ⊥) → ⊥
    go (inl u) (inl v) rest = omega arith
    go (inl u) (inr v) rest = omega (arith, v.0)
    go (inr u) (inl v) rest = omega (arith, u.0)
    go (inr u) (inr v) rest = rest u.1 v.1

module _ {R : Type 0} (T : ℕ → Row R) where
  -- a row between row c and its parent belongs below that parent, at a lower role
  abbrev pub Local : ℕ → Type 0
  Local c = (b : ℕ) → (T c).parent < b → b < c → ((T c).parent < (T b).parent) ⊎ (((T b).parent ≡ (T c).parent) × ((T b).role < (T c).role))

  module _ (n : ℕ) (earlier : Earlier T n) where
    module _ (local : (c : ℕ) → 0 < c → c < n → Local c) where
      inside : (m b c : ℕ) (σ π : List ℕ) → b < m → 0 < c → c < n → (T c).parent < b → b < c → Stands T (T c).parent σ → Stands T b π
          → (s : ℕ) × (τ : List ℕ) × (π ≡ σ ++ (s ∷ τ)) × (s < (T c).role)
      inside zero b c σ π f some l low high up here = absurd (omega arith)
      inside (suc m) b c σ π f some l low high up here =
          let p = earlier b (omega arith) (omega arith) in
          ⊎_elim (λ z. absurd (omega (arith, z.0)))
          (λ z. go z.0 z.2 z.3 (local c some l b low high) (λ deeper. inside m (T b).parent c σ z.0 (omega arith) some l deeper (omega arith) up z.2))
          (stands_by T b π here)
        where
          go : (ρ : List ℕ) → Stands T (T b).parent ρ → π ≡ then_role ρ (T b).role → ((T c).parent < (T b).parent) ⊎ (((T b).parent ≡ (T c).parent) × ((T b).role < (T c).role))
              → ((T c).parent < (T b).parent → (s : ℕ) × (τ : List ℕ) × (ρ ≡ σ ++ (s ∷ τ)) × (s < (T c).role))
              → (s : ℕ) × (τ : List ℕ) × (π ≡ σ ++ (s ∷ τ)) × (s < (T c).role)
          go ρ at e (inl deeper) rest =
              let w = rest deeper in
              (w.0, then_role w.1 (T b).role, e ∙ ap (λ x. then_role x (T b).role) w.2 ∙ append_assoc σ (w.0 ∷ w.1) ((T b).role ∷ []), w.3)
          go ρ at e (inr same) rest =
              let q = stands_once T (T c).parent ρ σ (subst (λ x. Stands T x ρ) same.0 at) up in
              ((T b).role, [], e ∙ ap (λ x. then_role x (T b).role) q, same.1)

      ordered : (m b c : ℕ) (π ρ : List ℕ) → c < m → b < c → c < n → Stands T b π → Stands T c ρ → Before π ρ
      ordered zero b c π ρ f l h at here = absurd (omega arith)
      ordered (suc m) b c π ρ f l h at here =
          let p = earlier c (omega arith) h in
          ⊎_elim (λ z. absurd (omega (arith, z.0)))
          (λ z. subst (λ x. Before π x) (sym z.3) (go z.0 z.2 (λ low. ordered m b (T c).parent π z.0 (omega arith) low (omega arith) at z.2) (cases_order b (T c).parent)))
          (stands_by T c ρ here)
        where
          go : (σ : List ℕ) → Stands T (T c).parent σ → (b < (T c).parent → Before π σ) → (b ≡ (T c).parent) ⊎ ((b < (T c).parent) ⊎ ((T c).parent < b)) → Before π (then_role σ (T c).role)
          go σ up rest (inl e) = subst (λ x. Before x (then_role σ (T c).role)) (stands_once T (T c).parent σ π up (subst (λ x. Stands T x π) e at)) (before_further σ (T c).role [])
          go σ up rest (inr (inl low)) = before_longer ((T c).role ∷ []) (rest low)
          go σ up rest (inr (inr high)) =
              let w = inside (suc b) b c σ π (omega arith) (omega arith) h high l up at in
              subst (λ x. Before x (then_role σ (T c).role)) (sym w.2) (before_branch σ w.0 (T c).role w.1 [] w.3)

      pub in_path_order : (b c : ℕ) (π ρ : List ℕ) → b < c → c < n → Stands T b π → Stands T c ρ → Before π ρ
      in_path_order b c π ρ l h at here = ordered (suc c) b c π ρ (omega arith) l h at here

    module _ (order : (b c : ℕ) (π ρ : List ℕ) → b < c → c < n → Stands T b π → Stands T c ρ → Before π ρ) where
      -- a row whose path comes after another's is a later row
      pub later_row : (b c : ℕ) (π ρ : List ℕ) → b < n → c < n → Stands T b π → Stands T c ρ → Before π ρ → b < c
      later_row b c π ρ l h at here p = go (cases_order b c)
        where
          go : (b ≡ c) ⊎ ((b < c) ⊎ (c < b)) → b < c
          go (inl e) = absurd (before_apart π ρ p (stands_once T c π ρ (subst (λ x. Stands T x π) e at) here))
          go (inr (inl u)) = u
          go (inr (inr u)) = absurd (crossed π ρ p (order c b ρ π u l here at))

      -- a path has one row
      one_row : (b c : ℕ) (π ρ : List ℕ) → b < n → c < n → Stands T b π → Stands T c ρ → π ≡ ρ → b ≡ c
      one_row b c π ρ l h at here e = go (cases_order b c)
        where
          go : (b ≡ c) ⊎ ((b < c) ⊎ (c < b)) → b ≡ c
          go (inl q) = q
          go (inr (inl u)) = absurd (before_apart π ρ (order b c π ρ u h at here) e)
          go (inr (inr u)) = absurd (before_apart ρ π (order c b ρ π u l here at) (sym e))

      pub single : Single T n
      single b c zb lb zc lc p r =
          let up = parent_path T n earlier c zc lc in
          let at : Stands T b (then_role up.0 (T b).role) = below b zb (subst (λ x. Stands T x up.0) (sym p) up.1) in
          one_row b c _ _ lb lc at (below c zc up.1) (ap (λ x. then_role up.0 x) r)

      pub local_order : (c : ℕ) → 0 < c → c < n → Local c
      local_order c some h b low high =
          let p = earlier c some h in
          let up = parent_path T n earlier c some h in
          let q = parent_path T n earlier b (omega arith) (omega arith) in
          let at = below b (omega arith) q.1 in
          let w = between up.0 (then_role q.0 (T b).role) (T c).role
          (order (T c).parent b _ _ low (omega arith) up.1 at)
          (order b c _ _ high h at (below c some up.1)) in
          go up.0 q.0 up.1 q.1 w.0 w.1 w.2 w.3 (front_of q.0 up.0 (T b).role w.0 w.1 w.2)
        where
          go : (σ ρ : List ℕ) → Stands T (T c).parent σ → Stands T (T b).parent ρ → (s : ℕ) (τ : List ℕ) → then_role ρ (T b).role ≡ σ ++ (s ∷ τ) → s < (T c).role
              → (ω : List ℕ) × (ρ ≡ σ ++ ω) → ((T c).parent < (T b).parent) ⊎ (((T b).parent ≡ (T c).parent) × ((T b).role < (T c).role))
          go σ ρ up at s τ e l ([], q) = inr (same, subst (λ x. x < (T c).role) (sym first) l)
            where
              level : ρ ≡ σ
              level = q ∙ append-nil σ

              first : (T b).role ≡ s
              first = let ends = append_cancel_left σ ((T b).role ∷ []) (s ∷ τ) (ap (λ x. then_role x (T b).role) (sym level) ∙ e) in cc

              same : (T b).parent ≡ (T c).parent
              same = one_row (T b).parent (T c).parent ρ σ (omega (arith, earlier b (omega arith) (omega arith))) (omega (arith, earlier c some h)) at up level
          go σ ρ up at s τ e l (y ∷ ω, q) =
              inl (later_row (T c).parent (T b).parent σ ρ (omega (arith, earlier c some h)) (omega (arith, earlier b (omega arith) (omega arith))) up at (subst (λ x. Before σ x) (sym q) (before_further σ y ω)))

-- The tests of single rows.

none_from : (o : Option ℕ) → not (is_some o) ≡ true → o ≡ None
none_from None e = refl
none_from (Some x) e = absurd (false≢true e)

pub every_at : (f : ℕ → Bool) (n : ℕ) → every f n ≡ true → (b : ℕ) → b < n → f b ≡ true
every_at f zero e b l = absurd (omega arith)
every_at f (suc n) e b l =
    let p = and_parts (every f n) (f n) e in
    ⊎_elim (λ h. every_at f n p.0 b h) (λ h. let q : n ≡ b = omega arith in subst (λ x. f x ≡ true) q p.1) (cases_lt b n)

pub every_all : (f : ℕ → Bool) (n : ℕ) → ((b : ℕ) → b < n → f b ≡ true) → every f n ≡ true
every_all f zero h = refl
every_all f (suc n) h = and_from (every f n) (f n) (every_all f n (λ b l. h b (omega arith))) (h n (omega arith))

pub in_order_under : (lo : ℕ) (up : Option ℕ) → in_order lo up ≡ true → Under lo up
in_order_under lo None e = tt
in_order_under lo (Some u) e = leb-true lo u e

pub under_in_order : (lo : ℕ) (up : Option ℕ) → Under lo up → in_order lo up ≡ true
under_in_order lo None e = refl
under_in_order lo (Some u) e = le-leb lo u e

limited_true : (lo : ℕ) (up : Option ℕ) → limited lo up ≡ true → Limited lo up
limited_true lo None e = leb-true lo 999 e
limited_true lo (Some u) e = let p = and_parts (leb lo 999) (leb u 999) e in (leb-true lo 999 p.0, leb-true u 999 p.1)

true_limited : (lo : ℕ) (up : Option ℕ) → Limited lo up → limited lo up ≡ true
true_limited lo None h = le-leb lo 999 h
true_limited lo (Some u) h = and_from (leb lo 999) (leb u 999) (le-leb lo 999 h.0) (le-leb u 999 h.1)

module _ {R : Type 0} (T : ℕ → Row R) where
  -- what the test of a later row says
  pub record Standing (c : ℕ) : Type 0 where
    pub parent : (T c).parent < c
    pub role : (T c).role < 16
    pub numbers : Under (T c).lower (T c).upper
    pub limits : Limited (T c).lower (T c).upper
    pub local : Local T c

  precedes_true : (x y : Row R) → precedes x y ≡ true → (y.parent < x.parent) ⊎ ((x.parent ≡ y.parent) × (x.role < y.role))
  precedes_true x y e = ⊎_elim
      (λ h. inl (ltb-true y.parent x.parent h))
      (λ h. let p = and_parts (eqb x.parent y.parent) (ltb x.role y.role) h in inr (eqb-true x.parent y.parent p.0, ltb-true x.role y.role p.1))
      (or_cases (ltb y.parent x.parent) (eqb x.parent y.parent && ltb x.role y.role) e)

  true_precedes : (x y : Row R) → (y.parent < x.parent) ⊎ ((x.parent ≡ y.parent) × (x.role < y.role)) → precedes x y ≡ true
  true_precedes x y (inl l) = or_left _ _ (lt-ltb y.parent x.parent l)
  true_precedes x y (inr l) = or_right (ltb y.parent x.parent) _ (and_from _ _ (eq-eqb x.parent y.parent l.0) (lt-ltb x.role y.role l.1))

  -- the rows between a row and its parent
  abbrev pub Between : ℕ → Type 0
  Between c = (b : ℕ) → (T c).parent < b → b < c → precedes (T b) (T c) ≡ true

  pub clear_between : (c : ℕ) → every (clear T c) c ≡ true → Between c
  clear_between c e b low high = ⊎_elim
      (λ h. absurd (omega (arith, leb-true b (T c).parent h)))
      (λ h. h)
      (or_cases (leb b (T c).parent) (precedes (T b) (T c)) (every_at (clear T c) c e b high))

  pub between_clear : (c : ℕ) → Between c → every (clear T c) c ≡ true
  between_clear c h = every_all (clear T c) c (λ b l. ⊎_elim
      (λ low. or_right (leb b (T c).parent) _ (h b low l))
      (λ past. or_left _ _ (le-leb b (T c).parent past))
      (cases_lt (T c).parent b))

  pub later_standing : (c : ℕ) → later_fine T c ≡ true → Standing c
  later_standing c e =
      let p = and_parts (ltb (T c).parent c) _ e in
      let q = and_parts (ltb (T c).role 16) _ p.1 in
      let r = and_parts (in_order (T c).lower (T c).upper) _ q.1 in
      let s = and_parts (limited (T c).lower (T c).upper) _ r.1 in
      record {
        parent = ltb-true (T c).parent c p.0;
        role = ltb-true (T c).role 16 q.0;
        numbers = in_order_under (T c).lower (T c).upper r.0;
        limits = limited_true (T c).lower (T c).upper s.0;
        local = λ b low high. precedes_true (T b) (T c) (clear_between c s.1 b low high);
      }

  pub standing_later : (c : ℕ) → Standing c → later_fine T c ≡ true
  standing_later c h =
      and_from _ _ (lt-ltb (T c).parent c h.parent) (
      and_from _ _ (lt-ltb (T c).role 16 h.role) (
      and_from _ _ (under_in_order (T c).lower (T c).upper h.numbers) (
      and_from _ _ (true_limited (T c).lower (T c).upper h.limits)
      (between_clear c (λ b low high. true_precedes (T b) (T c) (h.local b low high))))))

  pub fine_later : (c : ℕ) → 0 < c → row_fine T c ≡ true → later_fine T c ≡ true
  fine_later c some e = sym (cond-false (eqb c 0) _ _ (ne_eqb c 0 (λ q. omega arith))) ∙ e

  pub fine_standing : (c : ℕ) → 0 < c → row_fine T c ≡ true → Standing c
  fine_standing c some e = later_standing c (fine_later c some e)

  pub standing_fine : (c : ℕ) → 0 < c → Standing c → row_fine T c ≡ true
  standing_fine c some h = cond-false (eqb c 0) _ _ (ne_eqb c 0 (λ q. omega arith)) ∙ standing_later c h

  -- rows that each pass are well formed
  pub fine_shape : (n : ℕ) → 0 < n → n ≤ 128 → ((c : ℕ) → c < n → row_fine T c ≡ true) → Shape T n
  fine_shape n some few fine =
      let at : (c : ℕ) → 0 < c → c < n → Standing c = λ c z l. fine_standing c z (fine c l) in
      let top = and_parts (eqb (T 0).parent 0) _ (fine 0 some) in
      let next = and_parts (eqb (T 0).role 0) _ top.1 in
      let last = and_parts (eqb (T 0).lower 0) (not (is_some (T 0).upper)) next.1 in
      record {
        some = some;
        few = few;
        first = (eqb-true (T 0).parent 0 top.0, eqb-true (T 0).role 0 next.0);
        bare = (eqb-true (T 0).lower 0 last.0, none_from (T 0).upper last.1);
        parents = λ c z l. (at c z l).parent;
        roles = λ c z l. (at c z l).role;
        numbers = λ c z l. (at c z l).numbers;
        limits = λ c z l. (at c z l).limits;
        order = in_path_order T n (λ c z l. (at c z l).parent) (λ c z l. (at c z l).local);
      }

  pub shape_fine : (n : ℕ) → Shape T n → (c : ℕ) → c < n → row_fine T c ≡ true
  shape_fine n shape c l = ⊎_elim
      (λ e. subst (λ x. row_fine T x ≡ true) (sym e) (
      and_from _ _ (eq-eqb (T 0).parent 0 shape.first.0) (
      and_from _ _ (eq-eqb (T 0).role 0 shape.first.1) (
      and_from _ _ (eq-eqb (T 0).lower 0 shape.bare.0) (ap (λ o. not (is_some o)) shape.bare.1)))))
      (λ ne.
      let some : 0 < c = omega arith in
      standing_fine c some (record {
        parent = shape.parents c some l;
        role = shape.roles c some l;
        numbers = shape.numbers c some l;
        limits = shape.limits c some l;
        local = local_order T n shape.parents shape.order c some l;
      }))
      (cases_eq c 0)
