-- The rows that are not below an upper number 0, one after another, are the finished form. Assumes nothing.
use Rattle.std.proofs.Common.{◌≡◌, ℕ, zero, suc, ◌<◌, ◌≤◌, Bool, true, false, not, ◌||◌, List, [], ◌∷◌, ◌++◌, length, Some, None, Option, sym, refl, ap, ◌∙◌, ◌+◌, subst, inl, inr, ⊎_elim, add-one, append_assoc, append-nil, arith}
use Rattle.std.proofs.lemmas.Bool.{both_ways, cases_Bool, cases_lt, cases_order, eqb-true, or_cases, or_parts, or_right, not-true, not_from_false, not_from_true, not-false}
use Rattle.kinds.specs.Domain.{Domain}
use Rattle.concepts.specs.Interpretations.{how_many, one_if}
use Rattle.masks.specs.Masks.{has}
use Rattle.forms.specs.Labels.{Label}
use Rattle.rows.specs.Tables.{then_role, Topmost, Stands, root, below}
use Rattle.forms.specs.Finished.{Dead, Shut, Hidden, Open, Closed, Content, FinishedBy}
use Rattle.forms.specs.Laid.{Closing, Placed, Settled}
use Rattle.forms.specs.Stripping.{is_zero, Hung}
use Rattle.rows.specs.declared.row.Row.{Row}
use Rattle.rows.proofs.Rooted.{Earlier}
use Rattle.forms.proofs.Transfer.{Covered}
use Rattle.rows.proofs.Standing.{stands_by, front_of}

zero_is : (u : Option ℕ) → is_zero u ≡ true → u ≡ Some 0
zero_is None h = absurd (both_ways false refl h)
zero_is (Some u) h = ap Some (eqb-true u 0 h)

is_zero_by : (u : Option ℕ) → u ≡ Some 0 → is_zero u ≡ true
is_zero_by u h = ap is_zero h

-- Counting the numbers that are kept.
module _ (keep : ℕ → Bool) where
  -- how many kept numbers come before this one
  abbrev pub new : ℕ → ℕ
  new c = how_many keep c

  pub new_zero : new 0 ≡ 0
  unfolding how_many
  new_zero = refl

  pub new_more : (c : ℕ) → keep c ≡ true → new (suc c) ≡ suc (new c)
  unfolding how_many
  new_more c h = ap (λ b. new c + one_if b) h ∙ add-one (new c)

  pub new_same : (c : ℕ) → keep c ≡ false → new (suc c) ≡ new c
  unfolding how_many
  new_same c h = ap (λ b. new c + one_if b) h ∙ omega arith

  new_rises : (c : ℕ) → new c ≤ new (suc c)
  unfolding how_many
  new_rises c = let more : new (suc c) ≡ new c + one_if (keep c) = refl in omega arith

  new_mono : (b c : ℕ) → b ≤ c → new b ≤ new c
  new_mono b zero l = let e : b ≡ 0 = omega arith in omega (arith, ap new e)
  new_mono b (suc c) l = ⊎_elim
      (λ (h : b < suc c). omega (arith, new_mono b c (omega arith), new_rises c))
      (λ (h : suc c ≤ b). let e : b ≡ suc c = omega arith in omega (arith, ap new e))
      (cases_lt b (suc c))

  pub new_strict : (b c : ℕ) → keep b ≡ true → b < c → new b < new c
  new_strict b c h l = omega (arith, new_more b h, new_mono (suc b) c (omega arith))

  new_apart : (b c : ℕ) → keep b ≡ true → keep c ≡ true → new b ≡ new c → b ≡ c
  new_apart b c h g e = ⊎_elim (λ x. x) (⊎_elim (λ l. absurd (omega (arith, new_strict b c h l))) (λ l. absurd (omega (arith, new_strict c b g l)))) (cases_order b c)

  -- each new number is that of a kept one
  new_onto : (n b : ℕ) → b < new n → (c : ℕ) × (c < n) × (keep c ≡ true) × (new c ≡ b)
  new_onto zero b l = absurd (omega (arith, new_zero))
  new_onto (suc n) b l = ⊎_elim
      (λ h. let q = new_onto n b h in (q.0, omega (arith, q.1), q.2, q.3))
      (λ h. ⊎_elim
      (λ g. (n, omega arith, g, omega (arith, new_more n g)))
      (λ g. absurd (omega (arith, new_same n g)))
      (cases_Bool (keep n)))
      (cases_lt b (new n))

-- Which rows stay.
module _ {R : Type 0} (T : ℕ → Row R) where
  lid : ℕ → ℕ → Bool
  lid m zero = false
  lid zero (suc c) = false
  lid (suc m) (suc c) = lid m (T (suc c)).parent || is_zero (T (suc c)).upper

  -- nothing below this row stays
  pub stop : ℕ → Bool
  stop c = lid c c

  -- this row stays
  pub keep : ℕ → Bool
  keep zero = true
  keep (suc c) = not (stop (T (suc c)).parent)

  pub stop_first : stop 0 ≡ false
  unfolding stop lid
  stop_first = refl

  pub keep_first : keep 0 ≡ true
  unfolding keep
  keep_first = refl

  pub keep_by : (c : ℕ) → 0 < c → keep c ≡ not (stop (T c).parent)
  unfolding keep
  keep_by zero l = absurd (omega arith)
  keep_by (suc c) l = refl

  module _ (n : ℕ) (early : Earlier T n) where
    lid_same : (m p c : ℕ) → c < n → c ≤ m → c ≤ p → lid m c ≡ lid p c
    unfolding lid
    lid_same m p zero l u v = refl
    lid_same zero p (suc c) l u v = absurd (omega arith)
    lid_same (suc m) zero (suc c) l u v = absurd (omega arith)
    lid_same (suc m) (suc p) (suc c) l u v =
        let q = early (suc c) (omega arith) l in
        ap (λ b. b || is_zero (T (suc c)).upper) (lid_same m p (T (suc c)).parent (omega arith) (omega arith) (omega arith))

    pub stop_by : (c : ℕ) → 0 < c → c < n → stop c ≡ (stop (T c).parent || is_zero (T c).upper)
    unfolding stop lid
    stop_by zero z l = absurd (omega arith)
    stop_by (suc c) z l =
        let q = early (suc c) z l in
        ap (λ b. b || is_zero (T (suc c)).upper) (lid_same c (T (suc c)).parent (T (suc c)).parent (omega arith) (omega arith) (omega arith))

    -- what a kept row hangs from is kept
    keep_up : (c : ℕ) → 0 < c → c < n → keep c ≡ true → keep (T c).parent ≡ true
    keep_up c z l h = go (T c).parent refl
      where
        open_parent : stop (T c).parent ≡ false
        open_parent = not-true _ (sym (keep_by c z) ∙ h)

        go : (p : ℕ) → (T c).parent ≡ p → keep (T c).parent ≡ true
        go zero e = ap keep e ∙ keep_first
        go (suc p) e =
            let some : 0 < (T c).parent = omega arith in
            let q = early c z l in
            let parts = or_parts _ _ (sym (stop_by (T c).parent some (omega arith)) ∙ open_parent) in
            keep_by (T c).parent some ∙ not_from_false _ parts.0

-- A table of the rows that stay, in their order and with their parents renumbered.
module _ {R V : Type 0} (k : Domain R V) (T U : ℕ → Row R) where
  -- this row of T stands in U where the count says
  pub record Carried (c : ℕ) : Type 0 where
    pub first : c ≡ 0 → U 0 ≡ T 0
    pub later : 0 < c → Hung k (T c) (new (keep T) (T c).parent) (U (new (keep T) c))

  module _ (n : ℕ) (some : 0 < n) (early : Earlier T n) (carried : (c : ℕ) → c < n → keep T c ≡ true → Carried c) where
    abbrev N : ℕ → ℕ
    N = new (keep T)

    moved : (c : ℕ) → 0 < c → c < n → keep T c ≡ true → Hung k (T c) (N (T c).parent) (U (N c))
    moved c z l h = (carried c l h).later z

    N_some : (c : ℕ) → 0 < c → 0 < N c
    N_some c z = omega (arith, new_strict (keep T) 0 c (keep_first T) z, new_zero (keep T))

    -- a kept row stands where it stood
    forth : (c : ℕ) (π : List ℕ) → Stands T c π → c < n → keep T c ≡ true → Stands U (N c) π
    forth c π root l h = subst (λ b. Stands U b []) (sym (new_zero (keep T))) root
    forth c π (below {π = σ} d z s) l h =
        let m = moved d z l h in
        let q = early d z l in
        let up = forth (T d).parent σ s (omega arith) (keep_up T n early d z l h) in
        let there : Stands U (U (N d)).parent σ = subst (λ b. Stands U b σ) (sym m.parent) up in
        subst (λ r. Stands U (N d) (then_role σ r)) m.role (below (N d) (N_some d z) there)

    later_row : (c b : ℕ) → 0 < b → N c ≡ b → 0 < c
    later_row zero b z e = absurd (omega (arith, new_zero (keep T)))
    later_row (suc c) b z e = omega arith

    -- and nothing else stands there
    back : (b : ℕ) (π : List ℕ) → Stands U b π → b < N n → (c : ℕ) × (c < n) × (keep T c ≡ true) × (N c ≡ b) × Stands T c π
    back b π root l = (0, some, keep_first T, new_zero (keep T), root)
    back b π (below {π = σ} d z s) l =
        let x = new_onto (keep T) n d l in
        let c = x.0 in
        let zc : 0 < c = later_row c d z x.3 in
        let m : Hung k (T c) (N (T c).parent) (U d) = subst (λ y. Hung k (T c) (N (T c).parent) (U y)) x.3 (moved c zc x.1 x.2) in
        let q = early c zc x.1 in
        let kept = keep_up T n early c zc x.1 x.2 in
        let up = back (U d).parent σ s (omega (arith, m.parent, new_strict (keep T) (T c).parent n kept (omega arith))) in
        let same : up.0 ≡ (T c).parent = new_apart (keep T) up.0 (T c).parent up.2 kept (up.3 ∙ m.parent) in
        (c, x.1, x.2, x.3, subst (λ r. Stands T c (then_role σ r)) (sym m.role) (below c zc (subst (λ y. Stands T y σ) same up.4)))

    module _ (f : List ℕ → Label V) (w : List ℕ → Bool) (closing : Closing k f w) (live : Dead k f [] → ⊥) (placed : Placed k f w T n) (settled : Settled k f w T n) where
      -- a row that is settled has the upper number 0 exactly where nothing is allowed
      shut_zero : (c : ℕ) (π : List ℕ) → c < n → Stands T c π → Shut k f π → is_zero (T c).upper ≡ true
      shut_zero c π l s shut = ⊎_elim (λ o. absurd (o.0 shut)) (λ x. is_zero_by _ x.1.upper) (settled c π l s)

      zero_shut : (c : ℕ) (π : List ℕ) → c < n → Stands T c π → is_zero (T c).upper ≡ true → Shut k f π
      zero_shut c π l s h = ⊎_elim (λ o. inl (sym o.1.upper ∙ zero_is _ h)) (λ x. x.0) (settled c π l s)

      root_open : Shut k f [] → ⊥
      root_open (inl e) = let none = closing.root_upper in let q : ◌≡◌ {A = ℕ} 0 1 = cc in omega arith
      root_open (inr d) = live d

      -- a row below one that is shut, or below one that does not stay, does not stay
      hidden_row : (d : ℕ) (τ : List ℕ) → 0 < d → d < n → Stands T (T d).parent τ → keep T d ≡ true → (r : ℕ) (σ : List ℕ) → Shut k f (r ∷ σ) → (υ : List ℕ) → τ ≡ (r ∷ σ) ++ υ
          → ((t : ℕ) (ρ : List ℕ) → τ ≡ (r ∷ σ) ++ (t ∷ ρ) → ⊥) → ⊥
      hidden_row d τ z l st h r σ shut [] q more =
          let p = (T d).parent in
          let u = early d z l in
          let there : Stands T p (r ∷ σ) = subst (λ ρ. Stands T p ρ) (q ∙ append-nil (r ∷ σ)) st in
          let zp : 0 < p = ⊎_elim (λ x. absurd (let e = ap length x.1 in omega arith)) (λ x. x.1) (stands_by T p (r ∷ σ) there) in
          let stops : stop T p ≡ true = stop_by T n early p zp (omega arith) ∙ or_right _ _ (shut_zero p (r ∷ σ) (omega arith) there shut) in
          both_ways (keep T d) (keep_by T d z ∙ not_from_true _ stops) h
      hidden_row d τ z l st h r σ shut (t ∷ υ) q more = more t υ q

      -- a kept row is not hidden
      shown : (c : ℕ) (π : List ℕ) → Stands T c π → c < n → keep T c ≡ true → (r : ℕ) (σ : List ℕ) (s : ℕ) (ρ : List ℕ) → π ≡ (r ∷ σ) ++ (s ∷ ρ) → Shut k f (r ∷ σ) → ⊥
      shown c π root l h r σ s ρ e shut = let z = ap length e in omega arith
      shown c π (below {π = τ} d z st) l h r σ s ρ e shut =
          let x = front_of τ (r ∷ σ) (T d).role s ρ e in
          let q = early d z l in
          hidden_row d τ z l st h r σ shut x.0 x.1 (λ t υ p. shown (T d).parent τ st (omega arith) (keep_up T n early d z l h) r σ t υ p shut)

      -- what covers a path hides the path with one role more
      covers_hides : (σ : List ℕ) (r : ℕ) → Covered k f σ → Hidden k f (then_role σ r)
      covers_hides σ r x = go x.rest x.split
        where
          go : (τ : List ℕ) → σ ≡ (x.first ∷ x.front) ++ τ → Hidden k f (then_role σ r)
          go [] e = record { first = x.first; front = x.front; next = r; rest = []; split = ap (λ z. then_role z r) (e ∙ append-nil (x.first ∷ x.front)); shut = x.shut }
          go (t ∷ τ) e = record {
            first = x.first;
            front = x.front;
            next = t;
            rest = then_role τ r;
            split = ap (λ z. then_role z r) e ∙ append_assoc (x.first ∷ x.front) (t ∷ τ) (r ∷ []);
            shut = x.shut;
          }

      covers_more : (σ : List ℕ) (r : ℕ) → Covered k f σ → Covered k f (then_role σ r)
      covers_more σ r x = record {
        first = x.first;
        front = x.front;
        rest = then_role x.rest r;
        split = ap (λ z. then_role z r) x.split ∙ append_assoc (x.first ∷ x.front) x.rest (r ∷ []);
        shut = x.shut;
      }

      covers_end : (σ : List ℕ) (r : ℕ) → Shut k f (then_role σ r) → Covered k f (then_role σ r)
      covers_end [] r shut = record { first = r; front = []; rest = []; split = refl; shut = shut }
      covers_end (t ∷ σ) r shut = record { first = t; front = then_role σ r; rest = []; split = sym (append-nil (t ∷ then_role σ r)); shut = shut }

      -- where nothing below a row stays, something on the way to it is shut
      stopped : (c : ℕ) (π : List ℕ) → Stands T c π → c < n → stop T c ≡ true → Covered k f π
      stopped c π root l h = absurd (both_ways (stop T 0) (stop_first T) h)
      stopped c π (below {π = σ} d z s) l h = ⊎_elim
          (λ g. covers_more σ (T d).role (stopped (T d).parent σ s (omega (arith, early d z l)) g))
          (λ g. covers_end σ (T d).role (zero_shut d (then_role σ (T d).role) l (below d z s) g))
          (or_cases _ _ (sym (stop_by T n early d z l) ∙ h))

      -- a row that does not stay is hidden
      gone : (c : ℕ) (π : List ℕ) → Stands T c π → c < n → keep T c ≡ false → Hidden k f π
      gone c π root l h = absurd (both_ways (keep T 0) h (keep_first T))
      gone c π (below {π = σ} d z s) l h =
          covers_hides σ (T d).role (stopped (T d).parent σ s (omega (arith, early d z l)) (not-false _ (sym (keep_by T d z) ∙ h)))

      opened : (c : ℕ) (π : List ℕ) (row : Row R) → Hung k (T c) (N (T c).parent) row → is_zero (T c).upper ≡ false → Open k (T c) (f π) → Open k row (f π)
      opened c π row m h o = record {
        lower = m.lower ∙ o.lower;
        upper = m.upper ∙ o.upper;
        atoms = λ x. ap (λ a. has a x) (m.atoms h) ∙ o.atoms x;
        restriction = λ v. ap (λ r. k.admits r v) (m.restriction h) ∙ o.restriction v;
      }

      lower_same : (c : ℕ) (π : List ℕ) → c < n → Stands T c π → (T c).lower ≡ (f π).lower
      lower_same c π l s = ⊎_elim (λ o. o.1.lower) (λ x. x.1.lower) (settled c π l s)

      closed : (c : ℕ) (π : List ℕ) (row : Row R) → c < n → Stands T c π → Hung k (T c) (N (T c).parent) row → is_zero (T c).upper ≡ true → Closed k row (f π)
      closed c π row l s m h = record { lower = m.lower ∙ lower_same c π l s; upper = m.upper ∙ zero_is _ h; atoms = m.no_atoms h; restriction = m.whole h }

      -- what stands in a row that stays
      held : (c : ℕ) (π : List ℕ) → Stands T c π → c < n → keep T c ≡ true → Content k f w (U (N c)) π
      held c π s l h = ⊎_elim
          (λ x.
          let at_root : (Shut k f π → ⊥) × Open k (T c) (f π) = ⊎_elim (λ o. o) (λ y. absurd (root_open (subst (λ ρ. Shut k f ρ) x.1 y.0))) (settled c π l s) in
          let same : U (N c) ≡ T c = ap (λ b. U (N b)) x.0 ∙ ap U (new_zero (keep T)) ∙ (carried c l h).first x.0 ∙ ap T (sym x.0) in
          inl (at_root.0, subst (λ row. Open k row (f π)) (sym same) at_root.1))
          (λ x.
          let m = moved c x.1 l h in
          ⊎_elim
          (λ g. inr (zero_shut c π l s g, closed c π (U (N c)) l s m g))
          (λ g. ⊎_elim (λ o. inl (o.0, opened c π (U (N c)) m g o.1)) (λ y. absurd (both_ways _ g (shut_zero c π l s y.0))) (settled c π l s))
          (cases_Bool (is_zero (T c).upper)))
          (stands_by T c π s)

      pub finished : FinishedBy k f w U (N n)
      finished = record {
        some = N_some n some;
        first = subst (λ (x : Row R). Topmost x) (sym ((carried 0 some (keep_first T)).first refl)) placed.first;
        live = live;
        parents = λ c z l.
            let x = new_onto (keep T) n c l in
            let zx = later_row x.0 c z x.3 in
            let m : Hung k (T x.0) (N (T x.0).parent) (U c) = subst (λ y. Hung k (T x.0) (N (T x.0).parent) (U y)) x.3 (moved x.0 zx x.1 x.2) in
            omega (arith, m.parent, x.3, new_strict (keep T) (T x.0).parent x.0 (keep_up T n early x.0 zx x.1 x.2) (early x.0 zx x.1));
        order = λ b c π ρ u l s t.
            let x = back b π s (omega arith) in
            let y = back c ρ t l in
            let before : x.0 < y.0 = ⊎_elim (λ q. q) (λ q. absurd (omega (arith, x.3, y.3, new_mono (keep T) y.0 x.0 q))) (cases_lt x.0 y.0) in
            placed.order x.0 y.0 π ρ before y.1 x.4 y.4;
        written = λ c π l s. let x = back c π s l in placed.written x.0 π x.1 x.4;
        seen = λ c π l s h. let x = back c π s l in shown x.0 π x.4 x.1 x.2 h.first h.front h.next h.rest h.split h.shut;
        content = λ c π l s. let x = back c π s l in subst (λ b. Content k f w (U b) π) x.3 (held x.0 π x.4 x.1 x.2);
        all = λ π e.
            let x = placed.all π e in
            ⊎_elim
            (λ h. inl (N x.0, new_strict (keep T) x.0 n h x.1, forth x.0 π x.2 x.1 h))
            (λ h. inr (gone x.0 π x.2 x.1 h))
            (cases_Bool (keep T x.0));
      }
