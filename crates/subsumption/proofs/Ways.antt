-- The way to a row that asks for more, slot by slot. Assumes nothing.
use Rattle.std.proofs.Common.{◌≡◌, ℕ, zero, suc, ◌+◌, ◌-◌, ◌<◌, ◌≤◌, ltb, ◌⊎◌, Some, None, Option, sym, refl, ap, ◌∙◌, subst, inl, inr, ⊎_elim, arith}
use Rattle.std.proofs.lemmas.Option.{none-some}
use Rattle.std.proofs.lemmas.Bool.{lt-ltb, le-ltb, cond-true, cond-false, cases_lt, cases_eq}
use Rattle.kinds.specs.Domain.{Domain}
use Rattle.rows.specs.Hanging.{child_in}
use Rattle.rows.specs.Shapes.{Shape}
use Rattle.rows.specs.declared.row.Row.{Row}
use Rattle.rows.proofs.Hanging.{child_some, child_none}
use Rattle.rows.proofs.Shaping.{single}
use Rattle.subsumption.specs.Given.{gives, Shut, Lacks, shut, room}
use Rattle.subsumption.specs.Matches.{hooks, match_of, Reaches, below_row, below_none, Step, passed, met, Matched, Stops, at_first, at_row}
use Rattle.subsumption.specs.Slots.{slot_of, own, ancestor, parent_of, role_of, Lineage}
use Rattle.subsumption.specs.declared.gap.Match.{Match}
use Rattle.subsumption.specs.declared.gap.Match.TheVariants.{At, Absent, Passed}
use Rattle.subsumption.specs.declared.gap.Need.{Need}

-- every row is some way below row 0
shifted : {R : Type 0} (Q : ℕ → Row R) (i t : ℕ) → ancestor Q i (suc t) ≡ ancestor Q (Q i).parent t
shifted Q i zero = refl
shifted Q i (suc t) = ap (λ y. (Q y).parent) (shifted Q i t)

lineage_by : {R : Type 0} (Q : ℕ → Row R) (m : ℕ) → Shape Q m → (fuel i : ℕ) → i < fuel → i < m → (d : ℕ) × Lineage Q i d
lineage_by Q m shape zero i f l = absurd (omega arith)
lineage_by Q m shape (suc fuel) i f l = ⊎_elim
    (λ z. (0, record { top = z; rows = λ t u. absurd (omega arith) }))
    (λ nz.
    let p = shape.parents i (omega arith) l in
    let up = lineage_by Q m shape fuel (Q i).parent (omega arith) (omega arith) in
    (suc up.0, record { top = shifted Q i up.0 ∙ up.1.top; rows = λ t u. below t up.0 up.1 nz u }))
    (cases_eq i 0)
  where
    below : (t d : ℕ) → Lineage Q (Q i).parent d → (i ≡ 0 → ⊥) → t < suc d → 0 < ancestor Q i t
    below zero d up nz u = omega arith
    below (suc t) d up nz u = subst (λ y. 0 < y) (sym (shifted Q i t)) (up.rows t (omega arith))

pub lineage : {R : Type 0} (Q : ℕ → Row R) (m : ℕ) → Shape Q m → (i : ℕ) → i < m → (d : ℕ) × Lineage Q i d
lineage Q m shape i l = lineage_by Q m shape (suc i) i (omega arith) l

-- Where the slots hang.
module _ {R : Type 0} (P : ℕ → Row R) (n : ℕ) (Q : ℕ → Row R) (M : ℕ → Match) where
  pub up_own : (s : ℕ) → s < n → parent_of P n Q M s ≡ (P s).parent
  up_own s l = cond-true (ltb s n) _ _ (lt-ltb s n l)

  pub by_own : (s : ℕ) → s < n → role_of P n Q M s ≡ (P s).role
  by_own s l = cond-true (ltb s n) _ _ (lt-ltb s n l)

  pub up_past : (i : ℕ) → parent_of P n Q M (n + i) ≡ slot_of n (Q i).parent (M (Q i).parent)
  up_past i =
      let e : (n + i) - n ≡ i = omega arith in
      cond-false (ltb (n + i) n) _ _ (le-ltb (n + i) n (omega arith)) ∙ ap (λ x. slot_of n (Q x).parent (M (Q x).parent)) e

  pub by_past : (i : ℕ) → role_of P n Q M (n + i) ≡ (Q i).role
  by_past i =
      let e : (n + i) - n ≡ i = omega arith in
      cond-false (ltb (n + i) n) _ _ (le-ltb (n + i) n (omega arith)) ∙ ap (λ x. (Q x).role) e

  pub own_own : (s : ℕ) → s < n → own n s ≡ Some s
  own_own s l = cond-true (ltb s n) _ _ (lt-ltb s n l)

  pub own_past : (s : ℕ) → n ≤ s → own n s ≡ None
  own_past s l = cond-false (ltb s n) _ _ (le-ltb s n l)

module _ {R V : Type 0} (k : Domain R V) (P : ℕ → Row R) (n : ℕ) (Q : ℕ → Row R) (m : ℕ) (M : ℕ → Match) (shape : Shape P n) (other : Shape Q m)
    (c : ℕ) (here : Match) (need : Need) (small : c < m) (stops : Stops k P n Q M c here need) (is : M c ≡ here) where
  -- what is known of row c
  pub record Last : Type 0 where
    pub found : Option ℕ
    pub matched : Matched k P n Q M c
    pub reaches : Reaches k P n (Q c).role (M (Q c).parent) found
    pub match : here ≡ match_of found
    pub lacks : Lacks k (gives k P found) (Q c) need

  last_by : (d : ℕ) (w : Match) (x : Need) → Stops k P n Q M d w x → 0 < d
      → (o : Option ℕ) × Matched k P n Q M d × Reaches k P n (Q d).role (M (Q d).parent) o × (w ≡ match_of o) × Lacks k (gives k P o) (Q d) x
  last_by d w x (at_first l) z = absurd (omega arith)
  last_by d w x (at_row {o = o} z matched reaches lacks) y = (o, matched, reaches, refl, lacks)

  pub last : 0 < c → Last
  last z = let w = last_by c here need stops z in record { found = w.0; matched = w.1; reaches = w.2; match = w.3; lacks = w.4 }

  root_by : (d : ℕ) (w : Match) (x : Need) → Stops k P n Q M d w x → M d ≡ w → M 0 ≡ At 0
  root_by d w x (at_first l) e = e
  root_by d w x (at_row z matched reaches lacks) e = matched.first

  pub root : M 0 ≡ At 0
  root = root_by c here need stops is

  -- a row that is not passed over is reached
  pub record Reached (i : ℕ) : Type 0 where
    pub found : Option ℕ
    pub reaches : Reaches k P n (Q i).role (M (Q i).parent) found
    pub match : M i ≡ match_of found

  unpassed : (r : ℕ) (w : Match) (o : Option ℕ) → Reaches k P n r w o → w ≡ Passed → ⊥
  unpassed r w o (below_row e) q = absurd (cc)
  unpassed r w o below_none q = absurd (cc)

  entered_by : (q : Row R) (a b : Match) → Step k P n q a b → (b ≡ Passed → ⊥) → (o : Option ℕ) × Reaches k P n q.role a o × (b ≡ match_of o) × (Shut k (gives k P o) → ⊥)
  entered_by q a b passed h = absurd (h refl)
  entered_by q a b (met reaches (shut counted closed)) h = absurd (h refl)
  entered_by q a b (met {o = o} reaches (room counted more marked read)) h = (o, reaches, refl, more)

  earlier_row : (i : ℕ) → 0 < i → i < c → (M i ≡ Passed → ⊥) → (o : Option ℕ) × Reaches k P n (Q i).role (M (Q i).parent) o × (M i ≡ match_of o) × (Shut k (gives k P o) → ⊥)
  earlier_row i z l h = entered_by (Q i) (M (Q i).parent) (M i) ((last (omega arith)).matched.steps i z l) h

  pub reached : (i : ℕ) → 0 < i → i ≤ c → (M i ≡ Passed → ⊥) → Reached i
  reached i z l h = ⊎_elim
      (λ e. let w = last (omega arith) in subst (λ x. Reached x) (sym e) (record { found = w.found; reaches = w.reaches; match = is ∙ w.match }))
      (λ ne. let w = earlier_row i z (omega arith) h in record { found = w.0; reaches = w.1; match = w.2 })
      (cases_eq i c)

  found_at : (o : Option ℕ) (b : ℕ) → At b ≡ match_of o → o ≡ Some b
  found_at None b q = absurd (cc)
  found_at (Some d) b q = cc

  -- what it is to be reached at a row
  below_by : (r b : ℕ) (w : Match) (o : Option ℕ) → Reaches k P n r w o → o ≡ Some b → (a : ℕ) × (w ≡ At a) × (child_in (hooks P) n a r ≡ Some b)
  below_by r b w o (below_row {a = a} q) h = (a, refl, sym q ∙ h)
  below_by r b w o below_none h = absurd (none-some b h)

  under_row : (i b : ℕ) → 0 < i → i ≤ c → M i ≡ At b → (a : ℕ) × (M (Q i).parent ≡ At a) × (child_in (hooks P) n a (Q i).role ≡ Some b)
  under_row i b z l e =
      let w = reached i z l (λ q. cc) in
      below_by (Q i).role b (M (Q i).parent) w.found w.reaches (found_at w.found b (sym e ∙ w.match))

  -- matches up to row c are rows of the first form
  pub inside : (i b : ℕ) → i ≤ c → M i ≡ At b → b < n
  inside i b l e = ⊎_elim
      (λ z. let q : 0 ≡ b = (let first = subst (λ x. M x ≡ At b) z e in cc (root)) in let w = shape.some in omega arith)
      (λ nz. let w = under_row i b (omega arith) l e in (child_some (hooks P) n w.0 (Q i).role b w.2).1)
      (cases_eq i 0)

  -- a slot of a row up to c hangs from the slot of the row's parent, by the row's role
  slot_below : (i : ℕ) (w : Match) → M i ≡ w → i ≤ c → slot_of n i w < n + i + 1
  slot_below i (At b) e l = omega (arith, inside i b l e)
  slot_below i Absent e l = omega arith
  slot_below i Passed e l = omega arith

  pub lower : (s : ℕ) → 0 < s → s < n + c + 1 → parent_of P n Q M s < s
  lower s z l = ⊎_elim
      (λ h. subst (λ x. x < s) (sym (up_own P n Q M s h)) (shape.parents s z h))
      (λ h.
      let i = s - n in
      let e : n + i ≡ s = omega arith in
      let q : parent_of P n Q M s ≡ slot_of n (Q i).parent (M (Q i).parent) = ap (parent_of P n Q M) (sym e) ∙ up_past P n Q M i in
      ⊎_elim
      (λ iz.
      let first : (Q i).parent ≡ 0 = ap (λ x. (Q x).parent) iz ∙ other.first.0 in
      let top : slot_of n (Q i).parent (M (Q i).parent) ≡ 0 = ap (λ x. slot_of n x (M x)) first ∙ ap (slot_of n 0) root in
      omega arith)
      (λ nz.
      let p = other.parents i (omega arith) (omega arith) in
      omega (arith, slot_below (Q i).parent (M (Q i).parent) refl (omega arith)))
      (cases_eq i 0))
      (cases_lt s n)

  -- Along the way.
  module _ (deep : ℕ) (line : Lineage Q c deep) where
    abbrev pub on : ℕ → ℕ
    on t = ancestor Q c t

    pub on_small : (t : ℕ) → on t ≤ c
    on_small zero = omega arith
    on_small (suc t) = ⊎_elim
        (λ z. subst (λ y. (Q y).parent ≤ c) (sym z) (let f = other.first.0 in omega arith))
        (λ nz. let p = other.parents (on t) (omega arith) (omega (arith, on_small t)) in omega (arith, on_small t))
        (cases_eq (on t) 0)

    on_falls : (t : ℕ) → t < deep → on (suc t) < on t
    on_falls t l = other.parents (on t) (line.rows t l) (omega (arith, on_small t))

    -- rows on the way are not passed over
    on_open : (t : ℕ) → t ≤ deep → M (on t) ≡ Passed → ⊥
    on_open zero l e = open_last (cases_eq c 0)
      where
        match_open : (o : Option ℕ) → match_of o ≡ Passed → ⊥
        match_open None q = cc
        match_open (Some b) q = cc

        open_last : (c ≡ 0) ⊎ (c ≡ 0 → ⊥) → ⊥
        open_last (inl z) = let first = subst (λ y. M y ≡ Passed) z e in cc (root)
        open_last (inr nz) = let w = last (omega arith) in match_open w.found (sym w.match ∙ sym is ∙ e)
    on_open (suc t) l e = let w = reached (on t) (line.rows t (omega arith)) (on_small t) (on_open t (omega arith)) in unpassed (Q (on t)).role (M (on (suc t))) w.found w.reaches e

    pub on_reached : (t : ℕ) → t < deep → Reached (on t)
    on_reached t l = reached (on t) (line.rows t l) (on_small t) (on_open t (omega arith))

    -- before the end there is room for fillers
    pub on_room : (t : ℕ) → 0 < t → t < deep → (w : Reached (on t)) → Shut k (gives k P w.found) → ⊥
    on_room t z l w none =
        let v = earlier_row (on t) (line.rows t l) (less t z l) (on_open t (omega arith)) in
        v.3 (subst (λ o. Shut k (gives k P o)) (match_once w.found v.0 (sym w.match ∙ v.2)) none)
      where
        less : (t : ℕ) → 0 < t → t < deep → on t < c
        less zero z l = absurd (omega arith)
        less (suc t) z l = let f = on_falls t (omega arith) in omega (arith, on_small t)

        match_once : (o p : Option ℕ) → match_of o ≡ match_of p → o ≡ p
        match_once None None q = refl
        match_once None (Some b) q = absurd (cc)
        match_once (Some a) None q = absurd (cc)
        match_once (Some a) (Some b) q = cc

    -- row 0 is the end of the way, and alone has row 0 for its match
    top_match : (v b : ℕ) → v ≤ deep → deep ≤ v → M (on v) ≡ At b → b ≡ 0
    top_match v b l h e = let w : v ≡ deep = omega arith in let top = ap (λ y. M (on y)) w ∙ ap M line.top ∙ root in cc

    low_match : (v b : ℕ) → v < deep → M (on v) ≡ At b → (a : ℕ) × (M (on (suc v)) ≡ At a) × (a < b) × (b < n) × ((P b).parent ≡ a) × ((P b).role ≡ (Q (on v)).role)
    low_match v b l e =
        let w = under_row (on v) b (line.rows v l) (on_small v) e in
        let s = child_some (hooks P) n w.0 (Q (on v)).role b w.2 in
        (w.0, w.1, s.0, s.1, s.2.parent, s.2.role)

    -- two rows on the way with one match are one
    once : (fuel t u b : ℕ) → deep ≤ t + fuel → t ≤ deep → u ≤ deep → M (on t) ≡ At b → M (on u) ≡ At b → t ≡ u
    once zero t u b f lt lu p q = ⊎_elim
        (λ j. let w = low_match u b j q in absurd (omega (arith, top_match t b lt (omega arith) p, w.2)))
        (λ j. omega arith)
        (cases_lt u deep)
    once (suc fuel) t u b f lt lu p q = go (cases_lt t deep) (cases_lt u deep)
        (λ i j. let w = low_match t b i p in let v = low_match u b j q in once fuel (suc t) (suc u) w.0 (omega arith) i j w.1 (v.1 ∙ ap At (sym v.4 ∙ w.4)))
      where
        go : (t < deep) ⊎ (deep ≤ t) → (u < deep) ⊎ (deep ≤ u) → (t < deep → u < deep → suc t ≡ suc u) → t ≡ u
        go (inr i) (inr j) rest = omega arith
        go (inr i) (inl j) rest = let w = low_match u b j q in absurd (omega (arith, top_match t b lt i p, w.2))
        go (inl i) (inr j) rest = let w = low_match t b i p in absurd (omega (arith, top_match u b lu j q, w.2))
        go (inl i) (inl j) rest = omega (arith, rest i j)

    on_falls_by : (t d : ℕ) → t + d < deep → on (t + suc d) < on t
    on_falls_by t zero l = let e : t + 1 ≡ suc t = omega arith in subst (λ y. on y < on t) (sym e) (on_falls t (omega arith))
    on_falls_by t (suc d) l =
        let e : t + suc (suc d) ≡ suc (t + suc d) = omega arith in
        let f = on_falls (t + suc d) (omega arith) in
        let g = on_falls_by t d (omega arith) in
        subst (λ y. on y < on t) (sym e) (omega arith)

    on_later : (t u : ℕ) → t < u → u ≤ deep → on u < on t
    on_later t u l h =
        let d = (u - t) - 1 in
        let e : t + suc d ≡ u = omega arith in
        subst (λ y. on y < on t) e (on_falls_by t d (omega arith))

    on_once : (t u : ℕ) → t ≤ deep → u ≤ deep → on t ≡ on u → t ≡ u
    on_once t u lt lu e = ⊎_elim
        (λ h. absurd (omega (arith, on_later t u h lu)))
        (λ h. ⊎_elim (λ g. absurd (omega (arith, on_later u t g lt))) (λ g. omega arith) (cases_lt u t))
        (cases_lt t u)

    abbrev pub place : ℕ → ℕ
    place t = slot_of n (on t) (M (on t))

    -- rows on the way have slots of their own
    pub places_apart : (t u : ℕ) → t ≤ deep → u ≤ deep → place t ≡ place u → t ≡ u
    places_apart t u lt lu e = go (M (on t)) (M (on u)) refl refl e
      where
        go : (v w : Match) → M (on t) ≡ v → M (on u) ≡ w → slot_of n (on t) v ≡ slot_of n (on u) w → t ≡ u
        go (At a) (At b) p q h = once deep t u b (omega arith) lt lu (p ∙ ap At h) q
        go (At a) Absent p q h = absurd (omega (arith, inside (on t) a (on_small t) p))
        go Absent (At b) p q h = absurd (omega (arith, inside (on u) b (on_small u) q))
        go Absent Absent p q h = on_once t u lt lu (omega arith)
        go Passed w p q h = absurd (on_open t lt p)
        go (At a) Passed p q h = absurd (on_open u lu q)
        go Absent Passed p q h = absurd (on_open u lu q)

    -- the slot of a row on the way hangs from that of the next, by the row's role
    pub place_up : (t : ℕ) → t < deep → parent_of P n Q M (place t) ≡ place (suc t)
    place_up t l = go (M (on t)) refl
      where
        go : (v : Match) → M (on t) ≡ v → parent_of P n Q M (slot_of n (on t) v) ≡ place (suc t)
        go (At b) e = let w = low_match t b l e in up_own P n Q M b w.3 ∙ w.4 ∙ sym (ap (slot_of n (on (suc t))) w.1)
        go Absent e = up_past P n Q M (on t)
        go Passed e = up_past P n Q M (on t)

    pub place_by : (t : ℕ) → t < deep → role_of P n Q M (place t) ≡ (Q (on t)).role
    place_by t l = go (M (on t)) refl
      where
        go : (v : Match) → M (on t) ≡ v → role_of P n Q M (slot_of n (on t) v) ≡ (Q (on t)).role
        go (At b) e = let w = low_match t b l e in by_own P n Q M b w.3 ∙ w.5
        go Absent e = by_past P n Q M (on t)
        go Passed e = by_past P n Q M (on t)

    pub place_small : (t : ℕ) → place t < n + c + 1
    place_small t = omega (arith, slot_below (on t) (M (on t)) refl (on_small t), on_small t)

    pub place_some : (t : ℕ) → t < deep → 0 < place t
    place_some t l = go (M (on t)) refl
      where
        go : (v : Match) → M (on t) ≡ v → 0 < slot_of n (on t) v
        go (At b) e = let w = low_match t b l e in omega (arith, w.2)
        go Absent e = let w = line.rows t l in omega arith
        go Passed e = let w = line.rows t l in omega arith

    -- slots of the first form, and those on the way
    pub data Real (s : ℕ) : Type 0 where
      row : s < n → Real s
      way : (t : ℕ) → t < deep → s ≡ place t → Real s

    -- a slot on the way is one of the first form, or its row has no match there
    way_new : (t : ℕ) → t < deep → n ≤ place t → (place t ≡ n + on t) × (M (on t) ≡ Absent)
    way_new t l h = go (M (on t)) refl h
      where
        go : (v : Match) → M (on t) ≡ v → n ≤ slot_of n (on t) v → (slot_of n (on t) v ≡ n + on t) × (v ≡ Absent)
        go (At b) e q = absurd (omega (arith, inside (on t) b (on_small t) e))
        go Absent e q = (refl, refl)
        go Passed e q = absurd (on_open t (omega arith) e)

    -- where a row has no match, the first form has no row by its role
    bare : (t b : ℕ) → t < deep → M (on t) ≡ Absent → b < n → 0 < b → (P b).parent ≡ place (suc t) → (P b).role ≡ (Q (on t)).role → ⊥
    bare t b l e lb zb p r = let w = on_reached t l in by w.found (M (on (suc t))) w.reaches refl (none w.found (sym e ∙ w.match))
      where
        none : (o : Option ℕ) → Absent ≡ match_of o → o ≡ None
        none None q = refl
        none (Some d) q = absurd (cc)

        by : (o : Option ℕ) (v : Match) → Reaches k P n (Q (on t)).role v o → M (on (suc t)) ≡ v → o ≡ None → ⊥
        by o v (below_row {a = a} q) h no_row =
            let at : (P b).parent ≡ a = p ∙ ap (slot_of n (on (suc t))) h in
            child_none (hooks P) n a (Q (on t)).role (sym q ∙ no_row) b (let f = shape.parents b zb lb in omega arith) lb (record { parent = at; role = r })
        by o v below_none h no_row =
            let at : (P b).parent ≡ n + on (suc t) = p ∙ ap (slot_of n (on (suc t))) h in
            let f = shape.parents b zb lb in
            omega arith

    -- no two rows of the first form, and no row and a new slot, hang alike
    rows_once : (s b : ℕ) → 0 < s → s < n → 0 < b → b < n → parent_of P n Q M b ≡ parent_of P n Q M s → role_of P n Q M b ≡ role_of P n Q M s → b ≡ s
    rows_once s b zs ls zb lb u r =
        single P n shape.parents shape.order b s zb lb zs ls (sym (up_own P n Q M b lb) ∙ u ∙ up_own P n Q M s ls) (sym (by_own P n Q M b lb) ∙ r ∙ by_own P n Q M s ls)

    row_or_new : (t b : ℕ) → t < deep → n ≤ place t → 0 < b → b < n → parent_of P n Q M b ≡ parent_of P n Q M (place t) → role_of P n Q M b ≡ role_of P n Q M (place t) → ⊥
    row_or_new t b l h zb lb u r =
        bare t b l (way_new t l h).1 lb zb (sym (up_own P n Q M b lb) ∙ u ∙ place_up t l) (sym (by_own P n Q M b lb) ∙ r ∙ place_by t l)

    pub only : (s b : ℕ) → 0 < s → Real s → 0 < b → Real b → parent_of P n Q M b ≡ parent_of P n Q M s → role_of P n Q M b ≡ role_of P n Q M s → b ≡ s
    only s b zs (row ls) zb (row lb) u r = rows_once s b zs ls zb lb u r
    only s b zs (row ls) zb (way t l e) u r = ⊎_elim
        (λ lb. rows_once s b zs ls zb lb u r)
        (λ h. absurd (row_or_new t s l (subst (λ y. n ≤ y) e h) zs ls (sym u ∙ ap (parent_of P n Q M) e) (sym r ∙ ap (role_of P n Q M) e)))
        (cases_lt b n)
    only s b zs (way t l e) zb (row lb) u r = ⊎_elim
        (λ ls. rows_once s b zs ls zb lb u r)
        (λ h. absurd (row_or_new t b l (subst (λ y. n ≤ y) e h) zb lb (u ∙ ap (parent_of P n Q M) e) (r ∙ ap (role_of P n Q M) e)))
        (cases_lt s n)
    only s b zs (way t l e) zb (way v h f) u r =
        let q : place (suc v) ≡ place (suc t) = sym (place_up v h) ∙ sym (ap (parent_of P n Q M) f) ∙ u ∙ ap (parent_of P n Q M) e ∙ place_up t l in
        let w : suc v ≡ suc t = places_apart (suc v) (suc t) h l q in
        let x : v ≡ t = omega arith in
        f ∙ ap place x ∙ sym e
