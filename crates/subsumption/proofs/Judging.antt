-- A form held against a census, one row after another. Assumes nothing.
use Rattle.std.proofs.Common.{◌≡◌, ℕ, ◌+◌, ◌<◌, ◌≤◌, Bool, true, false, List, length, get_or, set, Some, None, Option, IfSome, Decides, sym, refl, ap, ◌∙◌, subst, ⊎_elim, arith, length-set}
use Rattle.std.proofs.lemmas.Bool.{false≢true, cases_lt, cases_eq}
use Rattle.std.proofs.lemmas.Option.{none-some, same_Some}
use Rattle.std.proofs.lemmas.List.{get_or_read, get_or-set_same, get_or-set_other}
use Rattle.kinds.specs.Domain.{Domain}
use Rattle.rows.specs.Groups.{WellFormed, world, total_some, groups_of}
use Rattle.rows.specs.Hanging.{Hook, child_in}
use Rattle.rows.specs.Numbers.{Allows}
use Rattle.rows.specs.Suiting.{Kin, kin, no_kin, heads, Suits}
use Rattle.rows.specs.Shapes.{Shaped}
use Rattle.rows.specs.Tables.{Meets, rows_of}
use Rattle.rows.specs.Censuses.{Formed}
use Rattle.rows.specs.declared.group.Group.{Group}
use Rattle.rows.specs.declared.row.Row.{Row}
use Rattle.rows.proofs.Fitting.{Fitting, Trail, origin, onward, Fault, unsuited, miscounted, fitting_meets, fault_fails}
use Rattle.rows.proofs.Groups.{owner_first}
use Rattle.rows.proofs.Hanging.{child_some, child_none}
use Rattle.rows.proofs.Rooted.{Earlier}
use Rattle.rows.proofs.RowFacts.{well_formed_lone, well_formed_peopled}
use Rattle.subsumption.specs.Judging.{Filled, Judges}
use Rattle.subsumption.proofs.Slotting.{slots, fresh, fresh_size, fresh_first, fresh_other}

module _ {R V : Type 0} (k : Domain R V) where
  -- what stands past the end
  blank : Group V
  blank = record { parent = 0; role = 0; headcount = 0; atoms = 0; reading = k.inhabited.0 }

  -- a census has a group
  pub formed_some : (gs : List (Group V)) → Formed k gs → 0 < length gs
  formed_some gs formed = (formed blank).some

  module _ (T : ℕ → Row R) (m : ℕ) (G : ℕ → Group V) (n : ℕ) where
    -- the rows before row c have been gone through: each that is reached has its group, and fits it
    pub record Reached (reached : ℕ → Option ℕ) (c : ℕ) : Type 0 where
      pub root : reached 0 ≡ Some 0
      pub fit : Fitting k T c G n reached
      pub trail : (b g : ℕ) → b < c → reached b ≡ Some g → Trail k T m G n b g
      pub inside : (b g : ℕ) → reached b ≡ Some g → g < n
      pub later : (b : ℕ) → c ≤ b → reached b ≡ None

  module _ (T : ℕ → Row R) (m : ℕ) (earlier : Earlier T m) (top : 0 < m) (G : ℕ → Group V) (n : ℕ) (w : WellFormed k G n) where
    abbrev H : ℕ → Hook
    H g = ((G g).parent, (G g).role)

    -- what is found hangs there
    kin_of : (h r : ℕ) (o : Option ℕ) → o ≡ child_in H n h r → Kin G n h r o
    kin_of h r None e = no_kin (λ g z l p q. child_none H n h r (sym e) g (let low = w.parents g z l in omega (arith, low, p)) l (record { parent = p; role = q }))
    kin_of h r (Some g) e = let x = child_some H n h r g (sym e) in kin (omega (arith, x.0)) x.1 x.2.parent x.2.role

    abbrev Met : Type 0
    Met = Meets (world k G n w) T m 0 0

    fails : Met → Fault k T m G n → ⊥
    fails met fault = fault_fails k T m G n (total_some G n w.some (let e = w.one in omega arith)) w.reads (well_formed_lone k G n w) (well_formed_peopled k G n w) earlier w.some met fault

    -- row 0 does not suit group 0
    pub first_fails : Decides false (Suits k (T 0) (G 0)) → Decides false Met
    first_fails h = (λ e. absurd (false≢true e), λ met. absurd (fails met (unsuited 0 0 top origin (λ s. false≢true (h.1 s)))))

    -- a row does not allow what hangs there, or that does not suit it
    pub later_fails : (reached : ℕ → Option ℕ) (c h : ℕ) (o : Option ℕ) → Reached T m G n reached c → 0 < c → c < m → reached (T c).parent ≡ Some h → o ≡ child_in H n h (T c).role
        → Decides false (Filled k (T c) (T c).lower (T c).upper G o) → Decides false Met
    later_fails reached c h o so z l up found bad = (λ e. absurd (false≢true e), λ met. absurd (fails met (fault o found (λ f. false≢true (bad.1 f)) met)))
      where
        way : Trail k T m G n (T c).parent h
        way = so.trail (T c).parent h (earlier c z l) up

        fault : (o : Option ℕ) → o ≡ child_in H n h (T c).role → (Filled k (T c) (T c).lower (T c).upper G o → ⊥) → Met → Fault k T m G n
        fault None e unfit met = miscounted c h None z l way (kin_of h (T c).role None e) (λ a. unfit (a, tt))
        fault (Some g) e unfit met =
            let near = kin_of h (T c).role (Some g) e in
            miscounted c h (Some g) z l way near (λ a. fails met (unsuited c g l (onward g z l way near) (λ s. unfit (a, s))))

    -- what is reached so far, and at row c
    abbrev At : (ℕ → Option ℕ) → (ℕ → Option ℕ) → ℕ → Option ℕ → Type 0
    At old new c o = (new c ≡ o) × ((b : ℕ) → (b ≡ c → ⊥) → new b ≡ old b)

    pub started : (reached : ℕ → Option ℕ) → reached 0 ≡ Some 0 → ((b : ℕ) → (b ≡ 0 → ⊥) → reached b ≡ None) → Suits k (T 0) (G 0) → Reached T m G n reached 1
    started reached at none suits = record {
      root = at;
      fit = record {
        there = λ c g l e. let z : c ≡ 0 = omega arith in let q : 0 ≡ g = same_Some 0 g (sym at ∙ ap reached (sym z) ∙ e) in
            subst (λ x. Suits k (T x) (G g)) (sym z) (subst (λ x. Suits k (T 0) (G x)) q suits);
        kin = λ b h z l e. absurd (omega arith);
        numbers = λ b h z l e. absurd (omega arith);
      };
      trail = λ b g l e. let z : b ≡ 0 = omega arith in let q : 0 ≡ g = same_Some 0 g (sym at ∙ ap reached (sym z) ∙ e) in
          subst (λ x. Trail k T m G n x g) (sym z) (subst (λ x. Trail k T m G n 0 x) q origin);
      inside = λ b g e. ⊎_elim
          (λ z. let q : 0 ≡ g = same_Some 0 g (sym at ∙ ap reached (sym z) ∙ e) in let s = w.some in omega arith)
          (λ z. absurd (none-some g (sym (none b z) ∙ e)))
          (cases_eq b 0);
      later = λ b l. none b (λ z. omega arith);
    }

    -- a row that hangs from none that is reached
    pub passed : (reached : ℕ → Option ℕ) (c : ℕ) → Reached T m G n reached c → 0 < c → reached (T c).parent ≡ None → Reached T m G n reached (c + 1)
    passed reached c so z up = record {
      root = so.root;
      fit = record {
        there = λ b g l e. so.fit.there b g (below b g l e) e;
        kin = λ b h zb l e. so.fit.kin b h zb (hung b h l e) e;
        numbers = λ b h zb l e. so.fit.numbers b h zb (hung b h l e) e;
      };
      trail = λ b g l e. so.trail b g (below b g l e) e;
      inside = so.inside;
      later = λ b l. so.later b (omega arith);
    }
      where
        below : (b g : ℕ) → b < c + 1 → reached b ≡ Some g → b < c
        below b g l e = ⊎_elim (λ u. u) (λ u. absurd (none-some g (sym (so.later b u) ∙ e))) (cases_lt b c)

        hung : (b h : ℕ) → b < c + 1 → reached (T b).parent ≡ Some h → b < c
        hung b h l e = ⊎_elim (λ u. u) (λ u. let q : b ≡ c = omega arith in absurd (none-some h (sym up ∙ ap (λ x. reached (T x).parent) (sym q) ∙ e))) (cases_lt b c)

    -- a row that fits what hangs there
    pub stepped : (old new : ℕ → Option ℕ) (c h : ℕ) (o : Option ℕ) → Reached T m G n old c → 0 < c → c < m → At old new c o → old (T c).parent ≡ Some h → o ≡ child_in H n h (T c).role
        → Filled k (T c) (T c).lower (T c).upper G o → Reached T m G n new (c + 1)
    stepped old new c h o so z l at up found fill = record {
      root = at.1 0 (λ e. omega arith) ∙ so.root;
      fit = record { there = there'; kin = kin'; numbers = numbers' };
      trail = trail';
      inside = λ b g e. ⊎_elim (λ q. hung_inside g o found (sym at.0 ∙ ap new (sym q) ∙ e)) (λ q. so.inside b g (sym (at.1 b q) ∙ e)) (cases_eq b c);
      later = λ b u. at.1 b (λ e. omega arith) ∙ so.later b (omega arith);
    }
      where
        -- each row hangs from one before row c, or is not yet gone through
        parent_old : (b h' : ℕ) → 0 < b → b < c + 1 → new (T b).parent ≡ Some h' → old (T b).parent ≡ Some h'
        parent_old b h' zb u e = let low = earlier b zb (omega arith) in sym (at.1 (T b).parent (λ q. omega (arith, low, q))) ∙ e

        hung_inside : (g : ℕ) (u : Option ℕ) → u ≡ child_in H n h (T c).role → u ≡ Some g → g < n
        hung_inside g u f e = (child_some H n h (T c).role g (sym f ∙ e)).1

        suited : (u : Option ℕ) (g : ℕ) → u ≡ Some g → IfSome u (λ x. Suits k (T c) (G x)) → Suits k (T c) (G g)
        suited None g e s = absurd (none-some g e)
        suited (Some x) g e s = subst (λ y. Suits k (T c) (G y)) (same_Some x g e) s

        there' : (b g : ℕ) → b < c + 1 → new b ≡ Some g → Suits k (T b) (G g)
        there' b g u e = ⊎_elim
            (λ q. subst (λ x. Suits k (T x) (G g)) (sym q) (suited o g (sym at.0 ∙ ap new (sym q) ∙ e) fill.1))
            (λ q. so.fit.there b g (omega arith) (sym (at.1 b q) ∙ e))
            (cases_eq b c)

        -- the group of row c
        here : (h' : ℕ) → old (T c).parent ≡ Some h' → h ≡ h'
        here h' e = same_Some h h' (sym up ∙ e)

        kin' : (b h' : ℕ) → 0 < b → b < c + 1 → new (T b).parent ≡ Some h' → Kin G n h' (T b).role (new b)
        kin' b h' zb u e = ⊎_elim
            (λ q. subst (λ x. Kin G n h' (T x).role (new x)) (sym q) (
            subst (λ x. Kin G n h' (T c).role x) (sym at.0) (subst (λ x. Kin G n x (T c).role o) (here h' (ap (λ x. old (T x).parent) (sym q) ∙ parent_old b h' zb u e)) (kin_of h (T c).role o found))))
            (λ q. subst (λ x. Kin G n h' (T b).role x) (sym (at.1 b q)) (so.fit.kin b h' zb (omega arith) (parent_old b h' zb u e)))
            (cases_eq b c)

        numbers' : (b h' : ℕ) → 0 < b → b < c + 1 → new (T b).parent ≡ Some h' → Allows (T b).lower (T b).upper (heads G n (new b))
        numbers' b h' zb u e = ⊎_elim
            (λ q. subst (λ x. Allows (T x).lower (T x).upper (heads G n (new x))) (sym q) (subst (λ x. Allows (T c).lower (T c).upper (heads G n x)) (sym at.0) (counted o fill.0)))
            (λ q. subst (λ x. Allows (T b).lower (T b).upper (heads G n x)) (sym (at.1 b q)) (so.fit.numbers b h' zb (omega arith) (parent_old b h' zb u e)))
            (cases_eq b c)
          where
            counted : (u : Option ℕ) → Allows (T c).lower (T c).upper (heads G 0 u) → Allows (T c).lower (T c).upper (heads G n u)
            counted None a = a
            counted (Some g) a = a

        trail' : (b g : ℕ) → b < c + 1 → new b ≡ Some g → Trail k T m G n b g
        trail' b g u e = ⊎_elim
            (λ q. subst (λ x. Trail k T m G n x g) (sym q) (
            onward g z l (so.trail (T c).parent h (earlier c z l) up) (subst (λ x. Kin G n h (T c).role x) (sym at.0 ∙ ap new (sym q) ∙ e) (kin_of h (T c).role o found))))
            (λ q. so.trail b g (omega arith) (sym (at.1 b q) ∙ e))
            (cases_eq b c)

    -- all rows have been gone through
    pub all_met : (reached : ℕ → Option ℕ) → Reached T m G n reached m → Decides true Met
    all_met reached so =
        let some = total_some G n w.some (let e = w.one in omega arith) in
        let first : reached 0 ≡ Some _ = so.root ∙ ap Some (sym (owner_first G n w.some (well_formed_peopled k G n w 0 w.some))) in
        (λ _. fitting_meets k T m G n some w.reads (well_formed_lone k G n w) reached earlier so.fit 0 0 top first, λ _. refl)

  pub judged_moved : {gs cs : List (Group V)} {rows fs : List (Row R)} {b : Bool} → gs ≡ cs → rows ≡ fs → Judges k gs rows b → Judges k cs fs b
  judged_moved {gs = gs} {fs = fs} {b = b} p q h = subst (λ xs. Judges k xs fs b) p (subst (λ ys. Judges k gs ys b) q h)

  -- a fact about row c of a slice
  pub told_moved : {A : Type 0} {rows fs : List (Row R)} {c : ℕ} {v : A} (f : Row R → A) → rows ≡ fs → c < length rows → ((e : Row R) → c < length fs → v ≡ f (rows_of e fs c)) → (e : Row R) → v ≡ f (rows_of e rows c)
  told_moved {c = c} f same l h e = h e (omega (arith, ap length same, l)) ∙ ap (λ ys. f (rows_of e ys c)) (sym same)

  -- where the groups of a slice hang
  abbrev hooks_of : List (Group V) → Group V → ℕ → Hook
  hooks_of gs d g = ((get_or gs g d).parent, (get_or gs g d).role)

  -- what is found is one of the groups
  pub kin_inside : (gs : List (Group V)) (h r : ℕ) (o : Option ℕ) → ((d : Group V) → o ≡ child_in (hooks_of gs d) (length gs) h r) → IfSome o (λ g. g < length gs)
  kin_inside gs h r None found = tt
  kin_inside gs h r (Some g) found = (child_some (hooks_of gs blank) (length gs) h r g (sym (found blank))).1

  -- the rows of a slice before row c have been gone through
  abbrev pub Sofar : List (Group V) → List (Row R) → List (Option ℕ) → ℕ → Type 0
  Sofar gs rows rs c = (length rs ≡ 128) × ((d : Group V) (e : Row R) → Reached (rows_of e rows) (length rows) (groups_of d gs) (length gs) (slots rs) c)

  module _ (gs : List (Group V)) (rows : List (Row R)) (formed : Formed k gs) (shaped : Shaped rows) where
    earlier_at : (e : Row R) → Earlier (rows_of e rows) (length rows)
    earlier_at e = (shaped.1 e).parents

    first_group : (y : Group V) → y ≡ get_or gs 0 y → (d : Group V) → y ≡ groups_of d gs 0
    first_group y yi d = get_or_read gs 0 y (formed_some gs formed) yi d

    first_row : (x : Row R) → x ≡ get_or rows 0 x → (e : Row R) → x ≡ rows_of e rows 0
    first_row x xi e = get_or_read rows 0 x shaped.0 xi e

    pub sofar_first : (x : Row R) (y : Group V) → x ≡ get_or rows 0 x → y ≡ get_or gs 0 y → Suits k x y → Sofar gs rows (fresh 128) 1
    sofar_first x y xi yi suits = (
      fresh_size 128,
      λ d e.
          started (rows_of e rows) (length rows) (earlier_at e) shaped.0 (groups_of d gs) (length gs) (formed d) (slots (fresh 128)) (fresh_first 128 (omega arith)) (fresh_other 128)
          (subst (λ z. Suits k (rows_of e rows 0) z) (first_group y yi d) (subst (λ z. Suits k z y) (first_row x xi e) suits)),
    )

    -- Row c, which hangs from row p, and what is reached before it.
    module _ (rs : List (Option ℕ)) (c p : ℕ) (x : Row R) (so : Sofar gs rows rs c) (z : 0 < c) (l : c < length rows) (xi : x ≡ get_or rows c x) (pi : p ≡ x.parent) where
      row_is : (e : Row R) → x ≡ rows_of e rows c
      row_is e = get_or_read rows c x l xi e

      parent_is : (o : Option ℕ) (e : Row R) → get_or rs p None ≡ o → slots rs (rows_of e rows c).parent ≡ o
      parent_is o e up = ap (slots rs) (sym (pi ∙ ap (λ w. w.parent) (row_is e))) ∙ up

      pub sofar_passed : get_or rs p None ≡ None → Sofar gs rows rs (c + 1)
      sofar_passed up = (so.0, λ d e. passed (rows_of e rows) (length rows) (earlier_at e) shaped.0 (groups_of d gs) (length gs) (formed d) (slots rs) c (so.1 d e) z (parent_is None e up))

      module _ (h lo : ℕ) (most o : Option ℕ) (up : get_or rs p None ≡ Some h) (found : (d : Group V) → o ≡ child_in (hooks_of gs d) (length gs) h x.role)
          (low : (e : Row R) → lo ≡ (rows_of e rows c).lower) (high : (e : Row R) → most ≡ (rows_of e rows c).upper) where
        found_at : (d : Group V) (e : Row R) → o ≡ child_in (hooks_of gs d) (length gs) h (rows_of e rows c).role
        found_at d e = found d ∙ ap (λ w. child_in (hooks_of gs d) (length gs) h w.role) (row_is e)

        filled_at : (b : Bool) (d : Group V) (e : Row R) → Decides b (Filled k x lo most (groups_of d gs) o)
            → Decides b (Filled k (rows_of e rows c) (rows_of e rows c).lower (rows_of e rows c).upper (groups_of d gs) o)
        filled_at b d e f = subst (λ w. Decides b (Filled k w (rows_of e rows c).lower (rows_of e rows c).upper (groups_of d gs) o)) (row_is e)
            (subst (λ w. Decides b (Filled k x w (rows_of e rows c).upper (groups_of d gs) o)) (low e) (subst (λ w. Decides b (Filled k x lo w (groups_of d gs) o)) (high e) f))

        pub judged_later : ((d : Group V) → Decides false (Filled k x lo most (groups_of d gs) o)) → Judges k gs rows false
        judged_later f d e w =
            later_fails (rows_of e rows) (length rows) (earlier_at e) shaped.0 (groups_of d gs) (length gs) w (slots rs) c h o (so.1 d e) z l (parent_is (Some h) e up) (found_at d e) (filled_at false d e (f d))

        pub sofar_stepped : ((d : Group V) → Decides true (Filled k x lo most (groups_of d gs) o)) → Sofar gs rows (set rs c o) (c + 1)
        sofar_stepped f = (
          length-set rs c o ∙ so.0,
          λ d e.
              let room : c < length rs = let m = (shaped.1 e).few in omega (arith, so.0) in
              stepped (rows_of e rows) (length rows) (earlier_at e) shaped.0 (groups_of d gs) (length gs) (formed d) (slots rs) (slots (set rs c o)) c h o (so.1 d e) z l
              (get_or-set_same rs c o None room, λ b ne. get_or-set_other rs c b o None ne) (parent_is (Some h) e up) (found_at d e) ((filled_at true d e (f d)).0 refl),
        )

    pub judged_first : (x : Row R) (y : Group V) → x ≡ get_or rows 0 x → y ≡ get_or gs 0 y → Decides false (Suits k x y) → Judges k gs rows false
    judged_first x y xi yi h d e w =
        first_fails (rows_of e rows) (length rows) (earlier_at e) shaped.0 (groups_of d gs) (length gs) w
        (subst (λ v. Decides false (Suits k (rows_of e rows 0) v)) (first_group y yi d) (subst (λ v. Decides false (Suits k v y)) (first_row x xi e) h))

    pub judged_all : (rs : List (Option ℕ)) → Sofar gs rows rs (length rows) → Judges k gs rows true
    judged_all rs so d e w = all_met (rows_of e rows) (length rows) (earlier_at e) shaped.0 (groups_of d gs) (length gs) w (slots rs) (so.1 d e)
