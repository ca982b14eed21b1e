-- Rows held against a table of groups: each row that is reached has its group, and the table meets the rows exactly where every group suits its row. Assumes nothing.
use Rattle.std.proofs.Common.{◌≡◌, ℕ, zero, suc, ◌+◌, ◌<◌, ◌≤◌, true, Some, Option, sym, refl, ap, ◌∙◌, subst, arith}
use Rattle.kinds.specs.Domain.{Domain}
use Rattle.concepts.specs.Interpretations.{Interpretation, how_many}
use Rattle.rows.specs.Numbers.{Allows}
use Rattle.rows.specs.Tables.{Meets, meets}
use Rattle.rows.specs.Groups.{total, owner, owner_below, world_of}
use Rattle.rows.specs.Suiting.{Kin, kin, no_kin, heads, Suits}
use Rattle.rows.specs.declared.row.Row.{Row}
use Rattle.rows.specs.declared.group.Group.{Group}
use Rattle.rows.proofs.Groups.{copy, hangs_parts, hangs_from, Alone, fillers, fillers_none}
use Rattle.rows.proofs.Rooted.{Earlier}

-- no two groups hang from one group by one role
abbrev pub Lone : {V : Type 0} → (ℕ → Group V) → ℕ → Type 0
Lone G n = (g h : ℕ) → 0 < g → g < n → 0 < h → h < n → (G g).parent ≡ (G h).parent → (G g).role ≡ (G h).role → g ≡ h

module _ {R V : Type 0} (k : Domain R V) where
  module _ (T : ℕ → Row R) (m : ℕ) (G : ℕ → Group V) (n : ℕ) where
    -- each row that is reached has its group, and fits it
    pub record Fitting (made : ℕ → Option ℕ) : Type 0 where
      pub there : (c g : ℕ) → c < m → made c ≡ Some g → Suits k (T c) (G g)
      pub kin : (b h : ℕ) → 0 < b → b < m → made (T b).parent ≡ Some h → Kin G n h (T b).role (made b)
      pub numbers : (b h : ℕ) → 0 < b → b < m → made (T b).parent ≡ Some h → Allows (T b).lower (T b).upper (heads G n (made b))

    -- the path of row c leads from group 0 to group g
    pub data Trail : ℕ → ℕ → Type 0 where
      origin : Trail 0 0
      onward : {c h : ℕ} (g : ℕ) → 0 < c → c < m → Trail (T c).parent h → Kin G n h (T c).role (Some g) → Trail c g

    -- a row that some group does not fit
    pub data Fault : Type 0 where
      unsuited : (c g : ℕ) → c < m → Trail c g → (Suits k (T c) (G g) → ⊥) → Fault
      miscounted : (c h : ℕ) (o : Option ℕ) → 0 < c → c < m → Trail (T c).parent h → Kin G n h (T c).role o → (Allows (T c).lower (T c).upper (heads G n o) → ⊥) → Fault

    module _ (some : 0 < total G n) (reads : (c : ℕ) → c < n → k.reads (G c).reading ≡ true) (lone : Lone G n) where
      abbrev y : Interpretation k
      y = world_of k G n some reads

      -- as many fillers as the group has elements
      kin_count : (i r : ℕ) (o : Option ℕ) → Kin G n (owner G n i) r o → how_many (y.filler i r) y.size ≡ heads G n o
      kin_count i r o (kin {g = g} z l p q) =
          let only : Alone G n (owner G n i) r g = λ h x u a b. lone h g x u z l (a ∙ sym p) (b ∙ sym q) in
          fillers k G n some reads i r g z l p q only
      kin_count i r o (no_kin none) = fillers_none k G n some reads i r none

      -- a filler is an element of that group
      kin_owner : (i r j : ℕ) (o : Option ℕ) → Kin G n (owner G n i) r o → j < y.size → y.filler i r j ≡ true → o ≡ Some (owner G n j)
      kin_owner i r j o (kin {g = g} z l p q) lj h =
          let s = hangs_parts G (owner G n i) r (owner G n j) h in
          ap Some (lone g (owner G n j) z l s.0 (owner_below G n j lj) (p ∙ sym s.1) (q ∙ sym s.2))
      kin_owner i r j o (no_kin none) lj h =
          let s = hangs_parts G (owner G n i) r (owner G n j) h in
          absurd (none (owner G n j) s.0 (owner_below G n j lj) s.1 s.2)

      allows_same : (row : Row R) (a b : ℕ) → a ≡ b → Allows row.lower row.upper b → Allows row.lower row.upper a
      allows_same row a b e h = subst (λ x. Allows row.lower row.upper x) (sym e) h

      module _ (made : ℕ → Option ℕ) (earlier : Earlier T m) (fit : Fitting made) where
        meets_by : (fuel c i : ℕ) → m ≤ c + fuel → c < m → made c ≡ Some (owner G n i) → Meets y T m c i
        meets_by zero c i f l e = absurd (omega arith)
        meets_by (suc fuel) c i f l e =
            let suits = fit.there c (owner G n i) l e in
            let at : (b : ℕ) → (T b).parent ≡ c → made (T b).parent ≡ Some (owner G n i) = λ b p. ap made p ∙ e in
            meets
            suits.atoms
            suits.reading
            (λ b z lb p. allows_same (T b) _ _ (kin_count i (T b).role (made b) (fit.kin b (owner G n i) z lb (at b p))) (fit.numbers b (owner G n i) z lb (at b p)))
            (λ b z lb p j lj h. meets_by fuel b j (omega (arith, earlier b z lb)) lb (kin_owner i (T b).role j (made b) (fit.kin b (owner G n i) z lb (at b p)) lj h))

        -- the elements of a row's group meet the row
        pub fitting_meets : (c i : ℕ) → c < m → made c ≡ Some (owner G n i) → Meets y T m c i
        fitting_meets c i l e = meets_by m c i (omega arith) l e

      module _ (peopled : (g : ℕ) → g < n → 0 < (G g).headcount) (earlier : Earlier T m) (top : 0 < n) (met : Meets y T m 0 0) where
        suits_of : (c i : ℕ) → Meets y T m c i → Suits k (T c) (G (owner G n i))
        suits_of c i (meets a r u v) = record { atoms = a; reading = r }

        numbers_of : (c i b : ℕ) → Meets y T m c i → 0 < b → b < m → (T b).parent ≡ c → Allows (T b).lower (T b).upper (how_many (y.filler i (T b).role) y.size)
        numbers_of c i b (meets a r u v) z l p = u b z l p

        fillers_of : (c i b j : ℕ) → Meets y T m c i → 0 < b → b < m → (T b).parent ≡ c → j < y.size → y.filler i (T b).role j ≡ true → Meets y T m b j
        fillers_of c i b j (meets a r u v) z l p = v b z l p j

        -- the first element of a group
        first_of : (g : ℕ) → g < n → (i : ℕ) × (i < y.size) × (owner G n i ≡ g)
        first_of g l = let c = copy G n g 0 l (peopled g l) in (total G g + 0, c.0, c.1)

        along : (c g : ℕ) → Trail c g → (i : ℕ) × (i < y.size) × (owner G n i ≡ g) × Meets y T m c i
        along c g origin = (0, some, (copy G n 0 0 top (peopled 0 top)).1, met)
        along c g (onward {h = h} g' z l t near) = go near (along (T c).parent h t)
          where
            go : Kin G n h (T c).role (Some g) → (i : ℕ) × (i < y.size) × (owner G n i ≡ h) × Meets y T m (T c).parent i
                → (i : ℕ) × (i < y.size) × (owner G n i ≡ g) × Meets y T m c i
            go (kin zg lg p q) up =
                let e = first_of g lg in
                let step : y.filler up.0 (T c).role e.0 ≡ true = hangs_from G (owner G n up.0) (T c).role (owner G n e.0) (subst (λ x. 0 < x) (sym e.2) zg) (ap (λ x. (G x).parent) e.2 ∙ p ∙ sym up.2) (ap (λ x. (G x).role) e.2 ∙ q) in
                (e.0, e.1, e.2, fillers_of (T c).parent up.0 c e.0 up.3 z l refl e.1 step)

        pub fault_fails : Fault → ⊥
        fault_fails (unsuited c g l t bad) = let x = along c g t in bad (subst (λ h. Suits k (T c) (G h)) x.2 (suits_of c x.0 x.3))
        fault_fails (miscounted c h o z l t near bad) =
            let x = along (T c).parent h t in
            let near' : Kin G n (owner G n x.0) (T c).role o = subst (λ p. Kin G n p (T c).role o) (sym x.2) near in
            bad (allows_same (T c) _ _ (sym (kin_count x.0 (T c).role o near')) (numbers_of (T c).parent x.0 c x.3 z l refl))
