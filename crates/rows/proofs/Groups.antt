-- Each group has as many elements as its headcount says, and they are all the fillers of their role. Assumes nothing.
use Rattle.std.proofs.Common.{◌≡◌, ℕ, zero, suc, ◌+◌, ◌<◌, ◌≤◌, Bool, true, false, eqb, ltb, ◌⊎◌, sym, refl, ap, ◌∙◌, subst, inl, inr, ⊎_elim, add-zero, add-suc, arith}
use Rattle.std.proofs.lemmas.Bool.{both_ways, and_parts, and_from, lt-ltb, le-ltb, ltb-true, eq-eqb, ne_eqb, cases_Bool, cases_eq, cases_lt}
use Rattle.kinds.specs.Domain.{Domain}
use Rattle.concepts.specs.Interpretations.{Interpretation, how_many, one_if}
use Rattle.rows.specs.Groups.{total, owner, hangs, owner_below, world_of}
use Rattle.rows.specs.Hanging.{Hook}
use Rattle.rows.specs.declared.group.Group.{Group}
use Rattle.rows.proofs.Hanging.{hangs_true, true_hangs}

-- tests that agree below n pass as many
pub count_same : (f g : ℕ → Bool) (n : ℕ) → ((j : ℕ) → j < n → f j ≡ g j) → how_many f n ≡ how_many g n
unfolding how_many
count_same f g zero h = refl
count_same f g (suc n) h = rw (h n (omega arith)) (ap (λ z. z + one_if (g n)) (count_same f g n (λ j l. h j (omega arith))))

pub count_zero : (f : ℕ → Bool) (n : ℕ) → ((j : ℕ) → j < n → f j ≡ false) → how_many f n ≡ 0
unfolding how_many
count_zero f zero h = refl
count_zero f (suc n) h = rw (h n (omega arith)) (omega (arith, count_zero f n (λ j l. h j (omega arith))))

pub count_every : (f : ℕ → Bool) (n : ℕ) → ((j : ℕ) → j < n → f j ≡ true) → how_many f n ≡ n
unfolding how_many
count_every f zero h = refl
count_every f (suc n) h = rw (h n (omega arith)) (omega (arith, count_every f n (λ j l. h j (omega arith))))

pub count_add : (f : ℕ → Bool) (a b : ℕ) → how_many f (a + b) ≡ how_many f a + how_many (λ j. f (a + j)) b
unfolding how_many
count_add f a zero = rw (add-zero a) (omega arith)
count_add f a (suc b) = rw add-suc (omega (arith, count_add f a b))

module _ {V : Type 0} (G : ℕ → Group V) where
  owner_old : (n j : ℕ) → j < total G n → owner G (suc n) j ≡ owner G n j
  owner_old n j h = rw (lt-ltb j (total G n) h)

  owner_new : (n j : ℕ) → total G n ≤ j → owner G (suc n) j ≡ n
  owner_new n j h = rw (le-ltb j (total G n) h)

  -- a group has as many elements as its headcount says
  pub members : (n c : ℕ) → c < n → how_many (λ j. eqb (owner G n j) c) (total G n) ≡ (G c).headcount
  members zero c h = absurd (omega arith)
  members (suc n) c h = count_add (λ j. eqb (owner G (suc n) j) c) (total G n) (G n).headcount ∙ go (cases_eq c n) (members n c)
    where
      go : (c ≡ n) ⊎ (c ≡ n → ⊥) → (c < n → how_many (λ j. eqb (owner G n j) c) (total G n) ≡ (G c).headcount)
          → how_many (λ j. eqb (owner G (suc n) j) c) (total G n) + how_many (λ j. eqb (owner G (suc n) (total G n + j)) c) (G n).headcount ≡ (G c).headcount
      go (inl e) ih =
          let a : how_many (λ j. eqb (owner G (suc n) j) c) (total G n) ≡ 0 =
          count_zero _ _ (λ j l. ne_eqb (owner G (suc n) j) c (λ q. omega (arith, owner_old n j l, owner_below G n j l))) in
          let b : how_many (λ j. eqb (owner G (suc n) (total G n + j)) c) (G n).headcount ≡ (G n).headcount =
          count_every _ _ (λ j l. eq-eqb (owner G (suc n) (total G n + j)) c (omega (arith, owner_new n (total G n + j) (omega arith)))) in
          let d : (G n).headcount ≡ (G c).headcount = ap (λ z. (G z).headcount) (sym e) in
          omega arith
      go (inr u) ih =
          let a : how_many (λ j. eqb (owner G (suc n) j) c) (total G n) ≡ how_many (λ j. eqb (owner G n j) c) (total G n) =
          count_same _ _ _ (λ j l. ap (λ z. eqb z c) (owner_old n j l)) in
          let b : how_many (λ j. eqb (owner G (suc n) (total G n + j)) c) (G n).headcount ≡ 0 =
          count_zero _ _ (λ j l. ne_eqb (owner G (suc n) (total G n + j)) c (λ q. u (omega (arith, owner_new n (total G n + j) (omega arith))))) in
          let d : how_many (λ j. eqb (owner G n j) c) (total G n) ≡ (G c).headcount = ih (omega arith) in
          omega arith

  -- each copy below the headcount of a group is an element of it
  pub copy : (n c i : ℕ) → c < n → i < (G c).headcount → (total G c + i < total G n) × (owner G n (total G c + i) ≡ c)
  copy zero c i l h = absurd (omega arith)
  copy (suc n) c i l h = ⊎_elim
      (λ u. let q = copy n c i u h in (omega (arith, q.0), owner_old n (total G c + i) q.0 ∙ q.1))
      (λ u.
      let e : c ≡ n = omega arith in
      let t = ap (total G) e in
      let d = ap (λ z. (G z).headcount) e in
      (omega arith, owner_new n (total G c + i) (omega arith) ∙ sym e))
      (cases_lt c n)

  -- element 0 belongs to group 0, if that has any
  pub owner_first : (n : ℕ) → 0 < n → 0 < (G 0).headcount → owner G n 0 ≡ 0
  owner_first n l h = (copy n 0 0 l h).1

  abbrev hook : ℕ → Hook
  hook g = ((G g).parent, (G g).role)

  -- what it is for a group to hang from another
  pub hangs_parts : (p r g : ℕ) → hangs G p r g ≡ true → (0 < g) × ((G g).parent ≡ p) × ((G g).role ≡ r)
  hangs_parts p r g e =
      let q = and_parts (ltb 0 g) _ e in
      let s = hangs_true hook p r g q.1 in
      (ltb-true 0 g q.0, s.parent, s.role)

  pub hangs_from : (p r g : ℕ) → 0 < g → (G g).parent ≡ p → (G g).role ≡ r → hangs G p r g ≡ true
  hangs_from p r g z a b = and_from (ltb 0 g) _ (lt-ltb 0 g z) (true_hangs hook p r g (record { parent = a; role = b }))

  -- no other group below n hangs where g does
  abbrev pub Alone : ℕ → ℕ → ℕ → ℕ → Type 0
  Alone n p r g = (h : ℕ) → 0 < h → h < n → (G h).parent ≡ p → (G h).role ≡ r → h ≡ g

module _ {R V : Type 0} (k : Domain R V) (G : ℕ → Group V) (n : ℕ) (some : 0 < total G n) (reads : (c : ℕ) → c < n → k.reads (G c).reading ≡ true) where
  abbrev y : Interpretation k
  y = world_of k G n some reads

  -- a group's elements are all the fillers of its role
  pub fillers : (i r g : ℕ) → 0 < g → g < n → (G g).parent ≡ owner G n i → (G g).role ≡ r → Alone G n (owner G n i) r g
      → how_many (y.filler i r) y.size ≡ (G g).headcount
  fillers i r g z l a b lone = count_same _ _ _ (λ j u. agree (owner G n j) (owner_below G n j u)) ∙ members G n g l
    where
      agree : (h : ℕ) → h < n → hangs G (owner G n i) r h ≡ eqb h g
      agree h u = ⊎_elim
          (λ e. let q = hangs_parts G (owner G n i) r h e in e ∙ sym (eq-eqb h g (lone h q.0 u q.1 q.2)))
          (λ e. e ∙ sym (ne_eqb h g (λ q. both_ways (hangs G (owner G n i) r h) e (subst (λ x. hangs G (owner G n i) r x ≡ true) (sym q) (hangs_from G (owner G n i) r g z a b)))))
          (cases_Bool (hangs G (owner G n i) r h))

  -- where no group hangs there are no fillers
  pub fillers_none : (i r : ℕ) → ((h : ℕ) → 0 < h → h < n → (G h).parent ≡ owner G n i → (G h).role ≡ r → ⊥) → how_many (y.filler i r) y.size ≡ 0
  fillers_none i r none = count_zero _ _ (λ j u. bare (owner G n j) (owner_below G n j u))
    where
      bare : (h : ℕ) → h < n → hangs G (owner G n i) r h ≡ false
      bare h u = ⊎_elim
          (λ e. let q = hangs_parts G (owner G n i) r h e in absurd (none h q.0 u q.1 q.2))
          (λ e. e)
          (cases_Bool (hangs G (owner G n i) r h))
