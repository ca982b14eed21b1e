-- The expected facts of satisfaction and subsumption.
use Rattle.std.proofs.Common.{◌≡◌, ℕ, zero, suc, ◌<◌, ◌≤◌, Bool, true, false, eqb, ◌⊎◌, sym, refl, ap, ◌∙◌, inl, inr, arith}
use Rattle.std.proofs.lemmas.Bool.{false≢true, cases_Bool, cases_lt, eq-eqb, eqb-true}
use Rattle.kinds.specs.Domain.{Domain}
use Rattle.concepts.specs.Concepts.{Concept, thing, nothing, prim, within, and, all, at_least, at_most}
use Rattle.concepts.specs.Interpretations.{Interpretation, Satisfies, Subsumed, Included, Exception, how_many}
use Rattle.concepts.specs.Theorems.{ConceptFacts}

-- where none passes, the count is 0
pub count_none : (f : ℕ → Bool) (n : ℕ) → ((j : ℕ) → j < n → f j ≡ true → ⊥) → how_many f n ≤ 0
unfolding how_many
count_none f zero h = omega arith
count_none f (suc n) h =
    elim (cases_Bool (f n)) [
      | inl e ↦ absurd (h n (omega arith) e)
      | inr e ↦ rw e (omega (arith, count_none f n (λ j l. h j (omega arith))))
    ]

-- what passes is counted
pub count_some : (f : ℕ → Bool) (n j : ℕ) → j < n → f j ≡ true → 0 < how_many f n
unfolding how_many
count_some f zero j l e = absurd (omega arith)
count_some f (suc n) j l e =
    elim (cases_lt j n) [
      | inl h ↦ omega (arith, count_some f n j h e)
      | inr h ↦ (let q : n ≡ j = omega arith in let t : f n ≡ true = ap f q ∙ e in rw t (omega arith))
    ]

-- where all pass, the count is the number
pub count_all : (n : ℕ) → how_many (λ j. true) n ≡ n
unfolding how_many
count_all zero = refl
count_all (suc n) = omega (arith, count_all n)

-- what is decided of each number below n is decided of all
each_decided : (P : ℕ → Type 0) → ((j : ℕ) → P j ⊎ (P j → ⊥)) → (n : ℕ) → ((j : ℕ) → j < n → P j) ⊎ (((j : ℕ) → j < n → P j) → ⊥)
each_decided P d zero = inl (λ j l. absurd (omega arith))
each_decided P d (suc n) = go n (each_decided P d n) (d n)
  where
    go : (n : ℕ) → ((j : ℕ) → j < n → P j) ⊎ (((j : ℕ) → j < n → P j) → ⊥) → P n ⊎ (P n → ⊥)
        → ((j : ℕ) → j < suc n → P j) ⊎ (((j : ℕ) → j < suc n → P j) → ⊥)
    go n (inr no_low) e = inr (λ h. no_low (λ j l. h j (omega arith)))
    go n (inl low) (inr no_n) = inr (λ h. no_n (h n (omega arith)))
    go n (inl low) (inl at_n) = inl (λ j l. elim (cases_lt j n) [
      | inl h ↦ low j h
      | inr h ↦ (let q : n ≡ j = omega arith in rw q at at_n)
    ])

both_decided : {P Q : Type 0} → P ⊎ (P → ⊥) → Q ⊎ (Q → ⊥) → (P × Q) ⊎ (P × Q → ⊥)
both_decided (inl p) (inl q) = inl (p, q)
both_decided (inl p) (inr v) = inr (λ h. v h.1)
both_decided (inr u) e = inr (λ h. u h.0)

-- an arrow from a test
test_decided : {Q : Type 0} (b : Bool) → Q ⊎ (Q → ⊥) → (b ≡ true → Q) ⊎ ((b ≡ true → Q) → ⊥)
test_decided b (inl q) = inl (λ e. q)
test_decided true (inr v) = inr (λ h. v (h refl))
test_decided false (inr v) = inl (λ e. absurd (false≢true e))

true_decided : (b : Bool) → (b ≡ true) ⊎ (b ≡ true → ⊥)
true_decided true = inl refl
true_decided false = inr false≢true

le_decided : (m n : ℕ) → (m ≤ n) ⊎ (m ≤ n → ⊥)
le_decided m n = elim (cases_lt n m) [ inl h ↦ inr (λ l. omega arith) | inr h ↦ inl h ]

module _ {R V : Type 0} (k : Domain R V) where
  pub decided : (y : Interpretation k) (a : Concept R) (i : ℕ) → Satisfies k y a i ⊎ (Satisfies k y a i → ⊥)
  decided y thing i = inl tt
  decided y nothing i = inr (λ e. e)
  decided y (prim m) i = true_decided (y.atom i m)
  decided y (within r) i = true_decided (k.admits r (y.reading i))
  decided y (and a b) i = both_decided (decided y a i) (decided y b i)
  decided y (all r a) i = each_decided (λ j. y.filler i r j ≡ true → Satisfies k y a j) (λ j. test_decided (y.filler i r j) (decided y a j)) y.size
  decided y (at_least n r) i = le_decided n (how_many (y.filler i r) y.size)
  decided y (at_most n r) i = le_decided (how_many (y.filler i r) y.size) n

  pub subsume : (a b : Concept R) → Included k a b → Subsumed k a b
  subsume a b h x = x.second (h x.world x.element x.inside x.first)

  pub include : (a b : Concept R) → Subsumed k a b → Included k a b
  include a b s y i l p = elim (decided y b i) [
    | inl q ↦ q
    | inr v ↦ absurd (s record { world = y; element = i; inside = l; first = p; second = v })
  ]

  -- n elements with the same atoms and reading, each a filler of every role of each
  alike : (n : ℕ) → 0 < n → (ℕ → Bool) → (v : V) → k.reads v ≡ true → Interpretation k
  alike n some atoms v reads = record {
    size = n;
    some = some;
    atom = λ i m. atoms m;
    reading = λ i. v;
    reads = λ i l. reads;
    filler = λ i r j. true;
  }

  -- one reading that a admits and b does not tells their concepts apart
  apart : (a b : R) (v : V) → k.admits a v ≡ true → k.admits b v ≡ false → Exception k (within a) (within b)
  unfolding alike
  apart a b v h no_b = record {
    world = alike 1 (omega arith) (λ m. false) v (k.inside a v h);
    element = 0;
    inside = omega arith;
    first = h;
    second = λ e. false≢true (sym no_b ∙ e);
  }

  atom_alone : (m n : ℕ) → (m ≡ n → ⊥) → Exception k (prim m) (prim n)
  unfolding alike
  atom_alone m n ne = record {
    world = alike 1 (omega arith) (eqb m) k.inhabited.0 k.inhabited.1;
    element = 0;
    inside = omega arith;
    first = eq-eqb m m refl;
    second = λ e. ne (eqb-true m n e);
  }

  too_many : (n r : ℕ) → Exception k thing (at_most n r)
  unfolding alike
  too_many n r = record {
    world = alike (suc n) (omega arith) (λ m. false) k.inhabited.0 k.inhabited.1;
    element = 0;
    inside = omega arith;
    first = tt;
    second = λ e. omega (arith, e, count_all (suc n));
  }

  pub concept_facts : ConceptFacts k
  concept_facts = record {
    decidable = decided;
    included = include;
    subsumed = subsume;
    thing_satisfiable =
        let x = too_many 0 0 in record { world = x.world; element = x.element; inside = x.inside; satisfied = tt };
    atoms_apart = atom_alone;
    unbounded = too_many;
    within_subsumed = λ a b h. subsume _ _ (λ y i l p. h (y.reading i) p);
    subsumed_within = λ a b s v h. elim (cases_Bool (k.admits b v)) [ inl e ↦ e | inr no_b ↦ absurd (s (apart a b v h no_b)) ];
    reflexive = λ a. subsume _ _ (λ y i l p. p);
    transitive = λ a b c s t. subsume _ _ (λ y i l p. include b c t y i l (include a b s y i l p));
    least = λ a. subsume _ _ (λ y i l p. absurd p);
    greatest = λ a. subsume _ _ (λ y i l p. tt);
    lower_left = λ a b. subsume _ _ (λ y i l p. p.0);
    lower_right = λ a b. subsume _ _ (λ y i l p. p.1);
    greatest_lower = λ a b c s t. subsume _ _ (λ y i l p. (include c a s y i l p, include c b t y i l p));
    empty = λ a u x. u record { world = x.world; element = x.element; inside = x.inside; satisfied = x.first };
    only_empty = λ a s m. s record { world = m.world; element = m.element; inside = m.inside; first = m.satisfied; second = λ e. e };
    all_monotone = λ r a b s. subsume _ _ (λ y i l p j h f. include a b s y j h (p j h f));
    all_and = λ r a b. (
      subsume _ _ (λ y i l p. (λ j h f. (p j h f).0, λ j h f. (p j h f).1)),
      subsume _ _ (λ y i l p j h f. (p.0 j h f, p.1 j h f)),
    );
    all_thing = λ r. (
      subsume _ _ (λ y i l p. tt),
      subsume _ _ (λ y i l p j h f. tt),
    );
    all_nothing = λ r. (
      subsume _ _ (λ y i l p. count_none (y.filler i r) y.size p),
      subsume _ _ (λ y i l p j h f. omega (arith, p, count_some (y.filler i r) y.size j h f)),
    );
    none_all = λ r a. subsume _ _ (λ y i l p j h f. absurd (omega (arith, p, count_some (y.filler i r) y.size j h f)));
    at_least_zero = λ r. (
      subsume _ _ (λ y i l p. tt),
      subsume _ _ (λ y i l p. omega arith),
    );
    at_least_monotone = λ m n r le. subsume _ _ (λ y i l p. omega (arith, le, p));
    at_most_monotone = λ m n r le. subsume _ _ (λ y i l p. omega (arith, le, p));
    counts_clash = λ m n r lt x. omega (arith, lt, x.satisfied.0, x.satisfied.1);
  }
