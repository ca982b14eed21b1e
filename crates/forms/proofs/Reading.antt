-- An element satisfies a concept exactly when it has all that the concept writes along the paths from it. Assumes nothing.
use Rattle.std.proofs.Common.{◌≡◌, ℕ, ◌<◌, Bool, true, false, cond, eqb, List, [], ◌∷◌, ◌++◌, Some, None, Option, sym, refl, subst, ⊎_elim, arith}
use Rattle.std.proofs.lemmas.Bool.{and_parts, and_from, or_cases, or_parts, or_from, or_left, or_right, eqb-true, eq-eqb, false≢true}
use Rattle.kinds.specs.Domain.{Domain}
use Rattle.concepts.specs.Concepts.{Concept, thing, nothing, prim, within, and, all, at_least, at_most}
use Rattle.concepts.specs.Interpretations.{Interpretation, Satisfies}
use Rattle.rows.specs.Numbers.{Under}
use Rattle.forms.specs.Labels.{Label, least, silent, join, here, under, label}
use Rattle.forms.specs.Paths.{Along, Has, Counts, Throughout}

under_least : (n : ℕ) (a b : Option ℕ) → Under n a → Under n b → Under n (least a b)
under_least n None b p q = q
under_least n (Some u) None p q = p
under_least n (Some u) (Some v) p q = omega arith

under_left : (n : ℕ) (a b : Option ℕ) → Under n (least a b) → Under n a
under_left n None b p = tt
under_left n (Some u) None p = p
under_left n (Some u) (Some v) p = omega arith

under_right : (n : ℕ) (a b : Option ℕ) → Under n (least a b) → Under n b
under_right n None b p = p
under_right n (Some u) None p = tt
under_right n (Some u) (Some v) p = omega arith

module _ {R V : Type 0} (k : Domain R V) where
  module _ (y : Interpretation k) where
    pub silent_has : (j : ℕ) → Has y silent j
    silent_has j = record { full = refl; atoms = λ m e. absurd (false≢true e); reading = refl }

    pub silent_counts : (j r : ℕ) → Counts y silent j r
    silent_counts j r = record { enough = omega arith; few = tt }

    join_has : (a b : Label V) (j : ℕ) → Has y a j → Has y b j → Has y (join a b) j
    join_has a b j p q = record {
      full = or_from a.empty b.empty p.full q.full;
      atoms = λ m e. ⊎_elim (p.atoms m) (q.atoms m) (or_cases (a.atom m) (b.atom m) e);
      reading = and_from (a.admit (y.reading j)) (b.admit (y.reading j)) p.reading q.reading;
    }

    has_left : (a b : Label V) (j : ℕ) → Has y (join a b) j → Has y a j
    has_left a b j p = record {
      full = (or_parts a.empty b.empty p.full).0;
      atoms = λ m e. p.atoms m (or_left (a.atom m) (b.atom m) e);
      reading = (and_parts (a.admit (y.reading j)) (b.admit (y.reading j)) p.reading).0;
    }

    has_right : (a b : Label V) (j : ℕ) → Has y (join a b) j → Has y b j
    has_right a b j p = record {
      full = (or_parts a.empty b.empty p.full).1;
      atoms = λ m e. p.atoms m (or_right (a.atom m) (b.atom m) e);
      reading = (and_parts (a.admit (y.reading j)) (b.admit (y.reading j)) p.reading).1;
    }

    join_counts : (a b : Label V) (j r : ℕ) → Counts y a j r → Counts y b j r → Counts y (join a b) j r
    join_counts a b j r p q = record { enough = omega (arith, p.enough, q.enough); few = under_least _ a.upper b.upper p.few q.few }

    counts_left : (a b : Label V) (j r : ℕ) → Counts y (join a b) j r → Counts y a j r
    counts_left a b j r p = record { enough = omega (arith, p.enough); few = under_left _ a.upper b.upper p.few }

    counts_right : (a b : Label V) (j r : ℕ) → Counts y (join a b) j r → Counts y b j r
    counts_right a b j r p = record { enough = omega (arith, p.enough); few = under_right _ a.upper b.upper p.few }

    -- a label that is written below a role, or nothing is
    module _ (P : Label V → Type 0) (s r : ℕ) (l : Label V) where
      chosen : (r ≡ s → P l) → P silent → P (cond (eqb r s) l silent)
      chosen yes' no' = go (eqb r s) refl
        where
          go : (t : Bool) → eqb r s ≡ t → P (cond t l silent)
          go true e = yes' (eqb-true r s e)
          go false e = no'

      same_role : r ≡ s → P (cond (eqb r s) l silent) → P l
      same_role e p = go (eqb r s) (eq-eqb r s e) p
        where
          go : (t : Bool) → t ≡ true → P (cond t l silent) → P l
          go true e p = p
          go false e p = absurd (false≢true e)

    -- at the empty path no numbers are written
    numberless : (a : Concept R) (n j r : ℕ) → Counts y (label k a []) j r
    numberless thing n j r = silent_counts j r
    numberless nothing n j r = record { enough = omega arith; few = tt }
    numberless (prim m) n j r = record { enough = omega arith; few = tt }
    numberless (within v) n j r = record { enough = omega arith; few = tt }
    numberless (and a b) n j r = join_counts (label k a []) (label k b []) j r (numberless a n j r) (numberless b n j r)
    numberless (all s a) n j r = silent_counts j r
    numberless (at_least m s) n j r = silent_counts j r
    numberless (at_most m s) n j r = silent_counts j r

    here_there : (l : Label V) (i : ℕ) → Has y l i → (π : List ℕ) (j : ℕ) → Along y i π j → Has y (here l π) j
    here_there l i p [] j e = subst (λ h. Has y l h) e p
    here_there l i p (r ∷ π) j e = silent_has j

    here_numbers : (l : Label V) (i : ℕ) (π : List ℕ) (r j : ℕ) → Counts y (here l (π ++ (r ∷ []))) j r
    here_numbers l i [] r j = silent_counts j r
    here_numbers l i (s ∷ π) r j = silent_counts j r

    plain : (l : Label V) (i : ℕ) → Has y l i → Throughout y (here l) i
    plain l i p = record { there = here_there l i p; numbers = λ π r j e. here_numbers l i π r j }

    -- what holds of each filler of s holds below s
    below : (s i : ℕ) (f : List ℕ → Label V) → ((h : ℕ) → h < y.size → y.filler i s h ≡ true → Throughout y f h) → Counts y (f []) i s
        → Throughout y (under s f) i
    below s i f each own = record { there = there'; numbers = numbers' }
      where
        there' : (π : List ℕ) (j : ℕ) → Along y i π j → Has y (under s f π) j
        there' [] j e = silent_has j
        there' (r ∷ π) j e = chosen (λ l. Has y l j) s r (f π) (λ q. (each e.0 e.1 (subst (λ t. y.filler i t e.0 ≡ true) q e.2)).there π j e.3) (silent_has j)

        numbers' : (π : List ℕ) (r j : ℕ) → Along y i π j → Counts y (under s f (π ++ (r ∷ []))) j r
        numbers' [] r j e = chosen (λ l. Counts y l j r) s r (f []) (λ q. subst (λ h. Counts y (f []) h r) e (subst (λ t. Counts y (f []) i t) (sym q) own)) (silent_counts j r)
        numbers' (t ∷ π) r j e =
            chosen (λ l. Counts y l j r) s t (f (π ++ (r ∷ []))) (λ q. (each e.0 e.1 (subst (λ u. y.filler i u e.0 ≡ true) q e.2)).numbers π r j e.3) (silent_counts j r)

    -- and the other way round
    inside : (s i h : ℕ) (f : List ℕ → Label V) → Throughout y (under s f) i → h < y.size → y.filler i s h ≡ true → Throughout y f h
    inside s i h f p l e = record {
      there = λ π j q. same_role (λ t. Has y t j) s s (f π) refl (p.there (s ∷ π) j (h, l, e, q));
      numbers = λ π r j q. same_role (λ t. Counts y t j r) s s (f (π ++ (r ∷ []))) refl (p.numbers (s ∷ π) r j (h, l, e, q));
    }

    own_counts : (s i : ℕ) (f : List ℕ → Label V) → Throughout y (under s f) i → Counts y (f []) i s
    own_counts s i f p = same_role (λ t. Counts y t i s) s s (f []) refl (p.numbers [] s i refl)

  pub to : (y : Interpretation k) (a : Concept R) (i : ℕ) → Satisfies k y a i → Throughout y (label k a) i
  to y thing i p = record { there = λ π j e. silent_has y j; numbers = λ π r j e. silent_counts y j r }
  to y nothing i p = absurd p
  to y (prim m) i p = plain y _ i (record { full = refl; atoms = λ n e. subst (λ q. y.atom i q ≡ true) (sym (eqb-true n m e)) p; reading = refl })
  to y (within r) i p = plain y _ i (record { full = refl; atoms = λ m e. absurd (false≢true e); reading = p })
  to y (and a b) i p =
      let u = to y a i p.0 in
      let v = to y b i p.1 in
      record {
        there = λ π j e. join_has y (label k a π) (label k b π) j (u.there π j e) (v.there π j e);
        numbers = λ π r j e. join_counts y (label k a (π ++ (r ∷ []))) (label k b (π ++ (r ∷ []))) j r (u.numbers π r j e) (v.numbers π r j e);
      }
  to y (all s a) i p = below y s i (label k a) (λ h l e. to y a h (p h l e)) (numberless y a 0 i s)
  to y (at_least n s) i p =
      below y s i (here _) (λ h l e. plain y _ h (record { full = refl; atoms = λ m e. absurd (false≢true e); reading = refl })) (record { enough = p; few = tt })
  to y (at_most n s) i p =
      below y s i (here _) (λ h l e. plain y _ h (record { full = refl; atoms = λ m e. absurd (false≢true e); reading = refl })) (record { enough = omega arith; few = p })

  pub from : (y : Interpretation k) (a : Concept R) (i : ℕ) → Throughout y (label k a) i → Satisfies k y a i
  from y thing i p = tt
  from y nothing i p = false≢true (sym (p.there [] i refl).full)
  from y (prim m) i p = (p.there [] i refl).atoms m (eq-eqb m m refl)
  from y (within r) i p = (p.there [] i refl).reading
  from y (and a b) i p = (
    from y a i (record {
      there = λ π j e. has_left y (label k a π) (label k b π) j (p.there π j e);
      numbers = λ π r j e. counts_left y (label k a (π ++ (r ∷ []))) (label k b (π ++ (r ∷ []))) j r (p.numbers π r j e);
    }),
    from y b i (record {
      there = λ π j e. has_right y (label k a π) (label k b π) j (p.there π j e);
      numbers = λ π r j e. counts_right y (label k a (π ++ (r ∷ []))) (label k b (π ++ (r ∷ []))) j r (p.numbers π r j e);
    }),
  )
  from y (all s a) i p = λ j l e. from y a j (inside y s i j (label k a) p l e)
  from y (at_least n s) i p = (own_counts y s i _ p).enough
  from y (at_most n s) i p = (own_counts y s i _ p).few
