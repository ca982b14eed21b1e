-- An element meets a finished form exactly when it satisfies the concept. Assumes nothing.
use Rattle.std.proofs.Common.{◌≡◌, ℕ, zero, suc, ◌+◌, ◌<◌, ◌≤◌, true, List, [], ◌∷◌, ◌++◌, length, Some, None, Option, sym, refl, ap, ◌∙◌, subst, inl, inr, ⊎_elim, arith, length-append}
use Rattle.std.proofs.lemmas.Bool.{both_ways, and_parts, and_from, cases_Bool}
use Rattle.kinds.specs.Domain.{Domain}
use Rattle.masks.specs.Masks.{has}
use Rattle.concepts.specs.Concepts.{Concept}
use Rattle.concepts.specs.Interpretations.{Interpretation, how_many}
use Rattle.concepts.proofs.Meanings.{count_some}
use Rattle.rows.specs.Numbers.{Under}
use Rattle.forms.specs.Labels.{Label, writes, label}
use Rattle.forms.specs.Paths.{Along, Has, Counts, Throughout}
use Rattle.rows.specs.Tables.{then_role, Stands, root, below, Meets, meets}
use Rattle.forms.specs.Finished.{by_nothing, Shut, Hidden, Open, Content, Finished}
use Rattle.rows.specs.declared.row.Row.{Row}
use Rattle.forms.proofs.Along.{along_split, along_then, along_last, along_inside}
use Rattle.forms.proofs.Reading.{silent_has, silent_counts}
use Rattle.forms.proofs.Shutting.{shut_none}
use Rattle.forms.proofs.Unwritten.{unwritten, writes_front, root_upper}
use Rattle.rows.proofs.Standing.{front_of, last_same, stands_by}

under_zero : (n : ℕ) (u : Option ℕ) → n ≤ 0 → Under n u
under_zero n None h = tt
under_zero n (Some u) h = omega arith

module _ {R V : Type 0} (k : Domain R V) (a : Concept R) (T : ℕ → Row R) (n : ℕ) (fin : Finished k a T n) (y : Interpretation k) where
  abbrev L : List ℕ → Label V
  L = label k a

  module _ (i : ℕ) (met : Meets y T n 0 i) where
    fillers_of : (c h b : ℕ) → Meets y T n c h → 0 < b → b < n → (T b).parent ≡ c → (j : ℕ) → j < y.size → y.filler h (T b).role j ≡ true → Meets y T n b j
    fillers_of c h b (meets p q u v) = v b

    numbers_of : (c h b : ℕ) → Meets y T n c h → 0 < b → b < n → (T b).parent ≡ c
        → ((T b).lower ≤ how_many (y.filler h (T b).role) y.size) × Under (how_many (y.filler h (T b).role) y.size) (T b).upper
    numbers_of c h b (meets p q u v) = u b

    descend : (c : ℕ) (π : List ℕ) → Stands T c π → c < n → (j : ℕ) → Along y i π j → Meets y T n c j
    descend c π root l j p = subst (λ x. Meets y T n 0 x) p met
    descend c π (below {π = σ} d some s) l j p =
        let q = along_last y i j (T d).role σ p in
        let up = descend (T d).parent σ s (omega (arith, fin.parents d some l)) q.0 q.1 in
        fillers_of (T d).parent q.0 d up some l refl j q.2 q.3

    counted : (c : ℕ) (σ : List ℕ) → 0 < c → c < n → Stands T (T c).parent σ → (h : ℕ) → Along y i σ h
        → ((T c).lower ≤ how_many (y.filler h (T c).role) y.size) × Under (how_many (y.filler h (T c).role) y.size) (T c).upper
    counted c σ some l s h p = numbers_of (T c).parent h c (descend (T c).parent σ s (omega (arith, fin.parents c some l)) h p) some l refl

    closed_upper : (c : ℕ) (π : List ℕ) → c < n → Stands T c π → Shut k L π → (T c).upper ≡ Some 0
    closed_upper c π l s shut = ⊎_elim (λ o. absurd (o.0 shut)) (λ q. q.1.upper) (fin.content c π l s)

    -- nothing is reached along the path of a row that is shut
    at_row : (c : ℕ) (r : ℕ) (π : List ℕ) → c < n → Stands T c (r ∷ π) → Shut k L (r ∷ π) → (j : ℕ) → Along y i (r ∷ π) j → ⊥
    at_row c r π l s shut j p =
        ⊎_elim
        (λ z. let e = ap length z.1 in omega arith)
        (λ z.
        let q = along_last y i j (T c).role z.0 (subst (λ ρ. Along y i ρ j) z.3 p) in
        let few = (counted c z.0 z.1 l z.2 q.0 q.1).1 in
        let P : Option ℕ → Type 0 = λ u. Under (how_many (y.filler q.0 (T c).role) y.size) u in
        let none = subst P (closed_upper c (r ∷ π) l s shut) few in
        omega (arith, none, count_some (y.filler q.0 (T c).role) y.size j q.2 q.3))
        (stands_by T c (r ∷ π) s)

    -- nor along any path that is written and shut: the first shut one on the way has a row
    bare : (m : ℕ) (r : ℕ) (π : List ℕ) → length π ≤ m → Shut k L (r ∷ π) → writes a (r ∷ π) ≡ true → (j : ℕ) → Along y i (r ∷ π) j → ⊥
    bare zero r π len shut w j p =
        ⊎_elim (λ x. at_row x.0 r π x.1 x.2 shut j p)
        (λ x. let e = ap length x.split in let f = length-append (x.first ∷ x.front) (x.next ∷ x.rest) in omega arith) (fin.all (r ∷ π) w)
    bare (suc m) r π len shut w j p =
        ⊎_elim (λ x. at_row x.0 r π x.1 x.2 shut j p)
        (λ x.
        let e = ap length x.split in
        let f = length-append (x.first ∷ x.front) (x.next ∷ x.rest) in
        let q = along_split y i j (x.first ∷ x.front) (x.next ∷ x.rest) (subst (λ ρ. Along y i ρ j) x.split p) in
        bare m x.first x.front (omega arith) x.shut (writes_front a (x.first ∷ x.front) (x.next ∷ x.rest) (subst (λ ρ. writes a ρ ≡ true) x.split w)) q.0 q.1)
        (fin.all (r ∷ π) w)

    -- nor past one
    past : (π τ : List ℕ) (r : ℕ) (σ : List ℕ) (j : ℕ) → Along y i π j → π ≡ (r ∷ σ) ++ τ → writes a (r ∷ σ) ≡ true → Shut k L (r ∷ σ) → ⊥
    past π τ r σ j p e w shut =
        let q = along_split y i j (r ∷ σ) τ (subst (λ ρ. Along y i ρ j) e p) in
        bare (length σ) r σ (omega arith) shut w q.0 q.1

    -- a front that hides a written path is itself written
    hiding : (π : List ℕ) (x : Hidden k L π) → writes a π ≡ true → writes a (x.first ∷ x.front) ≡ true
    hiding π x w = writes_front a (x.first ∷ x.front) (x.next ∷ x.rest) (subst (λ ρ. writes a ρ ≡ true) x.split w)

    open_has : (c : ℕ) (π : List ℕ) (j : ℕ) → (Shut k L π → ⊥) → Open k (T c) (L π) → Meets y T n c j → Has y (L π) j
    open_has c π j alive o (meets p q u v) = record {
      full = ⊎_elim (λ e. absurd (alive (inr (by_nothing e)))) (λ e. e) (cases_Bool (L π).empty);
      atoms = λ m e. p m (o.atoms m ∙ e);
      reading = (and_parts (k.reads (y.reading j)) ((L π).admit (y.reading j)) (sym (o.restriction (y.reading j)) ∙ q)).1;
    }

    reach_shut : (π : List ℕ) (j : ℕ) → Along y i π j → writes a π ≡ true → Shut k L π → ⊥
    reach_shut [] j p w (inl e) = let none = root_upper k a in let q : ◌≡◌ {A = ℕ} 0 1 = cc in omega arith
    reach_shut [] j p w (inr d) = fin.live d
    reach_shut (r ∷ π) j p w shut = bare (length π) r π (omega arith) shut w j p

    there_from : (π : List ℕ) (j : ℕ) → Along y i π j → Has y (L π) j
    there_from π j p = ⊎_elim
        (λ w. ⊎_elim
        (λ x. ⊎_elim
        (λ o. open_has x.0 π j o.0 o.1 (descend x.0 π x.2 x.1 j p))
        (λ z. absurd (reach_shut π j p w z.0))
        (fin.content x.0 π x.1 x.2))
        (λ x. absurd (past π (x.next ∷ x.rest) x.first x.front j p x.split (hiding π x w) x.shut))
        (fin.all π w))
        (λ w. subst (λ l. Has y l j) (sym (unwritten k a π w)) (silent_has k y j))
        (cases_Bool (writes a π))

    numbers_from : (π : List ℕ) (r j : ℕ) → Along y i π j → Counts y (L (then_role π r)) j r
    numbers_from π r j p = ⊎_elim
        (λ w. ⊎_elim
        (λ x. at x.0 x.1 x.2)
        (λ x.
        let f = front_of π (x.first ∷ x.front) r x.next x.rest x.split in
        absurd (past π f.0 x.first x.front j p f.1 (hiding (then_role π r) x w) x.shut))
        (fin.all (then_role π r) w))
        (λ w. subst (λ l. Counts y l j r) (sym (unwritten k a (then_role π r) w)) (silent_counts k y j r))
        (cases_Bool (writes a (then_role π r)))
      where
        by : (c : ℕ) → ((T c).lower ≤ how_many (y.filler j r) y.size) × Under (how_many (y.filler j r) y.size) (T c).upper → Content k L (writes a) (T c) (then_role π r)
            → Counts y (L (then_role π r)) j r
        by c u (inl o) = record {
          enough = subst (λ x. x ≤ how_many (y.filler j r) y.size) o.1.lower u.0;
          few = let P : Option ℕ → Type 0 = λ x. Under (how_many (y.filler j r) y.size) x in subst P o.1.upper u.1;
        }
        by c u (inr z) = record {
          enough = subst (λ x. x ≤ how_many (y.filler j r) y.size) z.1.lower u.0;
          few = let P : Option ℕ → Type 0 = λ x. Under (how_many (y.filler j r) y.size) x in under_zero _ _ (subst P z.1.upper u.1);
        }

        at : (c : ℕ) → c < n → Stands T c (then_role π r) → Counts y (L (then_role π r)) j r
        at c l s = ⊎_elim
            (λ z. let e = ap length z.1 in let f = length-append π (r ∷ []) in absurd (omega arith))
            (λ z.
            let q = last_same π z.0 r (T c).role z.3 in
            let u = counted c z.0 z.1 l z.2 j (subst (λ ρ. Along y i ρ j) q.0 p) in
            by c (subst (λ t. ((T c).lower ≤ how_many (y.filler j t) y.size) × Under (how_many (y.filler j t) y.size) (T c).upper) (sym q.1) u) (fin.content c (then_role π r) l s))
            (stands_by T c (then_role π r) s)

    pub from_rows : Throughout y L i
    from_rows = record { there = there_from; numbers = numbers_from }

  module _ (i : ℕ) (inside : i < y.size) (t : Throughout y L i) where
    down : (m c : ℕ) (π : List ℕ) → n ≤ c + m → c < n → Stands T c π → (j : ℕ) → Along y i π j → Meets y T n c j
    down zero c π fuel l s j p = absurd (omega arith)
    down (suc m) c π fuel l s j p = meets
        (λ x e. ⊎_elim (λ o. (t.there π j p).atoms x (sym (o.1.atoms x) ∙ e)) (λ z. absurd (both_ways (has (T c).atoms x) (z.1.atoms x) e)) (fin.content c π l s))
        (⊎_elim
        (λ o. o.1.restriction (y.reading j) ∙ and_from (k.reads (y.reading j)) ((L π).admit (y.reading j)) reads (t.there π j p).reading)
        (λ z. z.1.restriction (y.reading j) ∙ reads)
        (fin.content c π l s))
        (λ b some lb par. numbers b some lb (child b some par))
        (λ b some lb par h lh e.
        down m b (then_role π (T b).role) (let q = fin.parents b some lb in omega arith) lb (child b some par) h (along_then y i j h (T b).role π p lh e))
      where
        reads : k.reads (y.reading j) ≡ true
        reads = y.reads j (along_inside y i j π inside p)

        child : (b : ℕ) → 0 < b → (T b).parent ≡ c → Stands T b (then_role π (T b).role)
        child b some par = below b some (subst (λ x. Stands T x π) (sym par) s)

        numbers : (b : ℕ) → 0 < b → b < n → Stands T b (then_role π (T b).role)
            → ((T b).lower ≤ how_many (y.filler j (T b).role) y.size) × Under (how_many (y.filler j (T b).role) y.size) (T b).upper
        numbers b some lb s =
            let u = t.numbers π (T b).role j p in
            let P : Option ℕ → Type 0 = λ x. Under (how_many (y.filler j (T b).role) y.size) x in
            ⊎_elim
            (λ o. (subst (λ x. x ≤ how_many (y.filler j (T b).role) y.size) (sym o.1.lower) u.enough, subst P (sym o.1.upper) u.few))
            (λ z. (subst (λ x. x ≤ how_many (y.filler j (T b).role) y.size) (sym z.1.lower) u.enough, subst P (sym z.1.upper) (shut_none k y L i inside t π (T b).role z.0 j p)))
            (fin.content b (then_role π (T b).role) lb s)

    pub to_rows : Meets y T n 0 i
    to_rows = down n 0 [] (omega arith) fin.some root i refl
