-- A finished form has a model: for each row a group of as many elements as its lower number asks for. Assumes nothing.
use Rattle.std.proofs.Common.{◌≡◌, ℕ, zero, suc, ◌<◌, ◌≤◌, Bool, true, false, ◌⊎◌, List, [], ◌∷◌, Some, None, Option, sym, refl, ap, ◌∙◌, subst, inl, inr, ⊎_elim, arith}
use Rattle.std.proofs.lemmas.Bool.{both_ways, and_cases, cases_Bool, cases_lt}
use Rattle.kinds.specs.Domain.{Domain, Empty, Member}
use Rattle.concepts.specs.Interpretations.{Interpretation}
use Rattle.rows.specs.Numbers.{Under, Over}
use Rattle.forms.specs.Labels.{Label}
use Rattle.rows.specs.Tables.{then_role, Stands, below, Meets}
use Rattle.forms.specs.Finished.{Dead, by_reading, by_numbers, by_filler, Shut, Content, FinishedBy}
use Rattle.rows.specs.Groups.{total_some, world_of}
use Rattle.forms.specs.Built.{Readings}
use Rattle.rows.specs.declared.row.Row.{Row}
use Rattle.rows.specs.declared.group.Group.{Group}
use Rattle.rows.proofs.Rooted.{path_of, parent_path}
use Rattle.rows.proofs.Groups.{owner_first}
use Rattle.std.proofs.lemmas.Option.{same_Some}
use Rattle.rows.specs.Suiting.{Suits, kin}
use Rattle.rows.proofs.Fitting.{Fitting, fitting_meets}
use Rattle.rows.proofs.Shaping.{single}

-- a lower number is within the upper one or above it
cases_over : (lo : ℕ) (up : Option ℕ) → Under lo up ⊎ Over lo up
cases_over lo None = inl tt
cases_over lo (Some u) = ⊎_elim inr inl (cases_lt u lo)

under_same : (a b : ℕ) (u v : Option ℕ) → a ≡ b → u ≡ v → Under b v → Under a u
under_same a b u v p q h = rw (p, q) h

module _ {R V : Type 0} (k : Domain R V) where
  -- a member of what is not empty is admitted
  pub member_admitted : (r : R) (v : V) → Member k r v → (Empty k r → ⊥) → k.admits r v ≡ true
  member_admitted r v m some = ⊎_elim (λ e. e) (λ e. absurd (some (none e))) (cases_Bool (k.admits r v))
    where
      none : k.admits r v ≡ false → Empty k r
      none e u = ⊎_elim (λ h. absurd (both_ways (k.admits r v) e (m u h))) (λ h. h) (cases_Bool (k.admits r u))

module _ {R V : Type 0} (k : Domain R V) (f : List ℕ → Label V) (w : List ℕ → Bool) (T : ℕ → Row R) (n : ℕ) (fin : FinishedBy k f w T n) where
  -- something can stand where a row hangs from
  parent_lives : (c : ℕ) (π : List ℕ) → 0 < c → c < n → Stands T (T c).parent π → Dead k f π → ⊥
  parent_lives c [] z l s dead = fin.live dead
  parent_lives c (r ∷ π) z l s dead =
      fin.seen c (then_role (r ∷ π) (T c).role) l (below c z s) (record { first = r; front = π; next = (T c).role; rest = []; split = refl; shut = inr dead })

  -- where something can stand, no filler is asked for that is not allowed
  shut_unasked : (π : List ℕ) (r : ℕ) → (Dead k f π → ⊥) → Shut k f (then_role π r) → (f (then_role π r)).lower ≤ 0
  shut_unasked π r lives shut = ⊎_elim (λ h. absurd (lives (dies h shut))) (λ h. h) (cases_lt 0 (f (then_role π r)).lower)
    where
      dies : 0 < (f (then_role π r)).lower → Shut k f (then_role π r) → Dead k f π
      dies h (inl e) = by_numbers r (let P : Option ℕ → Type 0 = λ u. Over (f (then_role π r)).lower u in subst P (sym e) h)
      dies h (inr d) = by_filler r h d

  -- each row's lower number is within its upper one
  pub within_numbers : (c : ℕ) → 0 < c → c < n → Under (T c).lower (T c).upper
  within_numbers c z l =
      let s = parent_path T n fin.parents c z l in
      go s.0 (parent_lives c s.0 z l s.1) (fin.content c (then_role s.0 (T c).role) l (below c z s.1))
    where
      go : (π : List ℕ) → (Dead k f π → ⊥) → Content k f w (T c) (then_role π (T c).role) → Under (T c).lower (T c).upper
      go π lives (inl o) =
          let l = f (then_role π (T c).role) in
          under_same _ _ _ _ o.1.lower o.1.upper (⊎_elim (λ h. h) (λ h. absurd (lives (by_numbers (T c).role h))) (cases_over l.lower l.upper))
      go π lives (inr s) = under_same _ _ _ _ s.1.lower s.1.upper (shut_unasked π (T c).role lives s.0)

  -- each row admits a reading
  pub row_admits : (c : ℕ) → c < n → Empty k (T c).restriction → ⊥
  row_admits c l none = let s = path_of T n fin.parents c l in go s.0 (fin.content c s.0 l s.1)
    where
      go : (π : List ℕ) → Content k f w (T c) π → ⊥
      go π (inl o) = o.0 (inr (by_reading (λ v e.
          ⊎_elim (λ q. absurd (both_ways (k.reads v) q e)) (λ q. q) (and_cases (k.reads v) ((f π).admit v) (sym (o.1.restriction v) ∙ none v)))))
      go π (inr s) = let v = k.inhabited.0 in both_ways (k.reads v) (sym (s.1.restriction v) ∙ none v) k.inhabited.1

  module _ (readings : Readings k T n) where
    -- the reading of a row's group, and any for what is no row
    reading_of : (c : ℕ) → (v : V) × (c < n → k.admits (T c).restriction v ≡ true)
    reading_of c = ⊎_elim
        (λ l. let p = readings c l in (p.0, λ _. p.1))
        (λ u. (k.inhabited.0, λ l. absurd (omega arith)))
        (cases_lt c n)

    -- one element for row 0, and for every other as many as it asks for
    heads : ℕ → ℕ
    heads zero = 1
    heads (suc c) = (T (suc c)).lower

    heads_first : 0 < heads 0
    unfolding heads
    heads_first = omega arith

    heads_lower : (c : ℕ) → 0 < c → heads c ≡ (T c).lower
    unfolding heads
    heads_lower zero l = absurd (omega arith)
    heads_lower (suc c) l = refl

    abbrev G : ℕ → Group V
    G c = record { parent = (T c).parent; role = (T c).role; headcount = heads c; atoms = (T c).atoms; reading = (reading_of c).0 }

    -- row c has group c
    made_fits : Fitting k T n G n Some
    made_fits = record {
      there = λ c g l e. subst (λ x. Suits k (T c) (G x)) (same_Some c g e) (record { atoms = λ x h. h; reading = (reading_of c).1 l });
      kin = λ b h z l e. kin z l (same_Some (T b).parent h e) refl;
      numbers = λ b h z l e. let q = heads_lower b z in (omega arith, under_same _ _ _ _ q refl (within_numbers b z l));
    }

    pub model : (y : Interpretation k) × (0 < y.size) × Meets y T n 0 0
    model =
        let some = total_some G n fin.some heads_first in
        let reads : (c : ℕ) → c < n → k.reads (G c).reading ≡ true = λ c l. k.inside (T c).restriction (G c).reading ((reading_of c).1 l) in
        let lone = single T n fin.parents fin.order in
        (world_of k G n some reads, some, fitting_meets k T n G n some reads lone Some fin.parents made_fits 0 0 fin.some (ap Some (sym (owner_first G n fin.some heads_first))))

  -- it is not so that a row has no reading; nor that some row of the first m has none
  row_reads : (c : ℕ) → c < n → (((v : V) × (k.admits (T c).restriction v ≡ true)) → ⊥) → ⊥
  row_reads c l none = row_admits c l (λ v. ⊎_elim (λ t. absurd (none (v, t))) (λ u. u) (cases_Bool (k.admits (T c).restriction v)))

  all_read : (m : ℕ) → m ≤ n → (((c : ℕ) → c < m → (v : V) × (k.admits (T c).restriction v ≡ true)) → ⊥) → ⊥
  all_read zero l none = none (λ c h. absurd (omega arith))
  all_read (suc m) l none =
      all_read m (omega arith) (λ before.
      row_reads m (omega arith) (λ here. none (λ c h. ⊎_elim (before c) (λ u. let e : m ≡ c = omega arith in subst (λ x. (v : V) × (k.admits (T x).restriction v ≡ true)) e here) (cases_lt c m))))

  -- so it is not so that there is no reading for each row
  pub readings_exist : (Readings k T n → ⊥) → ⊥
  readings_exist none = all_read n (omega arith) none
