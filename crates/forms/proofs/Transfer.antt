-- A finished form of one form is that of any other that differs only where nothing is allowed. Assumes nothing.
use Rattle.std.proofs.Common.{◌≡◌, ℕ, ◌<◌, Bool, true, false, ◌&&◌, ◌⊎◌, List, [], ◌∷◌, ◌++◌, length, Some, None, Option, sym, refl, ap, ◌∙◌, subst, inl, inr, ⊎_elim, append_assoc, append-nil, arith}
use Rattle.kinds.specs.Domain.{Domain}
use Rattle.rows.specs.Numbers.{Over}
use Rattle.forms.specs.Labels.{Label}
use Rattle.rows.specs.Tables.{then_role, Stands}
use Rattle.forms.specs.Finished.{Dead, by_nothing, by_reading, by_numbers, by_filler, Shut, Hidden, Open, Closed, Content, FinishedBy}
use Rattle.forms.specs.Alike.{Like, Alike, same, edge, hidden}
use Rattle.rows.specs.declared.row.Row.{Row}
use Rattle.rows.proofs.Standing.{front_of}

module _ {R V : Type 0} (k : Domain R V) where
  like_sym : (l m : Label V) → Like k l m → Like k m l
  like_sym l m h = record { empty = sym h.empty; atom = λ x. sym (h.atom x); admit = λ v e. sym (h.admit v e); lower = sym h.lower; upper = sym h.upper }

  pub alike_sym : (f g : List ℕ → Label V) (w v : List ℕ → Bool) (π : List ℕ) → Alike k f g w v π → Alike k g f v w π
  alike_sym f g w v π (same h e) = same (like_sym (f π) (g π) h) (sym e)
  alike_sym f g w v π (edge p q e d) = edge q p (sym e) (sym d)
  alike_sym f g w v π (hidden p q) = hidden q p

  module _ (g : List ℕ → Label V) where
    -- nothing is allowed at some path on the way, the end included
    pub record Covered (π : List ℕ) : Type 0 where
      pub first : ℕ
      pub front : List ℕ
      pub rest : List ℕ
      pub split : π ≡ (first ∷ front) ++ rest
      pub shut : Shut k g (first ∷ front)

    -- what covers the path with one role more covers it, or its end
    covered_last : (π : List ℕ) (r : ℕ) → Covered (then_role π r) → Covered π ⊎ Shut k g (then_role π r)
    covered_last π r x = go x.rest x.split
      where
        go : (ρ : List ℕ) → then_role π r ≡ (x.first ∷ x.front) ++ ρ → Covered π ⊎ Shut k g (then_role π r)
        go [] e = inr (subst (λ σ. Shut k g σ) (sym (e ∙ append-nil (x.first ∷ x.front))) x.shut)
        go (s ∷ ρ) e = let f = front_of π (x.first ∷ x.front) r s ρ e in inl (record { first = x.first; front = x.front; rest = f.0; split = f.1; shut = x.shut })

    hidden_covered : (π : List ℕ) (r : ℕ) → Hidden k g (then_role π r) → Covered π
    hidden_covered π r x =
        let f = front_of π (x.first ∷ x.front) r x.next x.rest x.split in
        record { first = x.first; front = x.front; rest = f.0; split = f.1; shut = x.shut }

    hidden_more : (π : List ℕ) → Hidden k g π → Covered π
    hidden_more π x = record { first = x.first; front = x.front; rest = x.next ∷ x.rest; split = x.split; shut = x.shut }

    -- the end of a path is shut, or something before it
    covered_end : (π : List ℕ) → Covered π → Shut k g π ⊎ Hidden k g π
    covered_end π x = go x.rest x.split
      where
        go : (ρ : List ℕ) → π ≡ (x.first ∷ x.front) ++ ρ → Shut k g π ⊎ Hidden k g π
        go [] e = inl (subst (λ σ. Shut k g σ) (sym (e ∙ append-nil (x.first ∷ x.front))) x.shut)
        go (s ∷ ρ) e = inr (record { first = x.first; front = x.front; next = s; rest = ρ; split = e; shut = x.shut })

    -- a cover of the front of a path, with more to come, hides it
    covered_hides : (π σ : List ℕ) (s : ℕ) (ρ : List ℕ) → π ≡ σ ++ (s ∷ ρ) → Covered σ → Hidden k g π
    covered_hides π σ s ρ e x = go x.rest x.split
      where
        go : (τ : List ℕ) → σ ≡ (x.first ∷ x.front) ++ τ → Hidden k g π
        go [] d = record { first = x.first; front = x.front; next = s; rest = ρ; split = e ∙ ap (λ z. z ++ (s ∷ ρ)) (d ∙ append-nil (x.first ∷ x.front)); shut = x.shut }
        go (t ∷ τ) d = record {
          first = x.first;
          front = x.front;
          next = t;
          rest = τ ++ (s ∷ ρ);
          split = e ∙ ap (λ z. z ++ (s ∷ ρ)) d ∙ append_assoc (x.first ∷ x.front) (t ∷ τ) (s ∷ ρ);
          shut = x.shut;
        }

    covered_self : (r : ℕ) (π : List ℕ) → Shut k g (r ∷ π) → Covered (r ∷ π)
    covered_self r π x = record { first = r; front = π; rest = []; split = sym (append-nil (r ∷ π)); shut = x }

    -- where a filler is asked for and none is allowed, nothing can stand
    starved : (π : List ℕ) (r : ℕ) → 0 < (g (then_role π r)).lower → Shut k g (then_role π r) → Dead k g π
    starved π r some (inl e) = by_numbers r (let P : Option ℕ → Type 0 = λ u. Over (g (then_role π r)).lower u in subst P (sym e) some)
    starved π r some (inr d) = by_filler r some d

  over_some : (lo : ℕ) (up : Option ℕ) → Over lo up → 0 < lo
  over_some lo None p = absurd p
  over_some lo (Some u) p = omega arith

  module _ (f g : List ℕ → Label V) (w v : List ℕ → Bool) (alike : (π : List ℕ) → Alike k f g w v π) where
    -- what is asked for at a path where f and g are not both hidden
    lower_same : (π : List ℕ) → Alike k f g w v π → ((f π).lower ≡ (g π).lower) ⊎ Hidden k g π
    lower_same π (same h e) = inl h.lower
    lower_same π (edge p q e d) = inl e
    lower_same π (hidden p q) = inr q

    nothing_moves : (π : List ℕ) → Alike k f g w v π → (f π).empty ≡ true → Dead k g π ⊎ Covered g π
    nothing_moves π (same h e) t = inl (by_nothing (sym h.empty ∙ t))
    nothing_moves π (edge p q e d) t = inr (covered_self g _ _ q)
    nothing_moves π (hidden p q) t = inr (hidden_more g π q)

    reading_moves : (π : List ℕ) → Alike k f g w v π → ((x : V) → k.reads x ≡ true → (f π).admit x ≡ false) → Dead k g π ⊎ Covered g π
    reading_moves π (same h e) t = inl (by_reading (λ x r. sym (h.admit x r) ∙ t x r))
    reading_moves π (edge p q e d) t = inr (covered_self g _ _ q)
    reading_moves π (hidden p q) t = inr (hidden_more g π q)

    numbers_move : (π : List ℕ) (r : ℕ) (ρ : List ℕ) → ρ ≡ then_role π r → Alike k f g w v ρ → Over (f ρ).lower (f ρ).upper → Dead k g π ⊎ Covered g π
    numbers_move π r ρ s (same h e) t =
        inl (by_numbers r (subst (λ z. Over (g z).lower (g z).upper) s (let P : Option ℕ → Type 0 = λ u. Over (g ρ).lower u in subst P h.upper (subst (λ n. Over n (f ρ).upper) h.lower t))))
    numbers_move π r ρ s (edge p q e d) t =
        let some : 0 < (g ρ).lower = subst (λ n. 0 < n) e (over_some (f ρ).lower (f ρ).upper t) in
        inl (starved g π r (subst (λ z. 0 < (g z).lower) s some) (subst (λ z. Shut k g z) s q))
    numbers_move π r ρ s (hidden p q) t = inr (hidden_covered g π r (subst (λ z. Hidden k g z) s q))

    pub dead_moves : (π : List ℕ) → Dead k f π → Dead k g π ⊎ Covered g π
    dead_moves π (by_nothing e) = nothing_moves π (alike π) e
    dead_moves π (by_reading e) = reading_moves π (alike π) e
    dead_moves π (by_numbers r e) = numbers_move π r (then_role π r) refl (alike (then_role π r)) e
    dead_moves π (by_filler r some d) =
        ⊎_elim
        (λ e.
        let asked : 0 < (g (then_role π r)).lower = subst (λ n. 0 < n) e some in
        ⊎_elim
        (λ x. inl (by_filler r asked x))
        (λ x. ⊎_elim inr (λ y. inl (starved g π r asked y)) (covered_last g π r x))
        (dead_moves (then_role π r) d))
        (λ h. inr (hidden_covered g π r h))
        (lower_same (then_role π r) (alike (then_role π r)))

    upper_moves : (π : List ℕ) → Alike k f g w v π → (f π).upper ≡ Some 0 → (r : ℕ) (σ : List ℕ) → π ≡ r ∷ σ → Covered g π
    upper_moves π (same h e) t r σ s = subst (λ z. Covered g z) (sym s) (covered_self g r σ (subst (λ z. Shut k g z) s (inl (sym h.upper ∙ t))))
    upper_moves π (edge p q e d) t r σ s = covered_self g _ _ q
    upper_moves π (hidden p q) t r σ s = hidden_more g π q

    shut_moves : (r : ℕ) (π : List ℕ) → Shut k f (r ∷ π) → Covered g (r ∷ π)
    shut_moves r π (inl e) = upper_moves (r ∷ π) (alike (r ∷ π)) e r π refl
    shut_moves r π (inr d) = ⊎_elim (λ x. covered_self g r π (inr x)) (λ x. x) (dead_moves (r ∷ π) d)

    hidden_moves : (π : List ℕ) → Hidden k f π → Hidden k g π
    hidden_moves π x = covered_hides g π (x.first ∷ x.front) x.next x.rest x.split (shut_moves x.first x.front x.shut)

    pub root_moves : Dead k f [] → Dead k g []
    root_moves d = ⊎_elim (λ x. x) (λ x. absurd (let e = ap length x.split in omega arith)) (dead_moves [] d)

    written_same : (π : List ℕ) → (Hidden k f π → ⊥) → Alike k f g w v π → w π ≡ v π
    written_same π seen (same h e) = e
    written_same π seen (edge p q e d) = d
    written_same π seen (hidden p q) = absurd (seen p)

    open_moves : (row : Row R) (π : List ℕ) → (Hidden k f π → ⊥) → (Shut k f π → ⊥) → Alike k f g w v π → Open k row (f π) → Open k row (g π)
    open_moves row π seen alive (same h e) o = record {
      lower = o.lower ∙ h.lower;
      upper = o.upper ∙ h.upper;
      atoms = λ m. o.atoms m ∙ h.atom m;
      restriction = λ x. o.restriction x ∙ both x (k.reads x) refl;
    }
      where
        both : (x : V) (t : Bool) → k.reads x ≡ t → (t && (f π).admit x) ≡ (t && (g π).admit x)
        both x true r = h.admit x r
        both x false r = refl
    open_moves row π seen alive (edge p q e d) o = absurd (alive p)
    open_moves row π seen alive (hidden p q) o = absurd (seen p)

    closed_moves : (row : Row R) (π : List ℕ) → (Hidden k f π → ⊥) → Alike k f g w v π → Closed k row (f π) → Closed k row (g π)
    closed_moves row π seen (same h e) o = record { lower = o.lower ∙ h.lower; upper = o.upper; atoms = o.atoms; restriction = o.restriction }
    closed_moves row π seen (edge p q e d) o = record { lower = o.lower ∙ e; upper = o.upper; atoms = o.atoms; restriction = o.restriction }
    closed_moves row π seen (hidden p q) o = absurd (seen p)

  module _ (f g : List ℕ → Label V) (w v : List ℕ → Bool) (alike : (π : List ℕ) → Alike k f g w v π) where
    abbrev back : (π : List ℕ) → Alike k g f v w π
    back π = alike_sym f g w v π (alike π)

    root_upper : (π : List ℕ) → π ≡ [] → Alike k f g w v π → (f π).upper ≡ (g π).upper
    root_upper π e (same h d) = h.upper
    root_upper π e (edge p q d c) = absurd (let z = ap length e in omega arith)
    root_upper π e (hidden p q) = absurd (let z = ap length (sym e ∙ p.split) in omega arith)

    -- a path that is seen is shut in both or in neither
    shut_back : (π : List ℕ) → (Dead k f [] → ⊥) → (Hidden k f π → ⊥) → Shut k g π → Shut k f π
    shut_back [] live seen (inl e) = inl (root_upper [] refl (alike []) ∙ e)
    shut_back [] live seen (inr d) = absurd (live (root_moves g f v w back d))
    shut_back (r ∷ π) live seen s = ⊎_elim (λ x. x) (λ h. absurd (seen h)) (covered_end f (r ∷ π) (shut_moves g f v w back r π s))

    shut_forth : (π : List ℕ) → (Dead k f [] → ⊥) → (Hidden k f π → ⊥) → Shut k f π → Shut k g π
    shut_forth [] live seen (inl e) = inl (sym (root_upper [] refl (alike [])) ∙ e)
    shut_forth [] live seen (inr d) = absurd (live d)
    shut_forth (r ∷ π) live seen s =
        ⊎_elim (λ x. x) (λ h. absurd (seen (hidden_moves g f v w back (r ∷ π) h))) (covered_end g (r ∷ π) (shut_moves f g w v alike r π s))

    content_moves : (row : Row R) (π : List ℕ) → (Dead k f [] → ⊥) → (Hidden k f π → ⊥) → Content k f w row π → Content k g v row π
    content_moves row π live seen (inl o) = inl (λ s. o.0 (shut_back π live seen s), open_moves f g w v alike row π seen o.0 (alike π) o.1)
    content_moves row π live seen (inr z) = inr (shut_forth π live seen z.0, closed_moves f g w v alike row π seen (alike π) z.1)

    -- the finished form of f is that of g
    pub finished_moves : (T : ℕ → Row R) (n : ℕ) → FinishedBy k f w T n → FinishedBy k g v T n
    finished_moves T n fin = record {
      some = fin.some;
      first = fin.first;
      live = λ d. fin.live (root_moves g f v w back d);
      parents = fin.parents;
      order = fin.order;
      written = λ c π l s. sym (written_same f g w v alike π (fin.seen c π l s) (alike π)) ∙ fin.written c π l s;
      seen = λ c π l s h. fin.seen c π l s (hidden_moves g f v w back π h);
      content = λ c π l s. content_moves (T c) π fin.live (fin.seen c π l s) (fin.content c π l s);
      all = λ π e. found π (alike π) e;
    }
      where
        found : (π : List ℕ) → Alike k f g w v π → v π ≡ true → ((c : ℕ) × (c < n) × Stands T c π) ⊎ Hidden k g π
        found π (same h d) e = ⊎_elim inl (λ x. inr (hidden_moves f g w v alike π x)) (fin.all π (d ∙ e))
        found π (edge p q d c) e = ⊎_elim inl (λ x. inr (hidden_moves f g w v alike _ x)) (fin.all _ (c ∙ e))
        found π (hidden p q) e = inr q
