-- Forms that differ only where nothing is allowed still do so when others are joined to them, and below a role. Assumes nothing.
use Rattle.std.proofs.Common.{◌≡◌, ℕ, ◌<◌, ◌≤◌, min, Bool, true, false, cond, ◌&&◌, eqb, List, [], ◌∷◌, Some, None, Option, sym, refl, ap, ◌∙◌, subst, inl, inr, ⊎_elim, arith}
use Rattle.std.proofs.lemmas.Bool.{cases_Bool, eqb-true, eq-eqb, or_left, or_right, and_left, and_right}
use Rattle.kinds.specs.Domain.{Domain}
use Rattle.rows.specs.Numbers.{Over}
use Rattle.forms.specs.Labels.{Label, least, silent, join, under}
use Rattle.rows.specs.Tables.{then_role}
use Rattle.forms.specs.Finished.{Dead, by_nothing, by_reading, by_numbers, by_filler, Shut, Hidden}
use Rattle.forms.specs.Alike.{Like, Alike, same, edge, hidden}
use Rattle.forms.specs.Sheets.{Form, both_forms, below_role, under_form}

-- a lower number above the upper one stays so where the one grows or the other falls
pub over_more : (m n : ℕ) (u : Option ℕ) → m ≤ n → Over m u → Over n u
over_more m n None l p = p
over_more m n (Some u) l p = omega arith

over_left : (n : ℕ) (u v : Option ℕ) → Over n u → Over n (least u v)
over_left n None v p = absurd p
over_left n (Some u) None p = p
over_left n (Some u) (Some v) p = omega arith

over_right : (n : ℕ) (u v : Option ℕ) → Over n v → Over n (least u v)
over_right n None v p = p
over_right n (Some u) None p = absurd p
over_right n (Some u) (Some v) p = omega arith

none_left : (v : Option ℕ) → least (Some 0) v ≡ Some 0
none_left None = refl
none_left (Some v) = let q : min 0 v ≡ 0 = omega arith in ap Some q

none_right : (u : Option ℕ) → least u (Some 0) ≡ Some 0
none_right None = refl
none_right (Some u) = let q : min u 0 ≡ 0 = omega arith in ap Some q

module _ {V : Type 0} where
  -- m says whatever l says
  pub record More (l m : Label V) : Type 0 where
    pub empty : l.empty ≡ true → m.empty ≡ true
    pub admit : (v : V) → l.admit v ≡ false → m.admit v ≡ false
    pub lower : l.lower ≤ m.lower
    pub upper : (n : ℕ) → Over n l.upper → Over n m.upper
    pub none : l.upper ≡ Some 0 → m.upper ≡ Some 0

  pub more_left : (l m : Label V) → More l (join l m)
  more_left l m = record {
    empty = λ e. or_left l.empty m.empty e;
    admit = λ v e. and_left (l.admit v) (m.admit v) e;
    lower = omega arith;
    upper = λ n p. over_left n l.upper m.upper p;
    none = λ e. ap (λ u. least u m.upper) e ∙ none_left m.upper;
  }

  pub more_right : (l m : Label V) → More m (join l m)
  more_right l m = record {
    empty = λ e. or_right l.empty m.empty e;
    admit = λ v e. and_right (l.admit v) (m.admit v) e;
    lower = omega arith;
    upper = λ n p. over_right n l.upper m.upper p;
    none = λ e. ap (λ u. least l.upper u) e ∙ none_right l.upper;
  }

module _ {R V : Type 0} (k : Domain R V) where
  -- forms that are alike at every path
  abbrev pub AlikeForms : Form V → Form V → Type 0
  AlikeForms F G = (π : List ℕ) → Alike k F.at G.at F.on G.on π

  -- Where more is said, no more is allowed.
  module _ (f g : List ℕ → Label V) (more : (π : List ℕ) → More (f π) (g π)) where
    pub dead_more : (π : List ℕ) → Dead k f π → Dead k g π
    dead_more π (by_nothing e) = by_nothing ((more π).empty e)
    dead_more π (by_reading e) = by_reading (λ v r. (more π).admit v (e v r))
    dead_more π (by_numbers r e) = let ρ = then_role π r in by_numbers r (over_more (f ρ).lower (g ρ).lower (g ρ).upper (more ρ).lower ((more ρ).upper (f ρ).lower e))
    dead_more π (by_filler r e d) = by_filler r (omega (arith, (more (then_role π r)).lower)) (dead_more (then_role π r) d)

    pub shut_more : (π : List ℕ) → Shut k f π → Shut k g π
    shut_more π (inl e) = inl ((more π).none e)
    shut_more π (inr d) = inr (dead_more π d)

    pub hidden_more : (π : List ℕ) → Hidden k f π → Hidden k g π
    hidden_more π x = record { first = x.first; front = x.front; next = x.next; rest = x.rest; split = x.split; shut = shut_more (x.first ∷ x.front) x.shut }

  -- What two write together.
  module _ (f g : List ℕ → Label V) where
    abbrev joined : List ℕ → Label V
    joined π = join (f π) (g π)

    pub dead_left : (π : List ℕ) → Dead k f π → Dead k joined π
    dead_left = dead_more f joined (λ π. more_left (f π) (g π))

    pub dead_right : (π : List ℕ) → Dead k g π → Dead k joined π
    dead_right = dead_more g joined (λ π. more_right (f π) (g π))

    pub shut_left : (π : List ℕ) → Shut k f π → Shut k joined π
    shut_left = shut_more f joined (λ π. more_left (f π) (g π))

    pub shut_right : (π : List ℕ) → Shut k g π → Shut k joined π
    shut_right = shut_more g joined (λ π. more_right (f π) (g π))

    pub hidden_left : (π : List ℕ) → Hidden k f π → Hidden k joined π
    hidden_left = hidden_more f joined (λ π. more_left (f π) (g π))

    pub hidden_right : (π : List ℕ) → Hidden k g π → Hidden k joined π
    hidden_right = hidden_more g joined (λ π. more_right (f π) (g π))

  pub like_refl : (l : Label V) → Like k l l
  like_refl l = record { empty = refl; atom = λ x. refl; admit = λ v e. refl; lower = refl; upper = refl }

  pub like_join : (l l' m m' : Label V) → Like k l l' → Like k m m' → Like k (join l m) (join l' m')
  like_join l l' m m' p q = record {
    empty = rw (p.empty, q.empty);
    atom = λ x. rw (p.atom x, q.atom x);
    admit = λ v e. rw (p.admit v e, q.admit v e);
    lower = rw (p.lower, q.lower);
    upper = rw (p.upper, q.upper);
  }

  pub alike_refl : (F : Form V) → AlikeForms F F
  alike_refl F π = same (like_refl (F.at π)) refl

  module _ (F F' G G' : Form V) where
    abbrev Both : List ℕ → Type 0
    Both π = Alike k (both_forms k F G).at (both_forms k F' G').at (both_forms k F G).on (both_forms k F' G').on π

    both_on : (π : List ℕ) → F.on π ≡ F'.on π → G.on π ≡ G'.on π → (both_forms k F G).on π ≡ (both_forms k F' G').on π
    both_on π p q = rw (p, q)

    both_lower : (π : List ℕ) → (F.at π).lower ≡ (F'.at π).lower → (G.at π).lower ≡ (G'.at π).lower → ((both_forms k F G).at π).lower ≡ ((both_forms k F' G').at π).lower
    both_lower π p q = rw (p, q)

    hidden_first : (π : List ℕ) → Hidden k F.at π → Hidden k F'.at π → Both π
    hidden_first π p q = hidden (hidden_left F.at G.at π p) (hidden_left F'.at G'.at π q)

    hidden_second : (π : List ℕ) → Hidden k G.at π → Hidden k G'.at π → Both π
    hidden_second π p q = hidden (hidden_right F.at G.at π p) (hidden_right F'.at G'.at π q)

    both_alike : (π : List ℕ) → Alike k F.at F'.at F.on F'.on π → Alike k G.at G'.at G.on G'.on π → Both π
    both_alike π (same h e) (same i d) = same (like_join (F.at π) (F'.at π) (G.at π) (G'.at π) h i) (both_on π e d)
    both_alike π (same h e) (edge {r = r} {π = ρ} p q l d) =
        edge (shut_right F.at G.at (r ∷ ρ) p) (shut_right F'.at G'.at (r ∷ ρ) q) (both_lower (r ∷ ρ) h.lower l) (both_on (r ∷ ρ) e d)
    both_alike π (same h e) (hidden p q) = hidden_second π p q
    both_alike π (edge {r = r} {π = ρ} p q l d) (same i e) =
        edge (shut_left F.at G.at (r ∷ ρ) p) (shut_left F'.at G'.at (r ∷ ρ) q) (both_lower (r ∷ ρ) l i.lower) (both_on (r ∷ ρ) d e)
    both_alike π (edge {r = r} {π = ρ} p q l d) (edge s t m e) =
        edge (shut_left F.at G.at (r ∷ ρ) p) (shut_left F'.at G'.at (r ∷ ρ) q) (both_lower (r ∷ ρ) l m) (both_on (r ∷ ρ) d e)
    both_alike π (edge {r = r} {π = ρ} p q l d) (hidden s t) = hidden_second (r ∷ ρ) s t
    both_alike π (hidden p q) a = hidden_first π p q

  pub alike_both : (F F' G G' : Form V) → AlikeForms F F' → AlikeForms G G' → AlikeForms (both_forms k F G) (both_forms k F' G')
  alike_both F F' G G' p q π = both_alike F F' G G' π (p π) (q π)

  -- Below a role all is as it was.
  pub under_at : (s : ℕ) (f : List ℕ → Label V) (π : List ℕ) → under s f (s ∷ π) ≡ f π
  under_at s f π = ap (λ t. cond t (f π) silent) (eq-eqb s s refl)

  below_at : (s : ℕ) (w : List ℕ → Bool) (π : List ℕ) → below_role k s w (s ∷ π) ≡ w π
  below_at s w π = ap (λ t. t && w π) (eq-eqb s s refl)

  module _ (s : ℕ) (f : List ℕ → Label V) where
    dead_under : (π : List ℕ) → Dead k f π → Dead k (under s f) (s ∷ π)
    dead_under π (by_nothing e) = by_nothing (ap (λ l. l.empty) (under_at s f π) ∙ e)
    dead_under π (by_reading e) = by_reading (λ v r. ap (λ l. l.admit v) (under_at s f π) ∙ e v r)
    dead_under π (by_numbers r e) = by_numbers r (let P : Label V → Type 0 = λ l. Over l.lower l.upper in subst P (sym (under_at s f (then_role π r))) e)
    dead_under π (by_filler r e d) = by_filler r (let P : Label V → Type 0 = λ l. 0 < l.lower in subst P (sym (under_at s f (then_role π r))) e) (dead_under (then_role π r) d)

    shut_under : (π : List ℕ) → Shut k f π → Shut k (under s f) (s ∷ π)
    shut_under π (inl e) = inl (ap (λ l. l.upper) (under_at s f π) ∙ e)
    shut_under π (inr d) = inr (dead_under π d)

    hidden_under : (π : List ℕ) → Hidden k f π → Hidden k (under s f) (s ∷ π)
    hidden_under π x = record {
      first = s;
      front = x.first ∷ x.front;
      next = x.next;
      rest = x.rest;
      split = ap (λ ρ. s ∷ ρ) x.split;
      shut = shut_under (x.first ∷ x.front) x.shut;
    }

  module _ (s : ℕ) (F F' : Form V) where
    abbrev Below : List ℕ → Type 0
    Below π = Alike k (under_form k s F).at (under_form k s F').at (under_form k s F).on (under_form k s F').on π

    below_on : (π : List ℕ) → F.on π ≡ F'.on π → (under_form k s F).on (s ∷ π) ≡ (under_form k s F').on (s ∷ π)
    below_on π e = below_at s F.on π ∙ e ∙ sym (below_at s F'.on π)

    below_lower : (π : List ℕ) → (F.at π).lower ≡ (F'.at π).lower → ((under_form k s F).at (s ∷ π)).lower ≡ ((under_form k s F').at (s ∷ π)).lower
    below_lower π e = ap (λ l. l.lower) (under_at s F.at π) ∙ e ∙ sym (ap (λ l. l.lower) (under_at s F'.at π))

    below_like : (π : List ℕ) → Like k (F.at π) (F'.at π) → Like k ((under_form k s F).at (s ∷ π)) ((under_form k s F').at (s ∷ π))
    below_like π h = rw (under_at s F.at π, under_at s F'.at π) h

    below_alike : (π : List ℕ) → Alike k F.at F'.at F.on F'.on π → Below (s ∷ π)
    below_alike π (same h e) = same (below_like π h) (below_on π e)
    below_alike π (edge {r = r} {π = ρ} p q l d) = edge (shut_under s F.at (r ∷ ρ) p) (shut_under s F'.at (r ∷ ρ) q) (below_lower (r ∷ ρ) l) (below_on (r ∷ ρ) d)
    below_alike π (hidden p q) = hidden (hidden_under s F.at π p) (hidden_under s F'.at π q)

    elsewhere : (r : ℕ) (π : List ℕ) → eqb r s ≡ false → Below (r ∷ π)
    elsewhere r π e = same (rw e (like_refl silent)) (rw e)

  pub alike_under : (s : ℕ) (F F' : Form V) → AlikeForms F F' → AlikeForms (under_form k s F) (under_form k s F')
  alike_under s F F' p [] = same (like_refl silent) refl
  alike_under s F F' p (r ∷ π) = ⊎_elim
      (λ e. subst (λ t. Below s F F' (t ∷ π)) (sym (eqb-true r s e)) (below_alike s F F' π (p π)))
      (λ e. elsewhere s F F' r π e)
      (cases_Bool (eqb r s))
