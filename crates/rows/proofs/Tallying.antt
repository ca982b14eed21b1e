-- Testing the groups of a slice. Assumes nothing.
use Rattle.std.proofs.Common.{◌≡◌, ℕ, suc, ◌<◌, ◌≤◌, Bool, true, false, not, List, length, get_or, take, is_some, Some, None, Option, Decides, sym, refl, ap, ◌∙◌, subst, inr, arith}
use Rattle.std.proofs.lemmas.Bool.{false≢true}
use Rattle.std.proofs.lemmas.List.{get_or_read, get_or-take, length-take-le}
use Rattle.kinds.specs.Domain.{Domain}
use Rattle.concepts.specs.declared.refusal.Refusal.TheVariants.{Table}
use Rattle.rows.specs.Hanging.{Hook, child_in}
use Rattle.rows.specs.Groups.{WellFormed, groups_of}
use Rattle.rows.specs.Censuses.{AtFault, First, Later, Fits}
use Rattle.rows.specs.declared.group.Group.{Group}
use Rattle.rows.proofs.Hanging.{child_some, child_none}

-- The group that is read at g, and what is looked for among those before it.
module _ {V : Type 0} (xs : List (Group V)) (g : ℕ) (inside : g < length xs) (x : Group V) (is : x ≡ get_or xs g x) (d : Group V) where
  abbrev G : ℕ → Group V
  G = groups_of d xs

  read : x ≡ G g
  read = get_or_read xs g x inside is d

  abbrev H : ℕ → Hook
  H i = ((get_or (take g xs) i d).parent, (get_or (take g xs) i d).role)

  size : length (take g xs) ≡ g
  size = length-take-le g xs (omega arith)

  taken : (h : ℕ) → h < g → get_or (take g xs) h d ≡ G h
  taken h l = get_or-take g xs h d l

  pub later_decided : (p : ℕ) (o : Option ℕ) (b : Bool) → p ≡ x.parent → p < g → x.role < 16 → 0 < x.headcount → x.headcount ≤ 1000
      → o ≡ child_in H (length (take g xs)) p x.role → is_some o ≡ not b → Decides b (Later G g)
  later_decided p o b up low narrow some few is_child t = go o b refl t
    where
      p_is : p ≡ (G g).parent
      p_is = up ∙ ap (λ y. y.parent) read

      r_is : x.role ≡ (G g).role
      r_is = ap (λ y. y.role) read

      go : (u : Option ℕ) (c : Bool) → o ≡ u → is_some u ≡ not c → Decides c (Later G g)
      go None true e h = (
        λ _. record {
          parent = subst (λ y. y < g) p_is low;
          role = subst (λ y. y < 16) r_is narrow;
          some = subst (λ y. 0 < y.headcount) read some;
          few = subst (λ y. y.headcount ≤ 1000) read few;
          alone = λ h above below q r. child_none H (length (take g xs)) p x.role (sym is_child ∙ e) h (omega (arith, p_is, above)) (omega (arith, size, below))
              (record { parent = ap (λ y. y.parent) (taken h below) ∙ q ∙ sym p_is; role = ap (λ y. y.role) (taken h below) ∙ r ∙ sym r_is });
        },
        λ _. refl,
      )
      go None false e h = absurd (false≢true h)
      go (Some c) true e h = absurd (false≢true (sym h))
      go (Some c) false e h = (
        λ f. absurd (false≢true f),
        λ later. absurd (
            let w = child_some H (length (take g xs)) p x.role c (sym is_child ∙ e) in
            let below : c < g = omega (arith, w.1, size) in
            let same = ap (λ y. y.parent) (taken c below) in
            let role = ap (λ y. y.role) (taken c below) in
            later.alone c (omega (arith, p_is, w.0)) below (sym same ∙ w.2.parent ∙ p_is) (sym role ∙ w.2.role ∙ r_is)),
      )

module _ {R V : Type 0} (k : Domain R V) where
  -- groups that may each stand where they do are well formed, and the other way round
  fits_formed : (G : ℕ → Group V) (n : ℕ) → 0 < n → n ≤ 256 → ((g : ℕ) → g < n → Fits k G g) → WellFormed k G n
  fits_formed G n some few fits =
      let first = (fits 0 some).first refl in
      let later : (g : ℕ) → 0 < g → g < n → Later G g = λ g z l. (fits g l).later z in
      record {
        some = some;
        few = few;
        one = first.one;
        first = (first.parent, first.role);
        parents = λ g z l. (later g z l).parent;
        roles = λ g z l. (later g z l).role;
        headcounts = λ g z l. ((later g z l).some, (later g z l).few);
        apart = λ g h z l u p r. let own = (later g z (omega arith)).parent in (later h (omega arith) u).alone g (omega (arith, own, p)) l p r;
        reads = λ g l. (fits g l).reads;
      }

  formed_fits : (G : ℕ → Group V) (g : ℕ) → WellFormed k G (suc g) → Fits k G g
  formed_fits G g w = record {
    reads = w.reads g (omega arith);
    first = λ z. subst (λ y. First (G y)) (sym z) (record { parent = w.first.0; role = w.first.1; one = w.one });
    later = λ z. record {
      parent = w.parents g z (omega arith);
      role = w.roles g z (omega arith);
      some = (w.headcounts g z (omega arith)).0;
      few = (w.headcounts g z (omega arith)).1;
      alone = λ h above below p r. w.apart h g (omega arith) below (omega arith) p r;
    };
  }

  module _ (xs : List (Group V)) where
    -- so far each group may stand where it does
    abbrev pub Passed : ℕ → Type 0
    Passed g = (d : Group V) (h : ℕ) → h < g → Fits k (groups_of d xs) h

    pub fault_found : (g : ℕ) → length xs ≤ 256 → g < length xs → Passed g → ((d : Group V) → Decides false (Fits k (groups_of d xs) g)) → AtFault k xs (Table g)
    fault_found g few l before here = inr (
      omega arith,
      few,
      g,
      l,
      refl,
      λ d. (λ some. fits_formed (groups_of d xs) g some (omega arith) (before d), λ w. false≢true ((here d).1 (formed_fits (groups_of d xs) g w))),
    )
