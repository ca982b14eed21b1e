-- At a path that is not written, a concept writes nothing; and what is written is written along the way. Assumes nothing.
use Rattle.std.proofs.Common.{◌≡◌, ℕ, Bool, true, false, cond, eqb, List, [], ◌∷◌, ◌++◌, None, sym, refl, ap, ◌∙◌, ⊎_elim, arith}
use Rattle.std.proofs.lemmas.Bool.{or_parts, and_cases, and_parts, and_from, or_cases, or_left, or_right, false≢true}
use Rattle.kinds.specs.Domain.{Domain}
use Rattle.concepts.specs.Concepts.{Concept, thing, nothing, prim, within, and, all, at_least, at_most}
use Rattle.forms.specs.Labels.{Label, least, silent, join, writes, label}

module _ {R V : Type 0} (k : Domain R V) where
  unchosen : (t : Bool) (l : Label V) → (t ≡ true → l ≡ silent) → cond t l silent ≡ silent
  unchosen true l h = h refl
  unchosen false l h = refl

  pub unwritten : (a : Concept R) (π : List ℕ) → writes a π ≡ false → label k a π ≡ silent
  unwritten thing π e = refl
  unwritten nothing [] e = absurd (false≢true (sym e))
  unwritten nothing (r ∷ π) e = refl
  unwritten (prim m) [] e = absurd (false≢true (sym e))
  unwritten (prim m) (r ∷ π) e = refl
  unwritten (within v) [] e = absurd (false≢true (sym e))
  unwritten (within v) (r ∷ π) e = refl
  unwritten (and a b) π e =
      let p = or_parts (writes a π) (writes b π) e in
      ap (λ l. join l (label k b π)) (unwritten a π p.0) ∙ ap (λ l. join silent l) (unwritten b π p.1)
  unwritten (all s a) [] e = absurd (false≢true (sym e))
  unwritten (all s a) (r ∷ π) e = unchosen (eqb r s) (label k a π) (λ t. ⊎_elim (λ u. absurd (false≢true (sym u ∙ t))) (λ u. unwritten a π u) (and_cases (eqb r s) (writes a π) e))
  unwritten (at_least n s) [] e = absurd (false≢true (sym e))
  unwritten (at_least n s) (r ∷ []) e = unchosen (eqb r s) _ (λ t. absurd (false≢true (sym e ∙ t)))
  unwritten (at_least n s) (r ∷ t ∷ π) e = unchosen (eqb r s) silent (λ t. refl)
  unwritten (at_most n s) [] e = absurd (false≢true (sym e))
  unwritten (at_most n s) (r ∷ []) e = unchosen (eqb r s) _ (λ t. absurd (false≢true (sym e ∙ t)))
  unwritten (at_most n s) (r ∷ t ∷ π) e = unchosen (eqb r s) silent (λ t. refl)

-- what begins a written path is written
pub writes_root : {R : Type 0} (a : Concept R) → writes a [] ≡ true
writes_root thing = refl
writes_root nothing = refl
writes_root (prim m) = refl
writes_root (within v) = refl
writes_root (and a b) = or_left (writes a []) (writes b []) (writes_root a)
writes_root (all s a) = refl
writes_root (at_least n s) = refl
writes_root (at_most n s) = refl

pub writes_front : {R : Type 0} (a : Concept R) (π ρ : List ℕ) → writes a (π ++ ρ) ≡ true → writes a π ≡ true
writes_front a [] ρ e = writes_root a
writes_front thing (r ∷ π) ρ e = e
writes_front nothing (r ∷ π) ρ e = e
writes_front (prim m) (r ∷ π) ρ e = e
writes_front (within v) (r ∷ π) ρ e = e
writes_front (and a b) (r ∷ π) ρ e =
    ⊎_elim (λ t. or_left _ (writes b (r ∷ π)) (writes_front a (r ∷ π) ρ t)) (λ t. or_right (writes a (r ∷ π)) _ (writes_front b (r ∷ π) ρ t))
    (or_cases (writes a ((r ∷ π) ++ ρ)) (writes b ((r ∷ π) ++ ρ)) e)
writes_front (all s a) (r ∷ π) ρ e = let p = and_parts (eqb r s) (writes a (π ++ ρ)) e in and_from (eqb r s) (writes a π) p.0 (writes_front a π ρ p.1)
writes_front (at_least n s) (r ∷ []) [] e = e
writes_front (at_least n s) (r ∷ []) (t ∷ ρ) e = absurd (false≢true e)
writes_front (at_least n s) (r ∷ t ∷ π) ρ e = e
writes_front (at_most n s) (r ∷ []) [] e = e
writes_front (at_most n s) (r ∷ []) (t ∷ ρ) e = absurd (false≢true e)
writes_front (at_most n s) (r ∷ t ∷ π) ρ e = e

-- no number is written at the empty path
module _ {R V : Type 0} (k : Domain R V) where
  pub root_upper : (a : Concept R) → (label k a []).upper ≡ None
  root_upper thing = refl
  root_upper nothing = refl
  root_upper (prim m) = refl
  root_upper (within v) = refl
  root_upper (and a b) = ap (λ u. least u (label k b []).upper) (root_upper a) ∙ root_upper b
  root_upper (all s a) = refl
  root_upper (at_least n s) = refl
  root_upper (at_most n s) = refl

  pub root_lower : (a : Concept R) → (label k a []).lower ≡ 0
  root_lower thing = refl
  root_lower nothing = refl
  root_lower (prim m) = refl
  root_lower (within v) = refl
  root_lower (and a b) = omega (arith, root_lower a, root_lower b)
  root_lower (all s a) = refl
  root_lower (at_least n s) = refl
  root_lower (at_most n s) = refl
