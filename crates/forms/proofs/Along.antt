-- Paths in an interpretation, put together and taken apart. Assumes nothing.
use Rattle.std.proofs.Common.{◌≡◌, ℕ, ◌<◌, true, List, [], ◌∷◌, ◌++◌, sym, refl, subst}
use Rattle.kinds.specs.Domain.{Domain}
use Rattle.concepts.specs.Interpretations.{Interpretation}
use Rattle.forms.specs.Paths.{Along}
use Rattle.rows.specs.Tables.{then_role}

module _ {R V : Type 0} {k : Domain R V} (y : Interpretation k) where
  -- the two parts of a path
  pub along_split : (i j : ℕ) (π ρ : List ℕ) → Along y i (π ++ ρ) j → (h : ℕ) × Along y i π h × Along y h ρ j
  along_split i j [] ρ e = (i, refl, e)
  along_split i j (r ∷ π) ρ e = let rest = along_split e.0 j π ρ e.3 in (rest.0, (e.0, e.1, e.2, rest.1), rest.2)

  pub along_join : (i h j : ℕ) (π ρ : List ℕ) → Along y i π h → Along y h ρ j → Along y i (π ++ ρ) j
  along_join i h j [] ρ p q = subst (λ x. Along y x ρ j) (sym p) q
  along_join i h j (r ∷ π) ρ p q = (p.0, p.1, p.2, along_join p.0 h j π ρ p.3 q)

  -- one role more
  pub along_then : (i h j r : ℕ) (π : List ℕ) → Along y i π h → j < y.size → y.filler h r j ≡ true → Along y i (then_role π r) j
  along_then i h j r π p l e = along_join i h j π (r ∷ []) p (j, l, e, refl)

  pub along_last : (i j r : ℕ) (π : List ℕ) → Along y i (then_role π r) j → (h : ℕ) × Along y i π h × (j < y.size) × (y.filler h r j ≡ true)
  along_last i j r π p =
      let s = along_split i j π (r ∷ []) p in
      let q = s.2 in
      (s.0, s.1, subst (λ x. x < y.size) q.3 q.1, subst (λ x. y.filler s.0 r x ≡ true) q.3 q.2)

  -- what is reached is an element
  pub along_inside : (i j : ℕ) (π : List ℕ) → i < y.size → Along y i π j → j < y.size
  along_inside i j [] l e = subst (λ x. x < y.size) e l
  along_inside i j (r ∷ π) l e = along_inside e.0 j π e.1 e.3
