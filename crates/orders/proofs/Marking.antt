-- Masks that are written number by number. Assumes nothing.
use Rattle.std.proofs.Common.{◌≡◌, ℕ, ◌+◌, ◌<◌, ◌&&◌, ◌||◌, eqb, Decides, sym, ap, ◌∙◌, subst, ⊎_elim, arith}
use Rattle.std.proofs.lemmas.Bool.{both_ways, or_cases, or_left, or_right, eqb-true, eq-eqb, lt-ltb, cases_eq}
use Rattle.masks.specs.Masks.{has, Single, Joined}
use Rattle.masks.proofs.Digits.{has_zero}

-- the mask m has the numbers below i of which P holds, and no others
abbrev pub Marks : (ℕ → Type 0) → ℕ → ℕ → Type 0
Marks P i m = (j : ℕ) → Decides (has m j) ((j < i) × P j)

module _ (P : ℕ → Type 0) where
  pub marks_none : Marks P 0 0
  marks_none j = (λ t. absurd (both_ways _ (has_zero j) t), λ h. absurd (omega (arith, h.0)))

  pub marks_set : (m i x r : ℕ) → i < 64 → Single i x → Joined m x r → P i → Marks P i m → Marks P (i + 1) r
  marks_set m i x r lt single joined here all j =
      let is : has r j ≡ (has m j || eqb j i) = joined j ∙ ap (λ y. has m j || y) (single j ∙ ap (λ y. y && eqb j i) (lt-ltb i 64 lt)) in (
        λ t. ⊎_elim
            (λ old. let h = (all j).0 old in (omega (arith, h.0), h.1))
            (λ new. let same = eqb-true j i new in (omega (arith, same), subst P (sym same) here))
            (or_cases (has m j) (eqb j i) (sym is ∙ t)),
        λ h. is ∙ ⊎_elim
            (λ same. or_right (has m j) (eqb j i) (eq-eqb j i same))
            (λ ne. or_left (has m j) (eqb j i) ((all j).1 (omega (arith, ne, h.0), h.1)))
            (cases_eq j i),
      )

  pub marks_skip : (m i : ℕ) → (P i → ⊥) → Marks P i m → Marks P (i + 1) m
  marks_skip m i absent all j = (
    λ t. let h = (all j).0 t in (omega (arith, h.0), h.1),
    λ h. (all j).1 (⊎_elim (λ same. absurd (absent (subst P same h.1))) (λ ne. omega (arith, ne, h.0)) (cases_eq j i), h.1),
  )
