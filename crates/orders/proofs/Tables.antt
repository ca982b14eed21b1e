-- Arrays made by calls at each index. Assumes nothing.
use Rattle.std.proofs.Common.{◌≡◌, ℕ, zero, suc, ◌+◌, ◌<◌, ◌≤◌, List, get_or, subst, ⊎_elim, arith, sym}
use Rattle.std.specs.Array.{IsFromFnResultFrom}
use Rattle.std.proofs.lemmas.Bool.{cases_eq}
use denote.Param.Members.{Mut, Called}

-- where each call at an index gives what P says, and leaves f as it was, each element is as P says
module _ {F B : Type 0} (g : Mut F (ℕ × Unit {0}) B) (P : ℕ → B → Type 0) (f : F) (gives : (i : ℕ) (y : B) (q : F) → Called g f (i, tt) y q → P i y × (q ≡ f)) where
  pub each_made : (ys : List B) (i n : ℕ) → IsFromFnResultFrom g f ys i n → (k : ℕ) (d : B) → i ≤ k → k < i + n → P k (get_or ys k d)
  each_made ys i zero h k d low high = absurd (omega arith)
  each_made ys i (suc n) h k d low high =
      let call = gives i h.1 h.0 h.3 in
      let rest : IsFromFnResultFrom g f ys (i + 1) n = subst (λ (q : F). IsFromFnResultFrom g q ys (i + 1) n) call.1 h.4 in
      ⊎_elim
      (λ same. subst (λ (j : ℕ). P j (get_or ys j d)) (sym same) (subst (P i) (sym (h.2.1 d)) call.0))
      (λ ne. each_made ys (i + 1) n rest k d (omega (arith, ne)) (omega arith))
      (cases_eq k i)
