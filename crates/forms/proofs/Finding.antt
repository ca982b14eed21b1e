-- The row that a path leads to stands at the path, and the other way round. Assumes nothing.
use Rattle.std.proofs.Common.{◌≡◌, ℕ, ◌<◌, List, [], ◌∷◌, ◌++◌, Some, None, Option, sym, refl, ap, ◌∙◌, subst, append_assoc, append-nil, arith}
use Rattle.rows.specs.Tables.{then_role, Stands, root, below}
use Rattle.forms.specs.Sheets.{hooks, child, onward, find}
use Rattle.rows.proofs.Hanging.{Hangs, child_some, child_finds}
use Rattle.rows.specs.declared.row.Row.{Row}

module _ {R : Type 0} (T : ℕ → Row R) where
  hangs_stands : (c r d : ℕ) (σ : List ℕ) → 0 < d → Hangs (hooks T) c r d → Stands T c σ → Stands T d (then_role σ r)
  hangs_stands c r d σ l w s =
      subst (λ x. Stands T d (then_role σ x)) w.role (below d l (subst (λ x. Stands T x σ) (sym w.parent) s))

  -- from a row on
  find_on : (n : ℕ) (π σ : List ℕ) (c d : ℕ) → c < n → Stands T c σ → find T n π c ≡ Some d → (d < n) × Stands T d (σ ++ π)
  find_on n [] σ c d l s e = let q : c ≡ d = cc in (omega arith, subst (λ x. Stands T x (σ ++ [])) q (subst (λ ρ. Stands T c ρ) (sym (append-nil σ)) s))
  find_on n (r ∷ π) σ c d l s e = go (child T n c r) refl e (λ b. find_on n π (then_role σ r) b d)
    where
      go : (o : Option ℕ) → child T n c r ≡ o → onward (find T n π) o ≡ Some d
          → ((b : ℕ) → b < n → Stands T b (then_role σ r) → find T n π b ≡ Some d → (d < n) × Stands T d (then_role σ r ++ π))
          → (d < n) × Stands T d (σ ++ (r ∷ π))
      go None q h on = absurd (let z : ◌≡◌ {A = ℕ} 0 1 = cc in omega arith)
      go (Some b) q h on =
          let w = child_some (hooks T) n c r b q in
          let v = on b w.1 (hangs_stands c r b σ (omega (arith, w.0)) w.2 s) h in
          (v.0, subst (λ ρ. Stands T d ρ) (append_assoc σ (r ∷ []) π) v.1)

  -- what is found stands at the path
  pub find_stands : (n : ℕ) (π : List ℕ) (c : ℕ) → 0 < n → find T n π 0 ≡ Some c → (c < n) × Stands T c π
  find_stands n π c l e = find_on n π [] 0 c l root e

  pub find_below : (n : ℕ) (π : List ℕ) (c : ℕ) → 0 < n → Some c ≡ find T n π 0 → c < n
  find_below n π c l e = (find_stands n π c l (sym e)).0

  pub find_append : (n : ℕ) (π ρ : List ℕ) (c : ℕ) → find T n (π ++ ρ) c ≡ onward (find T n ρ) (find T n π c)
  find_append n [] ρ c = refl
  find_append n (r ∷ π) ρ c = go (child T n c r) (find_append n π ρ)
    where
      go : (o : Option ℕ) → ((b : ℕ) → find T n (π ++ ρ) b ≡ onward (find T n ρ) (find T n π b)) → onward (find T n (π ++ ρ)) o ≡ onward (find T n ρ) (onward (find T n π) o)
      go None on = refl
      go (Some b) on = on b

  -- Where parents are lower and no two rows stand at one path, the row at a path is found.
  module _ (n : ℕ) (parents : (c : ℕ) → 0 < c → c < n → (T c).parent < c) (apart : (b c : ℕ) (π : List ℕ) → b < n → c < n → Stands T b π → Stands T c π → b ≡ c) where
    pub stands_find : (c : ℕ) (π : List ℕ) → c < n → Stands T c π → find T n π 0 ≡ Some c
    stands_find c π l root = refl
    stands_find c π l (below {π = σ} d some s) =
        let p = (T d).parent in
        let r = (T d).role in
        let low : p < d = parents d some l in
        let w = child_finds (hooks T) n p r d low l (record { parent = refl; role = refl }) in
        let v = child_some (hooks T) n p r w.0 w.1 in
        let q : w.0 ≡ d = apart w.0 d (then_role σ r) v.1 l (hangs_stands p r w.0 σ (omega (arith, v.0)) v.2 s) (below d some s) in
        find_append n σ (r ∷ []) 0 ∙ ap (onward (find T n (r ∷ []))) (stands_find p σ (omega arith) s) ∙ ap (onward (find T n [])) w.1 ∙ ap Some q
