-- At which path a row stands, and in which order paths come. Assumes nothing.
use Rattle.std.proofs.Common.{◌≡◌, ℕ, ◌<◌, ◌⊎◌, List, [], ◌∷◌, ◌++◌, length, sym, refl, ap, ◌∙◌, inl, inr, ⊎_elim, arith}
use Rattle.rows.specs.Tables.{then_role, Stands, root, below, Before, shorter, lower_role, later}
use Rattle.rows.specs.declared.row.Row.{Row}

-- the last role of a path, and what comes before it
pub last_same : (π σ : List ℕ) (r s : ℕ) → then_role π r ≡ then_role σ s → (π ≡ σ) × (r ≡ s)
last_same [] [] r s e = (refl, cc)
last_same [] (t ∷ []) r s e = absurd (cc)
last_same [] (t ∷ u ∷ σ) r s e = absurd (cc)
last_same (t ∷ []) [] r s e = absurd (cc)
last_same (t ∷ u ∷ π) [] r s e = absurd (cc)
last_same (t ∷ π) (u ∷ σ) r s e =
    let tails : then_role π r ≡ then_role σ s = cc in
    let rest = last_same π σ r s tails in
    let heads : t ≡ u = cc in
    (ap (λ x. x ∷ π) heads ∙ ap (λ ρ. u ∷ ρ) rest.0, rest.1)

-- a proper front of a path with one role more is a front of the path
pub front_of : (π σ : List ℕ) (r s : ℕ) (ρ : List ℕ) → then_role π r ≡ σ ++ (s ∷ ρ) → (τ : List ℕ) × (π ≡ σ ++ τ)
front_of π [] r s ρ e = (π, refl)
front_of [] (t ∷ []) r s ρ e = absurd (cc)
front_of [] (t ∷ u ∷ σ) r s ρ e = absurd (cc)
front_of (u ∷ π) (t ∷ σ) r s ρ e =
    let tails : then_role π r ≡ σ ++ (s ∷ ρ) = cc in
    let heads : u ≡ t = cc in
    let rest = front_of π σ r s ρ tails in
    (rest.0, ap (λ x. x ∷ π) heads ∙ ap (λ τ. t ∷ τ) rest.1)

-- row 0 stands at the empty path, and every other one at its parent's and then its role
pub stands_by : {R : Type 0} (T : ℕ → Row R) (c : ℕ) (π : List ℕ) → Stands T c π
    → ((c ≡ 0) × (π ≡ [])) ⊎ ((σ : List ℕ) × (0 < c) × Stands T (T c).parent σ × (π ≡ then_role σ (T c).role))
stands_by T c π root = inl (refl, refl)
stands_by T c π (below {π = σ} d l s) = inr (σ, l, s, refl)

module _ {R : Type 0} (T : ℕ → Row R) where
  -- a row stands at one path
  pub stands_once : (c : ℕ) (π ρ : List ℕ) → Stands T c π → Stands T c ρ → π ≡ ρ
  stands_once c π ρ root s = ⊎_elim (λ z. sym z.1) (λ z. absurd (omega (arith, z.1))) (stands_by T 0 ρ s)
  stands_once c π ρ (below {π = σ} d l t) s = ⊎_elim
      (λ z. absurd (omega (arith, z.0)))
      (λ z. ap (λ x. then_role x (T d).role) (stands_once (T d).parent σ z.0 t z.2) ∙ sym z.3)
      (stands_by T d ρ s)

-- no path comes before itself
pub before_apart : (π ρ : List ℕ) → Before π ρ → π ≡ ρ → ⊥
before_apart π ρ (shorter {r = r} {π = σ}) e = let q = ap length e in omega arith
before_apart π ρ (lower_role {r = r} {s = s} l) e = let q : r ≡ s = cc in omega arith
before_apart π ρ (later {π = σ} {ρ = τ} b) e = let q : σ ≡ τ = cc in before_apart σ τ b q

pub not_before : (π : List ℕ) → Before π π → ⊥
not_before π b = before_apart π π b refl
