-- The first written path after another. Assumes nothing.
use Rattle.std.proofs.Common.{◌≡◌, ℕ, ◌+◌, ◌<◌, ◌≤◌, Bool, true, ◌⊎◌, List, [], ◌∷◌, ◌++◌, length, sym, refl, ap, ◌∙◌, subst, inl, inr, ⊎_elim, append_assoc, append-nil, arith, length-append}
use Rattle.std.proofs.lemmas.Bool.{cases_lt, cases_eq}
use Rattle.rows.specs.Tables.{then_role, Before, shorter, lower_role, later}
use Rattle.forms.specs.Laying.{Next, Final}
use Rattle.forms.specs.Walks.{AfterHead}

pub before_trans : (π ρ τ : List ℕ) → Before π ρ → Before ρ τ → Before π τ
before_trans π ρ τ shorter (lower_role l) = shorter
before_trans π ρ τ shorter (later q) = shorter
before_trans π ρ τ (lower_role l) (lower_role m) = lower_role (omega arith)
before_trans π ρ τ (lower_role l) (later q) = lower_role l
before_trans π ρ τ (later p) (lower_role m) = lower_role m
before_trans π ρ τ (later p) (later q) = later (before_trans _ _ _ p q)

-- a path before its extensions, and paths that part at a role
pub before_more : (π : List ℕ) (s : ℕ) (τ : List ℕ) → Before π (π ++ (s ∷ τ))
before_more [] s τ = shorter
before_more (r ∷ π) s τ = later (before_more π s τ)

pub before_part : (σ : List ℕ) (r s : ℕ) (π τ : List ℕ) → r < s → Before (σ ++ (r ∷ π)) (σ ++ (s ∷ τ))
before_part [] r s π τ l = lower_role l
before_part (t ∷ σ) r s π τ l = later (before_part σ r s π τ l)

-- where two paths part: what they share, what is left of the first, and the role that the second goes on with
pub record Parting (π ρ : List ℕ) : Type 0 where
  pub shared : List ℕ
  pub left : List ℕ
  pub role : ℕ
  pub rest : List ℕ
  pub first : π ≡ shared ++ left
  pub second : ρ ≡ shared ++ (role ∷ rest)
  pub after : AfterHead left role

pub parting : (π ρ : List ℕ) → Before π ρ → Parting π ρ
parting π ρ (shorter {r = r} {π = τ}) = record { shared = []; left = []; role = r; rest = τ; first = refl; second = refl; after = tt }
parting π ρ (lower_role {r = r} {s = s} {π = σ} {ρ = τ} l) = record { shared = []; left = r ∷ σ; role = s; rest = τ; first = refl; second = refl; after = l }
parting π ρ (later {r = r} {π = σ} {ρ = τ} p) =
    let x = parting σ τ p in
    record { shared = r ∷ x.shared; left = x.left; role = x.role; rest = x.rest; first = ap (λ z. r ∷ z) x.first; second = ap (λ z. r ∷ z) x.second; after = x.after }

-- two ways to cut a list, by where they cut
same_cut : (σ α : List ℕ) (π β : List ℕ) → σ ++ π ≡ α ++ β → length σ ≡ length α → (σ ≡ α) × (π ≡ β)
same_cut [] [] π β e l = (refl, e)
same_cut [] (x ∷ α) π β e l = absurd (omega arith)
same_cut (y ∷ σ) [] π β e l = absurd (omega arith)
same_cut (y ∷ σ) (x ∷ α) π β e l =
    let tails : σ ++ π ≡ α ++ β = cc in
    let heads : y ≡ x = cc in
    let rest = same_cut σ α π β tails (omega arith) in
    (ap (λ z. z ∷ σ) heads ∙ ap (λ z. x ∷ z) rest.0, rest.1)

earlier_cut : (σ α : List ℕ) (π β : List ℕ) → σ ++ π ≡ α ++ β → length σ < length α → (x : ℕ) × (γ : List ℕ) × (α ≡ σ ++ (x ∷ γ)) × (π ≡ x ∷ (γ ++ β))
earlier_cut [] [] π β e l = absurd (omega arith)
earlier_cut [] (x ∷ α) π β e l = (x, α, refl, e)
earlier_cut (y ∷ σ) [] π β e l = absurd (omega arith)
earlier_cut (y ∷ σ) (x ∷ α) π β e l =
    let tails : σ ++ π ≡ α ++ β = cc in
    let heads : y ≡ x = cc in
    let rest = earlier_cut σ α π β tails (omega arith) in
    (rest.0, rest.1, ap (λ z. x ∷ z) rest.2 ∙ ap (λ z. z ∷ (σ ++ (rest.0 ∷ rest.1))) (sym heads), rest.3)

-- every written path after π parts from it before depth d
abbrev pub Early : (List ℕ → Bool) → List ℕ → ℕ → Type 0
Early w π d = (ρ : List ℕ) → w ρ ≡ true → (x : Parting π ρ) → length x.shared < d

module _ (w : List ℕ → Bool) (fronts : (π : List ℕ) (r : ℕ) → w (then_role π r) ≡ true → w π ≡ true) where
  -- what begins a written path is written
  pub written_front : (τ : List ℕ) (π : List ℕ) → w (π ++ τ) ≡ true → w π ≡ true
  written_front [] π e = subst (λ z. w z ≡ true) (append-nil π) e
  written_front (r ∷ τ) π e = fronts π r (written_front τ (then_role π r) (subst (λ z. w z ≡ true) (sym (append_assoc π (r ∷ []) τ)) e))

  written_role : (π : List ℕ) (r : ℕ) (τ : List ℕ) → w (π ++ (r ∷ τ)) ≡ true → w (then_role π r) ≡ true
  written_role π r τ e = written_front τ (then_role π r) (subst (λ z. w z ≡ true) (sym (append_assoc π (r ∷ []) τ)) e)

  pub early_all : (π : List ℕ) → Early w π (length π + 1)
  early_all π ρ e x = let l = ap length x.first in let f = length-append x.shared x.left in omega arith

  pub early_none : (π : List ℕ) → Early w π 0 → Final w π
  early_none π h ρ e p = let l = h ρ e (parting π ρ p) in omega arith

  -- no written path parts from π at depth d
  pub early_past : (π α β : List ℕ) → π ≡ α ++ β → ((s : ℕ) → AfterHead β s → w (then_role α s) ≡ true → ⊥) → Early w π (length α + 1) → Early w π (length α)
  early_past π α β cut none h ρ e x = ⊎_elim (λ l. l)
      (λ l.
      let at : length x.shared ≡ length α = omega (arith, h ρ e x) in
      let same = same_cut x.shared α x.left β (sym x.first ∙ cut) at in
      absurd (none x.role (subst (λ z. AfterHead z x.role) same.1 x.after)
      (subst (λ z. w (then_role z x.role) ≡ true) same.0 (written_role x.shared x.role x.rest (subst (λ z. w z ≡ true) x.second e)))))
      (cases_lt (length x.shared) (length α))

  -- the lowest role at depth d gives the next path
  pub next_found : (π α β : List ℕ) (r : ℕ) → π ≡ α ++ β → Early w π (length α + 1) → AfterHead β r → w (then_role α r) ≡ true
      → ((s : ℕ) → AfterHead β s → w (then_role α s) ≡ true → r ≤ s) → Next w π (then_role α r)
  next_found π α β r cut h after written lowest = record { written = written; after = subst (λ z. Before z (then_role α r)) (sym cut) (comes β after); first = first' }
    where
      comes : (γ : List ℕ) → AfterHead γ r → Before (α ++ γ) (then_role α r)
      comes [] p = subst (λ z. Before z (then_role α r)) (sym (append-nil α)) (before_more α r [])
      comes (x ∷ γ) p = before_part α x r γ [] p

      beyond : (s : ℕ) (τ : List ℕ) → r ≤ s → (α ++ (s ∷ τ) ≡ then_role α r) ⊎ Before (then_role α r) (α ++ (s ∷ τ))
      beyond s τ l = ⊎_elim (λ e. same s τ e) (λ ne. inr (before_part α r s [] τ (omega arith))) (cases_eq r s)
        where
          same : (s : ℕ) (τ : List ℕ) → r ≡ s → (α ++ (s ∷ τ) ≡ then_role α r) ⊎ Before (then_role α r) (α ++ (s ∷ τ))
          same s [] e = inl (ap (λ z. then_role α z) (sym e))
          same s (t ∷ τ) e = inr (subst (λ z. Before (then_role α r) (α ++ (z ∷ t ∷ τ))) e (subst (λ z. Before (then_role α r) z) (append_assoc α (r ∷ []) (t ∷ τ)) (before_more (then_role α r) t τ)))

      first' : (τ : List ℕ) → w τ ≡ true → Before π τ → (τ ≡ then_role α r) ⊎ Before (then_role α r) τ
      first' τ e p = by (parting π τ p)
        where
          by : Parting π τ → (τ ≡ then_role α r) ⊎ Before (then_role α r) τ
          by x = ⊎_elim
              (λ l.
              let c = earlier_cut x.shared α x.left β (sym x.first ∙ cut) l in
              let up : c.0 < x.role = subst (λ z. AfterHead z x.role) c.3 x.after in
              let e₁ : then_role α r ≡ x.shared ++ (c.0 ∷ then_role c.1 r) = ap (λ z. then_role z r) c.2 ∙ append_assoc x.shared (c.0 ∷ c.1) (r ∷ []) in
              inr (subst (λ z. Before z τ) (sym e₁) (subst (λ z. Before (x.shared ++ (c.0 ∷ then_role c.1 r)) z) (sym x.second) (before_part x.shared c.0 x.role (then_role c.1 r) x.rest up))))
              (λ l.
              let at : length x.shared ≡ length α = omega (arith, h τ e x) in
              let same = same_cut x.shared α x.left β (sym x.first ∙ cut) at in
              let second : τ ≡ α ++ (x.role ∷ x.rest) = x.second ∙ ap (λ z. z ++ (x.role ∷ x.rest)) same.0 in
              let w₁ = written_role α x.role x.rest (subst (λ z. w z ≡ true) second e) in
              subst (λ z. (z ≡ then_role α r) ⊎ Before (then_role α r) z) (sym second) (beyond x.role x.rest (lowest x.role (subst (λ z. AfterHead z x.role) same.1 x.after) w₁)))
              (cases_lt (length x.shared) (length α))
