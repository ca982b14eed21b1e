-- Ways of steps from place to place. Assumes nothing.
use Rattle.std.proofs.Common.{◌≡◌, ℕ, ◌⊎◌, refl, subst, inl, inr}
use Rattle.orders.specs.Ledgers.{Leads, here, on}

-- a first step, and a way on from it
pub record First (step : ℕ → ℕ → Type 0) (p q : ℕ) : Type 0 where
  pub next : ℕ
  pub step_on : step p next
  pub rest : Leads step next q

module _ {step : ℕ → ℕ → Type 0} where
  pub append : {p q r : ℕ} → Leads step p q → Leads step q r → Leads step p r
  append here y = y
  append (on s x) y = on s (append x y)

  pub first_of : {p q : ℕ} → Leads step p q → (p ≡ q) ⊎ First step p q
  first_of here = inl refl
  first_of (on {q = a} s x) = inr record { next = a; step_on = s; rest = x }

pub weaker : {step other : ℕ → ℕ → Type 0} → ((a b : ℕ) → step a b → other a b) → {p q : ℕ} → Leads step p q → Leads other p q
weaker w here = here
weaker w (on s x) = on (w _ _ s) (weaker w x)

-- any step but the one from p to q
abbrev pub but : (ℕ → ℕ → Type 0) → ℕ → ℕ → ℕ → ℕ → Type 0
but step p q a b = step a b × ((a ≡ p) × (b ≡ q) → ⊥)

module _ (step : ℕ → ℕ → Type 0) (p q : ℕ) where
  -- a way to z does without that step where q does not lead to z
  pub spared_end : {a z : ℕ} → (Leads step q z → ⊥) → Leads step a z → Leads (but step p q) a z
  spared_end shut here = here
  spared_end {z} shut (on s x) = on (s, λ e. shut (subst (λ (y : ℕ). Leads step y z) e.1 x)) (spared_end shut x)

  -- a way from a does without it where a does not lead to p
  pub spared_start : {a z : ℕ} → (Leads step a p → ⊥) → Leads step a z → Leads (but step p q) a z
  spared_start shut here = here
  spared_start {a} shut (on s x) = on (s, λ e. shut (subst (λ (y : ℕ). Leads step a y) e.0 here)) (spared_start (λ way. shut (on s way)) x)
