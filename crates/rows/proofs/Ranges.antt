-- What lower and upper numbers allow. Assumes nothing.
use Rattle.std.proofs.Common.{◌≡◌, ℕ, ◌≤◌, max, Bool, true, eqb, Some, None, Decides, Option, sym, ◌∙◌, arith}
use Rattle.std.proofs.lemmas.Bool.{false≢true, eq-eqb, eqb-true, leb-true}
use Rattle.std.proofs.lemmas.Bool.Decides.{Decides-at}
use Rattle.std.specs.Option.{option_eq}
use Rattle.rows.specs.Numbers.{ClosesOff, in_order}

-- some filler is allowed unless the upper number is 0
pub open_above : (lo : ℕ) → ClosesOff lo None → ⊥
open_above lo h = omega (arith, h (max lo 1) (omega arith, tt))

pub closes_at : (lo u : ℕ) → lo ≤ u → Decides (eqb u 0) (ClosesOff lo (Some u))
closes_at lo u l = (
  λ e n h. omega (arith, eqb-true u 0 e, h.1),
  λ h. eq-eqb u 0 (omega (arith, h u (l, omega arith))),
)

-- so whether the upper number is 0 decides it
pub closes_decided : (lo : ℕ) (up : Option ℕ) (r : Bool) → in_order lo up ≡ true → r ≡ option_eq eqb up (Some 0) → Decides r (ClosesOff lo up)
closes_decided lo None r o e = (λ t. absurd (false≢true (sym e ∙ t)), λ h. absurd (open_above lo h))
closes_decided lo (Some u) r o e = Decides-at r (eqb u 0) e (closes_at lo u (leb-true lo u o))
