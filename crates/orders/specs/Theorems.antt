-- What is expected of reductions and diagrams: theorems, which the contract of `reductions_stand` states.
use Rattle.std.specs.Prelude.{◌≡◌, ℕ, Bool, true, List, Some, Decides}
use Rattle.orders.specs.Ledgers.{Ledger, Below, Covers, Proper, Diagram}
use Rattle.orders.specs.Reductions.{lies, Reduction}

-- t says which places of L lie below which
abbrev pub Tabled : {E : Type 0} → (E → E → Type 0) → Ledger E → List ℕ → Type 0
Tabled le L t = (p q : ℕ) → Decides (lies t p q) (Below le L p q)

pub record ReductionFacts {E : Type 0} (le : E → E → Type 0) : Type 0 where
  -- the reduced table has just the covers
  pub covers : (L : Ledger E) (places : ℕ) (t s : List ℕ) → Proper le L places → Tabled le L t → Reduction t s
      → (p q : ℕ) → Decides (lies s p q) (Covers le L p q)
  -- it is a Hasse diagram of what is held
  pub diagram : (L : Ledger E) (places : ℕ) (t s : List ℕ) → Proper le L places → Tabled le L t → Reduction t s
      → Diagram le L (λ p q. lies s p q ≡ true)
  -- there is no other: from a held place, the steps of any diagram are the covers
  pub unique : (L : Ledger E) (places : ℕ) (step : ℕ → ℕ → Bool) → Proper le L places → Diagram le L (λ p q. step p q ≡ true)
      → (p q : ℕ) (e : E) → L p ≡ Some e → Decides (step p q) (Covers le L p q)
