-- Where some pass a test, one is found. Assumes nothing.
use Rattle.std.proofs.Common.{◌≡◌, ℕ, zero, suc, ◌+◌, ◌<◌, Bool, true, inl, inr, arith}
use Rattle.std.proofs.lemmas.Bool.{cases_Bool}
use Rattle.concepts.specs.Interpretations.{how_many, one_if}

pub count_found : (f : ℕ → Bool) (n : ℕ) → 0 < how_many f n → (j : ℕ) × (j < n) × (f j ≡ true)
unfolding how_many
count_found f zero h = absurd (omega arith)
count_found f (suc n) h = elim (cases_Bool (f n)) [
  | inl e ↦ (n, omega arith, e)
  | inr e ↦ (let w = count_found f n (let h' : 0 < how_many f n + one_if (f n) = h in let h'' : 0 < how_many f n + 0 = rw e at h' in omega arith) in (w.0, omega (arith, w.1), w.2))
]
