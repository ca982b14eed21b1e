-- What the tests of a span tell. Assumes nothing.
use Rattle.std.proofs.Common.{◌≡◌, Bool, true, false, ◌&&◌, ℤ, Decides, ⊎_elim, arith, w32, SFits}
use lib.Signed.{le_z, lt_z}
use Rattle.std.specs.Int.{int_max, int_min}
use Rattle.std.proofs.lemmas.Int.{ints}
use Rattle.std.proofs.lemmas.Bool.{cases_Bool}
use Rattle.kinds.specs.Spans.{in_32}

abbrev between : ℤ → ℤ → ℤ → Bool
between lo hi v = in_32 v && (le_z lo v && le_z v hi)

met : (a b c d v : ℤ) → between (int_max a c) (int_min b d) v ≡ (between a b v && between c d v)
met a b c d v = grind (arith, ints)

-- the larger low and the smaller high end admit what both spans admit
pub met_by : (a b c d m n : ℤ) → m ≡ int_max a c → n ≡ int_min b d → (v : ℤ) → between m n v ≡ (between a b v && between c d v)
met_by a b c d m n p q v = rw (p, q) (met a b c d v)

none : (lo hi v : ℤ) → lt_z hi lo ≡ true → between lo hi v ≡ false
none lo hi v h = grind (arith, ints)

-- a span that admits anything has its ends in order
pub filled : (lo hi : ℤ) → (((v : ℤ) → between lo hi v ≡ false) → ⊥) → lt_z hi lo ≡ false
filled lo hi some = ⊎_elim (λ t. absurd (some (λ v. none lo hi v t))) (λ f. f) (cases_Bool (lt_z hi lo))

at_low : (lo hi : ℤ) → SFits w32 lo → lt_z hi lo ≡ false → between lo hi lo ≡ true
at_low lo hi f h = grind (arith, ints)

-- a span a..=b that is not empty lies within c..=d, by its upper end
pub within_high : (a b c d : ℤ) → SFits w32 b → lt_z b a ≡ false → le_z c a ≡ true
    → Decides (le_z b d) ((v : ℤ) → between a b v ≡ true → between c d v ≡ true)
within_high a b c d f n l = (λ h v k. grind (arith, ints), λ all. let here = all b in grind (arith, ints))

-- and by its lower end
pub within_low : (a b c d : ℤ) → SFits w32 a → lt_z b a ≡ false → le_z c a ≡ false
    → Decides (le_z c a) ((v : ℤ) → between a b v ≡ true → between c d v ≡ true)
within_low a b c d f n l = (λ h v k. grind (arith, ints), λ all. let here = all a (at_low a b f n) in grind (arith, ints))
