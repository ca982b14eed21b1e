-- How many numbers below a bound pass a test, and whether any does. Assumes nothing.
use Rattle.std.proofs.Common.{◌≡◌, ℕ, zero, suc, ◌+◌, ◌<◌, ◌≤◌, Bool, true, false, ◌⊎◌, refl, ap, ◌∙◌, inl, inr, ⊎_elim, arith}
use Rattle.std.proofs.lemmas.Bool.{cases_eq, cases_Bool, both_ways}

abbrev one_if : Bool → ℕ
one_if true = 1
one_if false = 0

one_le : (x y : Bool) → (x ≡ true → y ≡ true) → one_if x ≤ one_if y
one_le true true h = omega arith
one_le true false h = absurd (both_ways false refl (h refl))
one_le false y h = omega arith

one_lt : (x y : Bool) → x ≡ false → y ≡ true → one_if x < one_if y
one_lt true y e h = absurd (both_ways true e refl)
one_lt false true e h = omega arith
one_lt false false e h = absurd (both_ways false refl h)

-- how many numbers below n pass the test
unfoldable pub count : (ℕ → Bool) → ℕ → ℕ
count f zero = 0
count f (suc n) = count f n + one_if (f n)

-- g passes what f passes
module _ (f g : ℕ → Bool) (all : (j : ℕ) → f j ≡ true → g j ≡ true) where
  count_le : (n : ℕ) → count f n ≤ count g n
  unfolding count
  count_le zero = omega arith
  count_le (suc n) = omega (arith, count_le n, one_le (f n) (g n) (all n))

  -- and j besides
  pub count_lt : (j : ℕ) → f j ≡ false → g j ≡ true → (n : ℕ) → j < n → count f n < count g n
  unfolding count
  count_lt j without with zero lt = absurd (omega arith)
  count_lt j without with (suc n) lt =
      ⊎_elim
      (λ e. omega (arith, count_le n, one_lt (f n) (g n) (ap f e ∙ without) (ap g e ∙ with)))
      (λ ne. omega (arith, count_lt j without with n (omega (arith, ne)), one_le (f n) (g n) (all n)))
      (cases_eq n j)

-- a number below n that passes the test
pub record Found (f : ℕ → Bool) (n : ℕ) : Type 0 where
  pub number : ℕ
  pub early : number < n
  pub passes : f number ≡ true

-- there is none
abbrev pub Missing : (ℕ → Bool) → ℕ → Type 0
Missing f n = (z : ℕ) → z < n → f z ≡ false

seek_more : (f : ℕ → Bool) (n : ℕ) → (f n ≡ true) ⊎ (f n ≡ false) → Found f n ⊎ Missing f n → Found f (suc n) ⊎ Missing f (suc n)
seek_more f n (inl t) _ = inl record { number = n; early = omega arith; passes = t }
seek_more f n (inr e) (inl found) = inl record { number = found.number; early = omega (arith, found.early); passes = found.passes }
seek_more f n (inr e) (inr none) = inr (λ z lt. ⊎_elim (λ same. ap f same ∙ e) (λ ne. none z (omega (arith, ne))) (cases_eq z n))

pub seek : (f : ℕ → Bool) (n : ℕ) → Found f n ⊎ Missing f n
seek f zero = inr (λ z lt. absurd (omega arith))
seek f (suc n) = seek_more f n (cases_Bool (f n)) (seek f n)
