-- Sets of numbers below 64 by the bits of a number. Assumes nothing.
use Rattle.std.proofs.Common.{◌≡◌, ℕ, ◌-◌, ◌*◌, ◌%◌, ◌^◌, ◌<◌, true, false, not, ◌&&◌, ◌||◌, eqb, ltb, Decides, w64, arith}
use lib.Bits.{bit_and, bit_or}
use lib.Count.{count_trailing_zeros}
use Rattle.std.proofs.lemmas.Nat.{one_shl}
use Rattle.std.proofs.lemmas.Nat.Bits.{bit_at_and, bit_at_or, bit_at_not, bit_at-zero, bit_at_ones, bit_at-pow_same, bit_at-pow_other, bit_at-trailing_zeros, bit_at-lt}
use Rattle.std.proofs.lemmas.Bool.Decides.{nat_tests}
use Rattle.masks.specs.Masks.{has}

pub has_and : (a b k : ℕ) → has (bit_and a b) k ≡ (has a k && has b k)
has_and a b k =
    let e = bit_at_and a b k in
    let l = bit_at-lt a k in
    let m = bit_at-lt b k in
    grind (arith, nat_tests)

pub has_or : (a b k : ℕ) → has (bit_or a b) k ≡ (has a k || has b k)
has_or a b k =
    let e = bit_at_or a b k in
    let l = bit_at-lt a k in
    let m = bit_at-lt b k in
    grind (arith, nat_tests)

pub has_zero : (k : ℕ) → has 0 k ≡ false
has_zero k = let e = bit_at-zero k in grind (arith, nat_tests)

pub has_all : (k : ℕ) → has (2 ^ 64 - 1) k ≡ ltb k 64
has_all k = grind (arith, nat_tests, bit_at_ones 64 k)

-- `1 << k`
pub has_single : (k : ℕ) → k < 64 → (j : ℕ) → has (1 * 2 ^ k % 2 ^ 64) j ≡ (ltb k 64 && eqb j k)
has_single k l j = let e = one_shl k 64 l in grind (arith, nat_tests, bit_at-pow_same k, bit_at-pow_other k j)

pub has_lacking : (a b : ℕ) → b < 2 ^ 64 → (k : ℕ) → has (bit_and a ((2 ^ 64 - 1) - b)) k ≡ (has a k && not (has b k))
has_lacking a b p k =
    let e = has_and a ((2 ^ 64 - 1) - b) k in
    let l = bit_at-lt b k in
    grind (arith, nat_tests, bit_at_not w64 b k p)

-- a set that is not 0 has its lowest
has_lowest : (n : ℕ) → n < 2 ^ 64 → 0 < n → has n (count_trailing_zeros 64 n) ≡ true
has_lowest n p f = let l = bit_at-trailing_zeros w64 n f p in grind (arith, nat_tests)

-- a set that has anything has its lowest
pub has_first : (n : ℕ) → n < 2 ^ 64 → (k : ℕ) → has n k ≡ true → has n (count_trailing_zeros 64 n) ≡ true
has_first n p k t = let z = has_zero k in grind (arith, nat_tests, has_lowest n p)

pub has_none : (n : ℕ) → n < 2 ^ 64 → Decides (eqb n 0) ((k : ℕ) → has n k ≡ false)
has_none n p = (
  λ e k. let z = has_zero k in grind (arith, nat_tests),
  λ all. let none = all (count_trailing_zeros 64 n) in grind (arith, nat_tests, has_lowest n p),
)
