-- What the words of a stock list mean. Assumes nothing.
use Rattle.std.specs.Prelude.{◌≡◌, ℕ, ◌<◌, List, length, ℤ, codes, Decides, Option, MatchOption, Result, MatchResult, FitsSigned, ◌≢◌, slice_index_or}
use Rattle.std.specs.Borrow.{Bor}
use Rattle.std.specs.Int.{w32}
use Rattle.std.specs.Str.Parse.{IsNumeral, digits_value, without_leading_plus, without_leading_sign, signed_digits_value}
use Rattle.masks.specs.Masks.{has}
use Rattle.kinds.specs.Domain.{Whole as AllReadings, Empty}
use Rattle.kinds.specs.Choices.{choice_domain}
use Rattle.kinds.specs.declared.choice.Choice.{Choice}
use Rattle.matching.specs.Texts.{Whole, Apart}
use Rattle.matching.specs.declared.entry.Side.{Side}
use Rattle.matching.specs.declared.entry.Side.TheVariants.{Shaft, Bore}
use Rattle.matching.specs.declared.entry.Fault.{Fault}
use Rattle.matching.specs.declared.entry.Fault.TheVariants.{NoSide}

-- o is that of which P holds, and None where it holds of nothing
abbrev pub Found : {X : Type 0} → (X → Type 0) → Option X → Type 0
Found {X} P o = MatchOption o ((x : X) → P x → ⊥) P

-- the word of a side
abbrev pub word_of : Side → List ℕ
word_of Shaft = codes "shaft"
word_of Bore = codes "bore"

-- r is the side whose word the text is, or `NoSide` where it is the word of none
abbrev pub NamesSide : List ℕ → Result Side Fault → Type 0
NamesSide text r = MatchResult r (λ s. text ≡ word_of s) (λ e. (e ≡ NoSide) × ((s : Side) → text ≢ word_of s))

-- decimal digits, after a plus or a minus or neither, that write n, and n has 32 bits
abbrev pub IsNumber : List ℕ → ℤ → Type 0
IsNumber text n = IsNumeral 10 (without_leading_sign text) × (n ≡ signed_digits_value 10 text) × FitsSigned w32 n

-- decimal digits, after a plus or nothing, that write k, and k is below 64
abbrev pub IsCode : List ℕ → ℕ → Type 0
IsCode text k = IsNumeral 10 (without_leading_plus text) × (k ≡ digits_value 10 (without_leading_plus text)) × (k < 64)

-- the piece i writes the code k
abbrev pub Writes : List (Bor (List ℕ)) → ℕ → ℕ → Type 0
Writes ps i k = (d : Bor (List ℕ)) → IsCode (slice_index_or ps i d).now k

-- each of the first n pieces writes a code, and the set has just these codes
pub record Listed (ps : List (Bor (List ℕ))) (n bits : ℕ) : Type 0 where
  pub each : (i : ℕ) → i < n → (k : ℕ) × Writes ps i k
  pub set : (k : ℕ) → Decides (has bits k) ((i : ℕ) × (i < n) × Writes ps i k)

-- some piece writes no code
abbrev pub Unlisted : List (Bor (List ℕ)) → Type 0
Unlisted ps = (i : ℕ) × (i < length ps) × ((k : ℕ) → Writes ps i k → ⊥)

-- the codes of a list whose pieces are ps
abbrev pub Collected : List (Bor (List ℕ)) → Option Choice → Type 0
Collected ps o = MatchOption o (Unlisted ps) (λ c. Listed ps (length ps) c.bits)

-- `any`, `none`, or codes with commas between them
pub record Codes (text : List ℕ) (o : Option Choice) : Type 0 where
  pub any : text ≡ codes "any" → MatchOption o ⊥ (AllReadings choice_domain)
  pub none : text ≡ codes "none" → MatchOption o ⊥ (Empty choice_domain)
  pub list : (text ≢ codes "any") → (text ≢ codes "none")
      → (ps : List (Bor (List ℕ))) × Whole 44 text ps × Apart 44 ps × Collected ps o
