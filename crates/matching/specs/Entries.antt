-- What a line of a stock list says. Assumes nothing.
use Rattle.std.specs.Prelude.{◌≡◌, ℕ, List, [], ◌∷◌, length, ℤ, Some, None, Ok, Err, Result, ◌≢◌}
use Rattle.std.specs.Borrow.{Bor}
use Rattle.matching.specs.Texts.{Whole, Apart}
use Rattle.matching.specs.Words.{word_of, IsNumber, Codes}
use Rattle.matching.specs.declared.entry.Side.{Side}
use Rattle.matching.specs.declared.entry.Entry.{Entry}
use Rattle.matching.specs.declared.entry.Fault.{Fault}
use Rattle.matching.specs.declared.entry.Fault.TheVariants.{NotFiveWords, NoSide, NoLow, NoHigh, NoCodes}

-- the words of a line: side, name, low, high and codes
module _ (w n lo hi cs : List ℕ) where
  abbrev Sided : Type 0
  Sided = (s : Side) × (w ≡ word_of s)

  abbrev Numbered : List ℕ → Type 0
  Numbered t = (x : ℤ) × IsNumber t x

  -- a word that can't be read is reported where every word before it can
  abbrev pub Read : Result Entry Fault → Type 0
  Read (Ok e) =
      (w ≡ word_of e.side)
      × (e.name.now ≡ n)
      × IsNumber lo e.fit.first.low
      × IsNumber hi e.fit.first.high
      × Codes cs (Some e.fit.second)
  Read (Err NotFiveWords) = ⊥
  Read (Err NoSide) = Sided → ⊥
  Read (Err NoLow) = Sided × (Numbered lo → ⊥)
  Read (Err NoHigh) = Sided × Numbered lo × (Numbered hi → ⊥)
  Read (Err NoCodes) = Sided × Numbered lo × Numbered hi × Codes cs None

-- a line of five words is read word by word, and any other is refused
pub record Said (line : List ℕ) (r : Result Entry Fault) : Type 0 where
  pub words : List (Bor (List ℕ))
  pub whole : Whole 32 line words
  pub apart : Apart 32 words
  pub five : (w n lo hi cs : Bor (List ℕ)) → words ≡ w ∷ n ∷ lo ∷ hi ∷ cs ∷ [] → Read w.now n.now lo.now hi.now cs.now r
  pub other : (length words ≢ 5) → r ≡ Err NotFiveWords
