-- What is printed of a line that can't be read. Assumes nothing.
use Rattle.std.specs.Prelude.{ℕ, List, codes}
use Rattle.matching.specs.declared.entry.Fault.{Fault}
use Rattle.matching.specs.declared.entry.Fault.TheVariants.{NotFiveWords, NoSide, NoLow, NoHigh, NoCodes}

-- the text of a fault
abbrev pub text_of : Fault → List ℕ
text_of NotFiveWords = codes "not five words"
text_of NoSide = codes "neither shaft nor bore"
text_of NoLow = codes "the low diameter is no number"
text_of NoHigh = codes "the high diameter is no number"
text_of NoCodes = codes "the codes are no list of 0 to 63"
