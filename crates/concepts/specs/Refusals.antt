-- The number and the detail by which each refusal is reported.
use Rattle.std.specs.Prelude.{ℕ}
use Rattle.concepts.specs.declared.refusal.Refusal.{Refusal}
use Rattle.concepts.specs.declared.refusal.Refusal.TheVariants.{Place, Length, Op, Field, Operand, Entry, Weight, Contradiction, Same, NotHeld, Groups, Table, Card}
use Rattle.concepts.specs.declared.refusal.Named.TheVariants.{First, Second}

abbrev pub number_of : Refusal → ℕ
number_of Place = 1
number_of Length = 2
number_of (Op node) = 3
number_of (Field node) = 4
number_of (Operand node) = 5
number_of (Entry node) = 6
number_of Weight = 7
number_of Contradiction = 8
number_of (Same place) = 9
number_of (NotHeld named) = 10
number_of Groups = 11
number_of (Table group) = 12
number_of Card = 13

abbrev pub detail_of : Refusal → ℕ
detail_of Place = 0
detail_of Length = 0
detail_of (Op node) = node
detail_of (Field node) = node
detail_of (Operand node) = node
detail_of (Entry node) = node
detail_of Weight = 0
detail_of Contradiction = 0
detail_of (Same place) = place
detail_of (NotHeld First) = 1
detail_of (NotHeld Second) = 2
detail_of Groups = 0
detail_of (Table group) = group
detail_of Card = 0
