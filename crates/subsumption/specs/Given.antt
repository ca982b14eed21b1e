-- What one form gives at a path, and what a row of another asks there. Assumes nothing.
use Rattle.std.specs.Prelude.{◌≡◌, ℕ, ◌≤◌, Bool, true, false, Some, None, Option}
use Rattle.kinds.specs.Domain.{Domain}
use Rattle.masks.specs.Masks.{has}
use Rattle.rows.specs.Numbers.{Allows, ClosesOff}
use Rattle.rows.specs.declared.row.Row.{Row}
use Rattle.subsumption.specs.declared.gap.Match.{Match}
use Rattle.subsumption.specs.declared.gap.Match.TheVariants.{Passed}
use Rattle.subsumption.specs.declared.gap.Need.{Need}
use Rattle.subsumption.specs.declared.gap.Need.TheVariants.{Count, Atoms, Reading}

pub record Given (V : Type 0) : Type 0 where
  -- how many fillers there are, at least and at most
  pub lower : ℕ
  pub upper : Option ℕ
  -- the atoms that each has
  pub atom : ℕ → Bool
  -- the readings that they may have
  pub admit : V → Bool

-- v is a reading that is given, if any is
abbrev pub Sample : {V : Type 0} → Given V → V → Type 0
Sample {V} g v = (u : V) → g.admit u ≡ true → g.admit v ≡ true

module _ {R V : Type 0} (k : Domain R V) where
  -- by a row
  abbrev pub row_gives : Row R → Given V
  row_gives row = record { lower = row.lower; upper = row.upper; atom = λ x. has row.atoms x; admit = λ v. k.admits row.restriction v }

  -- by silence: any number of fillers, with no atoms and with any reading
  abbrev pub silent : Given V
  silent = record { lower = 0; upper = None; atom = λ _. false; admit = λ v. k.reads v }

  -- by a row of a form, if there is one
  abbrev pub gives : (ℕ → Row R) → Option ℕ → Given V
  gives P None = silent
  gives P (Some b) = row_gives (P b)

  -- every number of fillers that is given is one that the row allows
  abbrev pub Counted : Given V → Row R → Type 0
  Counted g q = (n : ℕ) → Allows g.lower g.upper n → Allows q.lower q.upper n

  -- no filler is given
  abbrev pub Shut : Given V → Type 0
  Shut g = ClosesOff g.lower g.upper

  -- the atoms that the row asks for are given
  abbrev pub Marked : Given V → Row R → Type 0
  Marked g q = (x : ℕ) → has q.atoms x ≡ true → g.atom x ≡ true

  -- the readings that are given are ones that the row admits
  abbrev pub Read : Given V → Row R → Type 0
  Read g q = (v : V) → g.admit v ≡ true → k.admits q.restriction v ≡ true

  -- v is a reading that is given and that the row does not admit, if there is any
  abbrev pub Outside : Given V → Row R → V → Type 0
  Outside g q v = (u : V) → g.admit u ≡ true → k.admits q.restriction u ≡ false → (g.admit v ≡ true) × (k.admits q.restriction v ≡ false)

  -- a row that asks for no more than is given, and where to go on: nowhere, where no filler is given
  pub data Met (g : Given V) (q : Row R) (here : Match) : Match → Type 0 where
    shut : Counted g q → Shut g → Met g q here Passed
    room : Counted g q → (Shut g → ⊥) → Marked g q → Read g q → Met g q here here

  -- what a row asks for that is not given
  pub data Lacks (g : Given V) (q : Row R) : Need → Type 0 where
    -- the least number of fillers that is given and that the row does not allow
    count : {x : ℕ} → Allows g.lower g.upper x → (Allows q.lower q.upper x → ⊥)
        → ((y : ℕ) → Allows g.lower g.upper y → (Allows q.lower q.upper y → ⊥) → x ≤ y) → Lacks g q (Count x)
    atoms : (Shut g → ⊥) → (Marked g q → ⊥) → Lacks g q Atoms
    reading : (Shut g → ⊥) → (Read g q → ⊥) → Lacks g q Reading
