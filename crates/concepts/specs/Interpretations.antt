-- Finite interpretations, what it is for an element of one to satisfy a concept, and what follows of concepts: the terms of the field.
use Rattle.std.specs.Prelude.{◌≡◌, ℕ, zero, suc, ◌+◌, ◌<◌, ◌≤◌, Bool, true, false}
use Rattle.kinds.specs.Domain.{Domain}
use Rattle.concepts.specs.Concepts.{Concept, thing, nothing, prim, within, and, all, at_least, at_most}

abbrev pub one_if : Bool → ℕ
one_if true = 1
one_if false = 0

-- how many numbers below n pass the test
unfoldable pub how_many : (ℕ → Bool) → ℕ → ℕ
how_many f zero = 0
how_many f (suc n) = how_many f n + one_if (f n)

-- A finite interpretation. Its elements are the numbers below its size, one or more.
pub record Interpretation {R V : Type 0} (k : Domain R V) : Type 0 where
  pub size : ℕ
  pub some : 0 < size
  -- whether an element has an atom: the element, the atom
  pub atom : ℕ → ℕ → Bool
  -- the reading of an element
  pub reading : ℕ → V
  pub reads : (i : ℕ) → i < size → k.reads (reading i) ≡ true
  -- whether an element is a filler of a role of another: element, role, filler
  pub filler : ℕ → ℕ → ℕ → Bool

module _ {R V : Type 0} (k : Domain R V) where
  -- element i of y satisfies the concept
  abbrev pub Satisfies : (y : Interpretation k) → Concept R → ℕ → Type 0
  Satisfies y thing i = Unit {0}
  Satisfies y nothing i = ⊥
  Satisfies y (prim m) i = y.atom i m ≡ true
  Satisfies y (within r) i = k.admits r (y.reading i) ≡ true
  Satisfies y (and a b) i = Satisfies y a i × Satisfies y b i
  Satisfies y (all r a) i = (j : ℕ) → j < y.size → y.filler i r j ≡ true → Satisfies y a j
  Satisfies y (at_least n r) i = n ≤ how_many (y.filler i r) y.size
  Satisfies y (at_most n r) i = how_many (y.filler i r) y.size ≤ n

  -- an element that satisfies a
  pub record Model (a : Concept R) : Type 0 where
    pub world : Interpretation k
    pub element : ℕ
    pub inside : element < world.size
    pub satisfied : Satisfies world a element

  -- an element that satisfies a and not b
  pub record Exception (a b : Concept R) : Type 0 where
    pub world : Interpretation k
    pub element : ℕ
    pub inside : element < world.size
    pub first : Satisfies world a element
    pub second : Satisfies world b element → ⊥

  -- no element of any interpretation satisfies a and not b
  abbrev pub Subsumed : Concept R → Concept R → Type 0
  Subsumed a b = Exception a b → ⊥

  -- the same, said of each element
  abbrev pub Included : Concept R → Concept R → Type 0
  Included a b = (y : Interpretation k) (i : ℕ) → i < y.size → Satisfies y a i → Satisfies y b i

  abbrev pub Equivalent : Concept R → Concept R → Type 0
  Equivalent a b = Subsumed a b × Subsumed b a

  abbrev pub Unsatisfiable : Concept R → Type 0
  Unsatisfiable a = Model a → ⊥
