-- Concepts: what descriptions stand for. Assumes nothing.
use Rattle.std.specs.Prelude.{ℕ}

-- R is the restrictions of a kind
pub data Concept (R : Type 0) : Type 0 where
  -- every element
  thing : Concept R
  -- no element
  nothing : Concept R
  -- an atom
  prim : ℕ → Concept R
  -- a restriction on the reading
  within : R → Concept R
  and : Concept R → Concept R → Concept R
  -- a role, and what each of its fillers satisfies
  all : ℕ → Concept R → Concept R
  -- a count and a role
  at_least : ℕ → ℕ → Concept R
  at_most : ℕ → ℕ → Concept R
