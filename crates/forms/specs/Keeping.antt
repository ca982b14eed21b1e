-- What the places hold, as concepts and as rows. Assumes nothing.
use Rattle.std.specs.Prelude.{◌≡◌, ℕ, ◌<◌, ◌⊎◌, List, Some, None, Option}
use Rattle.kinds.specs.Domain.{Domain}
use Rattle.concepts.specs.Concepts.{Concept}
use Rattle.concepts.specs.Weights.{rows_at}
use Rattle.forms.specs.Blocks.{block_of}
use Rattle.forms.specs.Finished.{Finished}
use Rattle.rows.specs.Shapes.{Shape}
use Rattle.rows.specs.Tables.{rows_of}
use Rattle.rows.specs.declared.row.Row.{Row}

module _ {R V : Type 0} (k : Domain R V) where
  -- m rows are the finished form of a concept, with roles below 16
  pub record Sheet (a : Concept R) (T : ℕ → Row R) (m : ℕ) : Type 0 where
    pub finished : Finished k a T m
    pub roles : (c : ℕ) → 0 < c → c < m → (T c).role < 16

  -- at each place nothing is held, or a concept whose finished form stands in the place's block
  abbrev pub Keeps : Row R → List (Option ℕ) → List (Row R) → List (Row R) → (ℕ → Option (Concept R)) → Type 0
  Keeps e held front back E =
      (p : ℕ) → ((E p ≡ None) × (rows_at held p ≡ None)) ⊎ ((a : Concept R) × (m : ℕ) × (E p ≡ Some a) × (rows_at held p ≡ Some m) × Sheet a (rows_of e (block_of front back p)) m)

-- the rows of each place that is held are well formed
abbrev pub Orderly : {R : Type 0} → Row R → List (Option ℕ) → List (Row R) → List (Row R) → Type 0
Orderly e held front back = (p m : ℕ) → rows_at held p ≡ Some m → Shape (rows_of e (block_of front back p)) m
