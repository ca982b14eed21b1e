-- What building the form of a description gives. Assumes nothing.
use Rattle.std.specs.Prelude.{◌≡◌, ℕ, ◌<◌, ◌≤◌, true, List, length, Some, None, Option, Ok, Err, Result}
use Rattle.kinds.specs.Domain.{Domain}
use Rattle.concepts.specs.Concepts.{Concept}
use Rattle.concepts.specs.Interpretations.{Interpretation, Satisfies, Model, Unsatisfiable}
use Rattle.concepts.specs.Tables.{concept}
use Rattle.concepts.specs.Weights.{weight}
use Rattle.concepts.specs.declared.node.Node.{Node}
use Rattle.forms.specs.Keeping.{Sheet, Keeps, Orderly}
use Rattle.forms.specs.Seen.{Stocked}
use Rattle.rows.specs.Shapes.{Shape, Coherent}
use Rattle.rows.specs.Tables.{rows_of, Meets}
use Rattle.forms.specs.declared.build.Unbuilt.{Unbuilt}
use Rattle.forms.specs.declared.build.Unbuilt.TheVariants.{Contradictory, Unfit}
use Rattle.rows.specs.declared.row.Row.{Row}

module _ {R V : Type 0} (k : Domain R V) where
  -- a reading that each row admits
  abbrev pub Readings : (ℕ → Row R) → ℕ → Type 0
  Readings T n = (c : ℕ) → c < n → (v : V) × (k.admits (T c).restriction v ≡ true)

  -- n rows stand for the concept
  pub record Formed (a : Concept R) (T : ℕ → Row R) (n : ℕ) : Type 0 where
    -- they are its finished form
    pub sheet : Sheet k a T n
    -- and each of them admits a reading
    pub coherent : Coherent k T n
    -- an element meets them exactly when it satisfies the concept
    pub met : (y : Interpretation k) (i : ℕ) → i < y.size → Satisfies k y a i → Meets y T n 0 i
    pub satisfied : (y : Interpretation k) (i : ℕ) → i < y.size → Meets y T n 0 i → Satisfies k y a i
    -- and some element does: there is a model, made from a reading of each row
    pub model : Readings T n → Model k a
    pub satisfiable : Unsatisfiable k a → ⊥

  -- room for a form, and for each place that is held a block with its rows
  abbrev pub Fit : List (Option ℕ) → List (Row R) → List (Row R) → ℕ → Type 0
  Fit held front back room = (128 ≤ room) × Stocked held front back

  -- the rows left, or that nothing satisfies the concept, whatever concepts the sheets are the finished forms of. They are
  -- no more than the weight, and well formed where those held are.
  abbrev pub Forms : List (Option ℕ) → List (Row R) → List (Row R) → List (Node R) → List (Row R) → Option ℕ → Type 0
  Forms held front back nodes rows (Some n) =
      (e : Row R) (E : ℕ → Option (Concept R)) → Keeps k e held front back E → Formed (concept E nodes) (rows_of e rows) n × (n ≤ weight held nodes) × (Orderly e held front back → Shape (rows_of e rows) n)
  Forms held front back nodes rows None = (e : Row R) (E : ℕ → Option (Concept R)) → Keeps k e held front back E → Unsatisfiable k (concept E nodes)

  -- the answer: unfit exactly where there is no room or no block
  abbrev pub Answers : List (Option ℕ) → List (Row R) → List (Row R) → List (Node R) → List (Row R) → Result ℕ Unbuilt → Type 0
  Answers held front back nodes rows (Ok n) = Fit held front back (length rows) × Forms held front back nodes rows (Some n)
  Answers held front back nodes rows (Err Contradictory) = Fit held front back (length rows) × Forms held front back nodes rows None
  Answers held front back nodes rows (Err Unfit) = Fit held front back (length rows) → ⊥
