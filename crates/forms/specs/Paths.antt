-- Role paths in an interpretation, and what it is for an element to have all that is written along them. Assumes nothing.
use Rattle.std.specs.Prelude.{◌≡◌, ℕ, ◌<◌, ◌≤◌, true, false, List, [], ◌∷◌, ◌++◌}
use Rattle.kinds.specs.Domain.{Domain}
use Rattle.concepts.specs.Interpretations.{Interpretation, how_many}
use Rattle.forms.specs.Labels.{Label}
use Rattle.rows.specs.Numbers.{Under}

module _ {R V : Type 0} {k : Domain R V} (y : Interpretation k) where
  -- j is reached from i along the roles of a path
  abbrev pub Along : ℕ → List ℕ → ℕ → Type 0
  Along i [] j = i ≡ j
  Along i (r ∷ π) j = (h : ℕ) × (h < y.size) × (y.filler i r h ≡ true) × Along h π j

  -- element j has what is written
  pub record Has (l : Label V) (j : ℕ) : Type 0 where
    pub full : l.empty ≡ false
    pub atoms : (m : ℕ) → l.atom m ≡ true → y.atom j m ≡ true
    pub reading : l.admit (y.reading j) ≡ true

  -- element j has as many fillers of a role as is written
  pub record Counts (l : Label V) (j r : ℕ) : Type 0 where
    pub enough : l.lower ≤ how_many (y.filler j r) y.size
    pub few : Under (how_many (y.filler j r) y.size) l.upper

  -- all that is written along the paths from i is so
  pub record Throughout (f : List ℕ → Label V) (i : ℕ) : Type 0 where
    pub there : (π : List ℕ) (j : ℕ) → Along i π j → Has (f π) j
    pub numbers : (π : List ℕ) (r j : ℕ) → Along i π j → Counts (f (π ++ (r ∷ []))) j r
