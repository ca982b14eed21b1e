-- The finished form of a concept, by role paths: which paths have a row, in which order, and what stands in it. Assumes nothing.
use Rattle.std.specs.Prelude.{◌≡◌, ℕ, ◌<◌, Bool, true, false, ◌&&◌, ◌⊎◌, List, [], ◌∷◌, ◌++◌, Some}
use Rattle.kinds.specs.Domain.{Domain, Whole}
use Rattle.masks.specs.Masks.{has, None as NoMember}
use Rattle.concepts.specs.Concepts.{Concept}
use Rattle.forms.specs.Labels.{Label, writes, label}
use Rattle.rows.specs.Numbers.{Over}
use Rattle.rows.specs.Tables.{then_role, Topmost, Stands, Before}
use Rattle.rows.specs.declared.row.Row.{Row}

module _ {R V : Type 0} (k : Domain R V) where
  -- Over what is written at each path.
  module _ (f : List ℕ → Label V) where
    -- nothing can stand at this path
    pub data Dead : List ℕ → Type 0 where
      -- NOTHING is written there
      by_nothing : {π : List ℕ} → (f π).empty ≡ true → Dead π
      -- no reading is admitted there
      by_reading : {π : List ℕ} → ((v : V) → k.reads v ≡ true → (f π).admit v ≡ false) → Dead π
      -- some role is asked more of than it is allowed
      by_numbers : {π : List ℕ} (r : ℕ) → Over (f (then_role π r)).lower (f (then_role π r)).upper → Dead π
      -- some filler is asked for where nothing can stand
      by_filler : {π : List ℕ} (r : ℕ) → 0 < (f (then_role π r)).lower → Dead (then_role π r) → Dead π

    -- nothing is allowed at this path
    abbrev pub Shut : List ℕ → Type 0
    Shut π = ((f π).upper ≡ Some 0) ⊎ Dead π

    -- a role comes before the end of the path where nothing is allowed
    pub record Hidden (π : List ℕ) : Type 0 where
      pub first : ℕ
      pub front : List ℕ
      pub next : ℕ
      pub rest : List ℕ
      pub split : π ≡ (first ∷ front) ++ (next ∷ rest)
      pub shut : Shut (first ∷ front)

  -- a row with what is written at its path
  pub record Open (row : Row R) (l : Label V) : Type 0 where
    pub lower : row.lower ≡ l.lower
    pub upper : row.upper ≡ l.upper
    pub atoms : (m : ℕ) → has row.atoms m ≡ l.atom m
    pub restriction : (v : V) → k.admits row.restriction v ≡ (k.reads v && l.admit v)

  -- a row where nothing is allowed: no atoms, and every reading
  pub record Closed (row : Row R) (l : Label V) : Type 0 where
    pub lower : row.lower ≡ l.lower
    pub upper : row.upper ≡ Some 0
    pub atoms : NoMember row.atoms
    pub restriction : Whole k row.restriction

  -- Over what is written at each path, and which paths are written.
  module _ (f : List ℕ → Label V) (w : List ℕ → Bool) where
    -- what stands in the row of a path
    abbrev pub Content : Row R → List ℕ → Type 0
    Content row π = ((Shut f π → ⊥) × Open row (f π)) ⊎ (Shut f π × Closed row (f π))

    -- the first n rows are the finished form
    pub record FinishedBy (T : ℕ → Row R) (n : ℕ) : Type 0 where
      pub some : 0 < n
      -- row 0 hangs from nothing
      pub first : Topmost (T 0)
      -- something can stand at the empty path
      pub live : Dead f [] → ⊥
      -- each row but the first hangs from an earlier one
      pub parents : (c : ℕ) → 0 < c → c < n → (T c).parent < c
      -- rows stand in the order of their paths
      pub order : (b c : ℕ) (π ρ : List ℕ) → b < c → c < n → Stands T b π → Stands T c ρ → Before π ρ
      -- each row stands at a path that is written and that nothing hides
      pub written : (c : ℕ) (π : List ℕ) → c < n → Stands T c π → w π ≡ true
      pub seen : (c : ℕ) (π : List ℕ) → c < n → Stands T c π → Hidden f π → ⊥
      pub content : (c : ℕ) (π : List ℕ) → c < n → Stands T c π → Content (T c) π
      -- each such path has a row
      pub all : (π : List ℕ) → w π ≡ true → ((c : ℕ) × (c < n) × Stands T c π) ⊎ Hidden f π

  -- the first n rows are the finished form of a concept
  abbrev pub Finished : Concept R → (ℕ → Row R) → ℕ → Type 0
  Finished a T n = FinishedBy (label k a) (writes a) T n
