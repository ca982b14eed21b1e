-- How many paths are written. Assumes nothing.
use Rattle.std.specs.Prelude.{◌≡◌, ℕ, ◌≤◌, Bool, true, List, [], ◌∷◌, length}
use Rattle.std.specs.List.{AllByRecursion}
use Rattle.rows.specs.Tables.{Before}

-- each element stands in Q to all later ones
abbrev pub Pairs : {X : Type 0} → (X → X → Type 0) → List X → Type 0
Pairs Q [] = Unit {0}
Pairs Q (x ∷ xs) = AllByRecursion (Q x) xs × Pairs Q xs

-- paths in their order, no two the same
abbrev pub Ascends : List (List ℕ) → Type 0
Ascends ps = Pairs Before ps

-- at most m paths are written
abbrev pub Few : (List ℕ → Bool) → ℕ → Type 0
Few w m = (ps : List (List ℕ)) → Ascends ps → AllByRecursion (λ p. w p ≡ true) ps → length ps ≤ m
