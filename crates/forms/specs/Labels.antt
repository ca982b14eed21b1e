-- What a concept writes at each role path. Assumes nothing.
use Rattle.std.specs.Prelude.{ℕ, min, max, Bool, true, false, cond, ◌&&◌, ◌||◌, List, [], ◌∷◌, Some, None, Option, ◌==◌}
use Rattle.kinds.specs.Domain.{Domain}
use Rattle.concepts.specs.Concepts.{Concept, thing, nothing, prim, within, and, all, at_least, at_most}

-- What is written at one path, all taken together.
pub record Label (V : Type 0) : Type 0 where
  -- NOTHING
  pub empty : Bool
  -- the atoms
  pub atom : ℕ → Bool
  -- the values that every restriction admits
  pub admit : V → Bool
  -- the largest AT-LEAST, or 0
  pub lower : ℕ
  -- the smallest AT-MOST, if any
  pub upper : Option ℕ

-- the smaller of two upper numbers
abbrev pub least : Option ℕ → Option ℕ → Option ℕ
least None b = b
least (Some u) None = Some u
least (Some u) (Some v) = Some (min u v)

module _ {V : Type 0} where
  -- nothing is written
  abbrev pub silent : Label V
  silent = record { empty = false; atom = λ _. false; admit = λ _. true; lower = 0; upper = None }

  -- both are written
  abbrev pub join : Label V → Label V → Label V
  join a b = record {
    empty = a.empty || b.empty;
    atom = λ m. a.atom m || b.atom m;
    admit = λ v. a.admit v && b.admit v;
    lower = max a.lower b.lower;
    upper = least a.upper b.upper;
  }

  -- a label at the empty path alone
  abbrev pub here : Label V → List ℕ → Label V
  here l [] = l
  here l (r ∷ π) = silent

  -- labels below a role
  abbrev pub under : ℕ → (List ℕ → Label V) → List ℕ → Label V
  under s f [] = silent
  under s f (r ∷ π) = cond (r == s) (f π) silent

-- a path is written: the empty one always, one that begins with a role where the concept speaks of its fillers
abbrev pub writes : {R : Type 0} → Concept R → List ℕ → Bool
writes thing [] = true
writes thing (r ∷ π) = false
writes nothing [] = true
writes nothing (r ∷ π) = false
writes (prim m) [] = true
writes (prim m) (r ∷ π) = false
writes (within v) [] = true
writes (within v) (r ∷ π) = false
writes (and a b) π = writes a π || writes b π
writes (all s a) [] = true
writes (all s a) (r ∷ π) = r == s && writes a π
writes (at_least n s) [] = true
writes (at_least n s) (r ∷ []) = r == s
writes (at_least n s) (r ∷ t ∷ π) = false
writes (at_most n s) [] = true
writes (at_most n s) (r ∷ []) = r == s
writes (at_most n s) (r ∷ t ∷ π) = false

-- The labels that single ops write.
module _ {V : Type 0} where
  -- NOTHING
  abbrev pub bottom : Label V
  bottom = record { empty = true; atom = λ _. false; admit = λ _. true; lower = 0; upper = None }

  -- PRIM
  abbrev pub an_atom : ℕ → Label V
  an_atom m = record { empty = false; atom = λ n. (n == m); admit = λ _. true; lower = 0; upper = None }

  -- WITHIN
  abbrev pub a_range : {R : Type 0} → Domain R V → R → Label V
  a_range k r = record { empty = false; atom = λ _. false; admit = λ v. k.admits r v; lower = 0; upper = None }

  -- AT-LEAST
  abbrev pub a_lower : ℕ → Label V
  a_lower n = record { empty = false; atom = λ _. false; admit = λ _. true; lower = n; upper = None }

  -- AT-MOST
  abbrev pub an_upper : ℕ → Label V
  an_upper n = record { empty = false; atom = λ _. false; admit = λ _. true; lower = 0; upper = Some n }

module _ {R V : Type 0} (k : Domain R V) where
  -- what a concept writes at a path
  abbrev pub label : Concept R → List ℕ → Label V
  label thing π = silent
  label nothing π = here bottom π
  label (prim m) π = here (an_atom m) π
  label (within r) π = here (a_range k r) π
  label (and a b) π = join (label a π) (label b π)
  label (all s a) π = under s (label a) π
  label (at_least n s) π = under s (here (a_lower n)) π
  label (at_most n s) π = under s (here (an_upper n)) π
