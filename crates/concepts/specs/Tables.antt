-- Tables of nodes: what each node stands for, from what the nodes below it stand for. Assumes nothing.
use Rattle.std.specs.Prelude.{ℕ, ◌-◌, Bool, cond, List, [], ◌∷◌, ◌++◌, length, fold, Option, ◌==◌, slice_index_or}
use Rattle.std.specs.Option.{unwrap_or}
use Rattle.concepts.specs.declared.node.Node.{Node}
use Rattle.concepts.specs.Concepts.{Concept, thing, nothing, prim, within, and, all, at_least, at_most}

-- The ops by number. What is none of these is THING, 0, in a table that passes its checks.
module _ {K : Type 0} (n : Node K) where
  abbrev pub is_nothing : Bool
  is_nothing = n.op == 1

  abbrev pub is_prim : Bool
  is_prim = n.op == 2

  abbrev pub is_within : Bool
  is_within = n.op == 3

  abbrev pub is_and : Bool
  is_and = n.op == 4

  abbrev pub is_all : Bool
  is_all = n.op == 5

  abbrev pub is_at_least : Bool
  is_at_least = n.op == 6

  abbrev pub is_at_most : Bool
  is_at_most = n.op == 7

  abbrev pub is_entry : Bool
  is_entry = n.op == 8

-- the values of all nodes, where step gives the value of a node from those of the nodes below it
abbrev pub values : {K A : Type 0} → (List A → Node K → A) → List (Node K) → List A
values step nodes = fold (λ below n. below ++ (step below n ∷ [])) [] nodes

-- the value of the last node
abbrev pub value : {K A : Type 0} → (List A → Node K → A) → A → List (Node K) → A
value step d nodes = slice_index_or (values step nodes) (length nodes - 1) d

-- the concept of a node, from those of the nodes below it and those held at places
abbrev pub concept_of : {K : Type 0} → (ℕ → Option (Concept K)) → List (Concept K) → Node K → Concept K
concept_of entries below n =
    cond (is_nothing n) nothing (
    cond (is_prim n) (prim n.which) (
    cond (is_within n) (within n.restriction) (
    cond (is_and n) (and (slice_index_or below n.left thing) (slice_index_or below n.right thing)) (
    cond (is_all n) (all n.which (slice_index_or below n.left thing)) (
    cond (is_at_least n) (at_least n.count n.which) (
    cond (is_at_most n) (at_most n.count n.which) (
    cond (is_entry n) (unwrap_or (entries n.which) thing)
    thing)))))))

-- the concept that a table stands for, each ENTRY replaced by what is held there
abbrev pub concept : {K : Type 0} → (ℕ → Option (Concept K)) → List (Node K) → Concept K
concept entries nodes = value (concept_of entries) thing nodes
