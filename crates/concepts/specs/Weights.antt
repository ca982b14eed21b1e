-- The weight of a description: the size of the tree that its table stands for, however large. Assumes nothing.
use Rattle.std.specs.Prelude.{ℕ, ◌+◌, cond, ◌||◌, List, None, Option, slice_index, slice_index_or}
use Rattle.std.specs.Option.{unwrap_or}
use Rattle.concepts.specs.declared.node.Node.{Node}
use Rattle.concepts.specs.Tables.{is_and, is_all, is_at_least, is_at_most, is_entry, value}

-- the number of rows of the entry held at a place, if one is; a place past the list is not held
abbrev pub rows_at : List (Option ℕ) → ℕ → Option ℕ
rows_at held place = slice_index_or held place None

-- the weight of a node, from those of the nodes below it
abbrev pub node_weight : {K : Type 0} → List (Option ℕ) → List ℕ → Node K → ℕ
node_weight held below n =
    cond (is_and n) (1 + (slice_index below n.left + slice_index below n.right)) (
    cond (is_all n) (1 + slice_index below n.left) (
    cond (is_at_least n || is_at_most n) 2 (
    cond (is_entry n) (unwrap_or (rows_at held n.which) 0)
    1)))

-- the weight of the last node
abbrev pub weight : {K : Type 0} → List (Option ℕ) → List (Node K) → ℕ
weight held nodes = value (node_weight held) 0 nodes
