-- Which refusal a table of nodes gets, if any: the first of the checks, in their order, that declines it. Assumes nothing.
use Rattle.std.specs.Prelude.{ℕ, ◌+◌, Bool, cond, not, ◌&&◌, ◌||◌, List, [], ◌∷◌, ◌++◌, length, is_some, Some, None, Option, ◌==◌, nat_le, nat_lt}
use Rattle.concepts.specs.declared.node.Node.{Node}
use Rattle.concepts.specs.declared.refusal.Refusal.{Refusal}
use Rattle.concepts.specs.declared.refusal.Refusal.TheVariants.{Length, Op, Field, Operand, Entry, Weight}
use Rattle.concepts.specs.Tables.{is_prim, is_and, is_all, is_at_least, is_at_most, is_entry}
use Rattle.concepts.specs.Weights.{rows_at, weight}

-- a check: whether it declines, and how
abbrev pub Check : Type 0
Check = Bool × Refusal

-- the first of the checks that declines
abbrev pub first : List Check → Option Refusal
first [] = None
first (c ∷ cs) = cond c.0 (Some c.1) (first cs)

module _ {K : Type 0} where
  -- the ops are 0 to 8
  abbrev pub bad_op : Node K → Bool
  bad_op n = nat_lt 8 n.op

  -- roles are 0 to 15
  abbrev pub bad_role : Node K → Bool
  bad_role n = (is_all n || (is_at_least n || is_at_most n)) && nat_lt 15 n.which

  -- atoms are 0 to 63
  abbrev pub bad_atom : Node K → Bool
  bad_atom n = is_prim n && nat_lt 63 n.which

  -- counts are 0 to 999
  abbrev pub bad_count : Node K → Bool
  bad_count n = (is_at_least n || is_at_most n) && nat_lt 999 n.count

  -- a field that the op uses is out of range
  abbrev pub bad_field : Node K → Bool
  bad_field n = bad_role n || (bad_atom n || bad_count n)

  -- an operand of node i is the number of a lower node
  abbrev pub bad_left : ℕ → Node K → Bool
  bad_left i n = (is_and n || is_all n) && nat_le i n.left

  abbrev pub bad_right : ℕ → Node K → Bool
  bad_right i n = is_and n && nat_le i n.right

  abbrev pub bad_operand : ℕ → Node K → Bool
  bad_operand i n = bad_left i n || bad_right i n

  -- an ENTRY names a place that is held
  abbrev pub bad_entry : List (Option ℕ) → Node K → Bool
  bad_entry held n = is_entry n && not (is_some (rows_at held n.which))

  -- a table has 1 to 128 nodes
  abbrev pub bad_length : List (Node K) → Bool
  bad_length nodes = length nodes == 0 || nat_lt 128 (length nodes)

  -- the description weighs at most 128
  abbrev pub bad_weight : List (Option ℕ) → List (Node K) → Bool
  bad_weight held nodes = nat_lt 128 (weight held nodes)

  -- the checks of node i
  abbrev pub node_checks : List (Option ℕ) → ℕ → Node K → List Check
  node_checks held i n = (bad_op n, Op i) ∷ (bad_field n, Field i) ∷ (bad_operand i n, Operand i) ∷ (bad_entry held n, Entry i) ∷ []

  -- the checks of nodes that are numbered from i
  abbrev pub checks_from : List (Option ℕ) → ℕ → List (Node K) → List Check
  checks_from held i [] = []
  checks_from held i (n ∷ ns) = node_checks held i n ++ checks_from held (i + 1) ns

  -- every check of a table
  abbrev pub checks : List (Option ℕ) → List (Node K) → List Check
  checks held nodes = (bad_length nodes, Length) ∷ (checks_from held 0 nodes ++ ((bad_weight held nodes, Weight) ∷ []))

  -- the refusal that a table gets, if any
  abbrev pub refusal : List (Option ℕ) → List (Node K) → Option Refusal
  refusal held nodes = first (checks held nodes)

  -- no check declines
  abbrev pub passes : List (Option ℕ) → List (Node K) → Bool
  passes held nodes = not (is_some (refusal held nodes))
