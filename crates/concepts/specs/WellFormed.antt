-- Tables that pass, the first check to decline, and the size of a concept, in plain words. Assumes nothing.
use Rattle.std.specs.Prelude.{◌≡◌, ℕ, ◌+◌, ◌<◌, ◌≤◌, true, false, List, length, Option, slice_index_or}
use Rattle.concepts.specs.declared.node.Node.{Node}
use Rattle.concepts.specs.declared.refusal.Refusal.{Refusal}
use Rattle.concepts.specs.Concepts.{Concept, thing, nothing, prim, within, and, all, at_least, at_most}
use Rattle.concepts.specs.Weights.{weight}
use Rattle.concepts.specs.Checks.{Check, bad_op, bad_field, bad_operand, bad_entry}

-- x stands at place i
abbrev pub At : {X : Type 0} → List X → ℕ → X → Type 0
At xs i x = (i < length xs) × (x ≡ slice_index_or xs i x)

-- a check that declines with e, and none before it declines
pub record Earliest (cs : List Check) (e : Refusal) : Type 0 where
  pub place : ℕ
  pub check : Check
  pub here : At cs place check
  pub declines : check.0 ≡ true
  pub says : check.1 ≡ e
  pub before : (k : ℕ) (c : Check) → k < place → At cs k c → c.0 ≡ false

-- no node is at fault
pub record Faultless {K : Type 0} (held : List (Option ℕ)) (nodes : List (Node K)) : Type 0 where
  pub ops : (i : ℕ) (n : Node K) → At nodes i n → bad_op n ≡ false
  pub fields : (i : ℕ) (n : Node K) → At nodes i n → bad_field n ≡ false
  pub operands : (i : ℕ) (n : Node K) → At nodes i n → bad_operand i n ≡ false
  pub entries : (i : ℕ) (n : Node K) → At nodes i n → bad_entry held n ≡ false

-- 1 to 128 nodes, none at fault, of which the last weighs at most 128
pub record WellFormed {K : Type 0} (held : List (Option ℕ)) (nodes : List (Node K)) : Type 0 where
  pub some : 0 < length nodes
  pub few : length nodes ≤ 128
  pub faultless : Faultless held nodes
  pub light : weight held nodes ≤ 128

-- the size of a concept, where a count and its role are two
abbrev pub size : {R : Type 0} → Concept R → ℕ
size thing = 1
size nothing = 1
size (prim m) = 1
size (within r) = 1
size (and a b) = 1 + (size a + size b)
size (all r a) = 1 + size a
size (at_least n r) = 2
size (at_most n r) = 2
