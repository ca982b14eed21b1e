-- What is expected of the definitions: theorems, which the contracts of `facts` state.
use Rattle.std.specs.Prelude.{◌≡◌, ℕ, ◌<◌, ◌≤◌, true, false, ◌⊎◌, List, length, Some, None, Option, ◌≢◌, slice_index, slice_index_or}
use Rattle.kinds.specs.Domain.{Domain, Within}
use Rattle.concepts.specs.declared.node.Node.{Node}
use Rattle.concepts.specs.declared.refusal.Refusal.{Refusal}
use Rattle.concepts.specs.Concepts.{Concept, thing, nothing, prim, within, and, all, at_least, at_most}
use Rattle.concepts.specs.Interpretations.{Interpretation, Satisfies, Model, Exception, Subsumed, Included, Equivalent, Unsatisfiable}
use Rattle.concepts.specs.Tables.{is_entry, values, concept_of, concept}
use Rattle.concepts.specs.Weights.{node_weight, weight}
use Rattle.concepts.specs.Checks.{Check, first, passes}
use Rattle.concepts.specs.WellFormed.{At, Earliest, Faultless, WellFormed, size}

pub record ConceptFacts {R V : Type 0} (k : Domain R V) : Type 0 where
  -- satisfaction is decidable on a given interpretation
  pub decidable : (y : Interpretation k) (a : Concept R) (i : ℕ) → Satisfies k y a i ⊎ (Satisfies k y a i → ⊥)
  -- with no exception, each element is included, and the other way round
  pub included : (a b : Concept R) → Subsumed k a b → Included k a b
  pub subsumed : (a b : Concept R) → Included k a b → Subsumed k a b
  -- there are interpretations; atoms are apart; no count is a bound on the fillers of a role
  pub thing_satisfiable : Model k thing
  pub atoms_apart : (m n : ℕ) → (m ≢ n) → Exception k (prim m) (prim n)
  pub unbounded : (n r : ℕ) → Exception k thing (at_most n r)
  -- restrictions are subsumed as they lie within one another
  pub within_subsumed : (a b : R) → Within k a b → Subsumed k (within a) (within b)
  pub subsumed_within : (a b : R) → Subsumed k (within a) (within b) → Within k a b
  -- subsumption is reflexive and transitive
  pub reflexive : (a : Concept R) → Subsumed k a a
  pub transitive : (a b c : Concept R) → Subsumed k a b → Subsumed k b c → Subsumed k a c
  -- NOTHING is the least concept, THING the greatest
  pub least : (a : Concept R) → Subsumed k nothing a
  pub greatest : (a : Concept R) → Subsumed k a thing
  -- AND is the greatest lower bound
  pub lower_left : (a b : Concept R) → Subsumed k (and a b) a
  pub lower_right : (a b : Concept R) → Subsumed k (and a b) b
  pub greatest_lower : (a b c : Concept R) → Subsumed k c a → Subsumed k c b → Subsumed k c (and a b)
  -- a concept is unsatisfiable exactly when NOTHING subsumes it
  pub empty : (a : Concept R) → Unsatisfiable k a → Subsumed k a nothing
  pub only_empty : (a : Concept R) → Subsumed k a nothing → Unsatisfiable k a
  -- ALL is monotone, and distributes over AND
  pub all_monotone : (r : ℕ) (a b : Concept R) → Subsumed k a b → Subsumed k (all r a) (all r b)
  pub all_and : (r : ℕ) (a b : Concept R) → Equivalent k (all r (and a b)) (and (all r a) (all r b))
  pub all_thing : (r : ℕ) → Equivalent k (all r thing) thing
  pub all_nothing : (r : ℕ) → Equivalent k (all r nothing) (at_most 0 r)
  -- with no filler, all fillers satisfy anything
  pub none_all : (r : ℕ) (a : Concept R) → Subsumed k (at_most 0 r) (all r a)
  -- AT-LEAST falls and AT-MOST grows with the count
  pub at_least_zero : (r : ℕ) → Equivalent k (at_least 0 r) thing
  pub at_least_monotone : (m n r : ℕ) → m ≤ n → Subsumed k (at_least n r) (at_least m r)
  pub at_most_monotone : (m n r : ℕ) → m ≤ n → Subsumed k (at_most m r) (at_most n r)
  pub counts_clash : (m n r : ℕ) → m < n → Unsatisfiable k (and (at_least n r) (at_most m r))

-- K is the restrictions of a kind
pub record TableFacts (K : Type 0) : Type 0 where
  -- the refusal is that of the first check to decline
  pub earliest : (cs : List Check) (e : Refusal) → first cs ≡ Some e → Earliest cs e
  -- there is none exactly when no check declines
  pub none : (cs : List Check) → first cs ≡ None → (k : ℕ) (c : Check) → At cs k c → c.0 ≡ false
  pub only_none : (cs : List Check) → ((k : ℕ) (c : Check) → At cs k c → c.0 ≡ false) → first cs ≡ None
  -- a table passes exactly when it is well formed
  pub well_formed : (held : List (Option ℕ)) (nodes : List (Node K)) → passes held nodes ≡ true → WellFormed held nodes
  pub passing : (held : List (Option ℕ)) (nodes : List (Node K)) → WellFormed held nodes → passes held nodes ≡ true
  -- with no fault and no ENTRY, a table weighs what its concept has in size, however large: shared nodes count at each use
  pub size_weighs : (held : List (Option ℕ)) (nodes : List (Node K)) (entries : ℕ → Option (Concept K))
      → 0 < length nodes → Faultless held nodes → ((i : ℕ) (n : Node K) → At nodes i n → is_entry n ≡ false)
      → weight held nodes ≡ size (concept entries nodes)
  -- with no fault, each node stands for what its op makes of its operands, and so with its weight
  pub concept_at : (held : List (Option ℕ)) (nodes : List (Node K)) (entries : ℕ → Option (Concept K)) → Faultless held nodes
      → (i : ℕ) (n : Node K) → At nodes i n
      → slice_index_or (values (concept_of entries) nodes) i thing ≡ concept_of entries (values (concept_of entries) nodes) n
  pub weight_at : (held : List (Option ℕ)) (nodes : List (Node K)) → Faultless held nodes → (i : ℕ) (n : Node K) → At nodes i n
      → slice_index (values (node_weight held) nodes) i ≡ node_weight held (values (node_weight held) nodes) n
