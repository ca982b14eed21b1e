-- The values of the nodes of a table: one for each, and those of lower nodes stay as they are.
use Rattle.std.proofs.Common.{◌≡◌, ℕ, ◌+◌, ◌<◌, ◌≤◌, List, [], ◌∷◌, ◌++◌, length, get_or, take, drop, fold, sym, refl, ap, ◌∙◌, arith, length-append}
use Rattle.std.proofs.lemmas.List.{get_or_append_left, get_or_push, length-take-le, take-append-drop}
use Rattle.std.proofs.lemmas.List.Sums.{fold-append, fold_more}
use Rattle.concepts.specs.declared.node.Node.{Node}
use Rattle.concepts.specs.Tables.{values}

module _ {K A : Type 0} (step : List A → Node K → A) where
  -- one more value
  abbrev more : List A → Node K → List A
  more below n = below ++ (step below n ∷ [])

  length_folded : (vs : List A) (nodes : List (Node K)) → length (fold more vs nodes) ≡ length vs + length nodes
  length_folded vs [] = omega arith
  length_folded vs (n ∷ ns) = omega (arith, length_folded (more vs n) ns, length-append vs (step vs n ∷ []))

  -- there is a value for each node
  pub length_values : (nodes : List (Node K)) → length (values step nodes) ≡ length nodes
  length_values nodes = omega (arith, length_folded [] nodes)

  pub length_values_take : (nodes : List (Node K)) (i : ℕ) → i ≤ length nodes → length (values step (take i nodes)) ≡ i
  length_values_take nodes i l = length_values (take i nodes) ∙ length-take-le i nodes l

  -- one more node has one more value
  pub values_more : (nodes : List (Node K)) (i : ℕ) (n : Node K) → i < length nodes → n ≡ get_or nodes i n
      → values step (take (i + 1) nodes) ≡ values step (take i nodes) ++ (step (values step (take i nodes)) n ∷ [])
  values_more nodes i n l e = fold_more more [] nodes i n l ∙ ap (λ m. more (values step (take i nodes)) m) (sym e)

  folded_keeps : (vs : List A) (nodes : List (Node K)) (k : ℕ) (d : A) → k < length vs → get_or (fold more vs nodes) k d ≡ get_or vs k d
  folded_keeps vs [] k d l = refl
  folded_keeps vs (n ∷ ns) k d l =
      folded_keeps (more vs n) ns k d (omega (arith, length-append vs (step vs n ∷ []))) ∙ get_or_append_left vs (step vs n ∷ []) d k l

  -- the nodes from i on leave the values below i as they are
  pub values_below : (nodes : List (Node K)) (i k : ℕ) (d : A) → k < i → i ≤ length nodes
      → get_or (values step nodes) k d ≡ get_or (values step (take i nodes)) k d
  values_below nodes i k d l h =
      ap (λ ns. get_or (values step ns) k d) (sym (take-append-drop i nodes))
      ∙ (ap (λ vs. get_or vs k d) (fold-append more [] (take i nodes) (drop i nodes))
      ∙ folded_keeps (values step (take i nodes)) (drop i nodes) k d (omega (arith, length_values_take nodes i h)))

  -- the value of node i
  pub value_at : (nodes : List (Node K)) (i : ℕ) (n : Node K) (d : A) → i < length nodes → n ≡ get_or nodes i n
      → get_or (values step nodes) i d ≡ step (values step (take i nodes)) n
  value_at nodes i n d l e =
      let vs = values step (take i nodes) in
      values_below nodes (i + 1) i d (omega arith) (omega arith)
      ∙ (ap (λ xs. get_or xs i d) (values_more nodes i n l e) ∙ get_or_push vs (step vs n) d i (length_values_take nodes i (omega arith)))
