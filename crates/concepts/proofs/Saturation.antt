-- Weights that stop at 255 agree with the true ones up to there.
use Rattle.std.proofs.Common.{◌≡◌, ℕ, zero, suc, ◌+◌, ◌<◌, min, List, [], ◌∷◌, ◌++◌, length, get_or, take, set, replicate, Option, sym, refl, ap, ◌∙◌, arith}
use Rattle.std.proofs.lemmas.Bool.Decides.{nat_tests}
use Rattle.std.proofs.lemmas.Grind.{common_steps}
use Rattle.concepts.specs.declared.node.Node.{Node}
use Rattle.concepts.specs.Tables.{values}
use Rattle.concepts.specs.Weights.{node_weight}
use Rattle.concepts.proofs.Values.{length_values_take, values_more}

-- what stands in ws is what stands in vs, cut at 255
abbrev pub Saturated : List ℕ → List ℕ → Type 0
Saturated ws vs = (k : ℕ) → get_or ws k 0 ≡ min 255 (get_or vs k 0)

pub zeros : (n k : ℕ) → ◌≡◌ {A = ℕ} (get_or (replicate n 0) k 0) 0
zeros zero k = refl
zeros (suc n) zero = refl
zeros (suc n) (suc k) = zeros n k

-- a node weighs the same over cut weights, up to the cut
weight_cut : {K : Type 0} (held : List (Option ℕ)) (ws vs : List ℕ) (n : Node K) → Saturated ws vs
    → min 255 (node_weight held ws n) ≡ min 255 (node_weight held vs n)
weight_cut held ws vs n h =
    let left = h n.left in
    let right = h n.right in
    grind (arith, nat_tests)

saturated_push : (ws vs : List ℕ) (i w x : ℕ) → Saturated ws vs → length vs ≡ i → i < length ws → w ≡ min 255 x
    → Saturated (set ws i w) (vs ++ (x ∷ []))
saturated_push ws vs i w x h len l e k = let q = h k in grind (arith, common_steps)

-- the weights after one more node
pub saturated_more : {K : Type 0} (held : List (Option ℕ)) (nodes : List (Node K)) (ws : List ℕ) (i w : ℕ) (n : Node K)
    → Saturated ws (values (node_weight held) (take i nodes)) → i < length nodes → i < length ws → n ≡ get_or nodes i n
    → w ≡ min 255 (node_weight held ws n) → Saturated (set ws i w) (values (node_weight held) (take (i + 1) nodes))
saturated_more held nodes ws i w n h l room e is k =
    let vs = values (node_weight held) (take i nodes) in
    let len : length vs ≡ i = length_values_take (node_weight held) nodes i (omega arith) in
    saturated_push ws vs i w (node_weight held vs n) h len room (is ∙ weight_cut held ws vs n h) k
    ∙ ap (λ v. min 255 (get_or v k 0)) (sym (values_more (node_weight held) nodes i n l e))
