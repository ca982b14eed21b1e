-- The first check that declines, along a list of checks.
use Rattle.std.proofs.Common.{◌≡◌, ℕ, ◌+◌, ◌<◌, List, [], ◌∷◌, ◌++◌, length, get_or, drop, Some, None, Option, sym, refl, ap, ◌∙◌, append_assoc, arith}
use Rattle.std.proofs.lemmas.List.{at_drop_more}
use Rattle.concepts.specs.declared.node.Node.{Node}
use Rattle.concepts.specs.declared.refusal.Refusal.{Refusal}
use Rattle.concepts.specs.declared.refusal.Refusal.TheVariants.{Weight}
use Rattle.concepts.specs.Checks.{Check, first, node_checks, checks_from, bad_weight}

-- a check that declines ends the search
pub first_found : (cs ds : List Check) (e : Refusal) → first cs ≡ Some e → first (cs ++ ds) ≡ Some e
first_found [] ds e h = cc
first_found (c ∷ cs) ds e h = grind (arith, first_found cs ds e)

-- checks that do not decline are passed over
pub first_past : (cs ds : List Check) → first cs ≡ None → first (cs ++ ds) ≡ first ds
first_past [] ds h = refl
first_past (c ∷ cs) ds h = grind (arith, first_past cs ds)

module _ {K : Type 0} (held : List (Option ℕ)) (nodes : List (Node K)) where
  -- the check of the weight, after those of the nodes
  abbrev pub weight_check : List Check
  weight_check = (bad_weight held nodes, Weight) ∷ []

  -- the checks that are left at node i
  abbrev pub left_at : ℕ → List Check
  left_at i = checks_from held i (drop i nodes) ++ weight_check

  -- they begin with those of node i
  left_more : (i : ℕ) (n : Node K) → i < length nodes → n ≡ get_or nodes i n → left_at i ≡ node_checks held i n ++ left_at (i + 1)
  left_more i n l e =
      at_drop_more (λ ns. checks_from held i ns ++ weight_check) nodes i n l
      ∙ rw (← e) (append_assoc (node_checks held i n) (checks_from held (i + 1) (drop (i + 1) nodes)) weight_check)

  pub left_found : (i : ℕ) (n : Node K) (e : Refusal) → i < length nodes → n ≡ get_or nodes i n → Some e ≡ first (node_checks held i n)
      → Some e ≡ first (left_at i)
  left_found i n e l is h = sym (ap first (left_more i n l is) ∙ first_found (node_checks held i n) (left_at (i + 1)) e (sym h))

  pub left_past : (i : ℕ) (n : Node K) → i < length nodes → n ≡ get_or nodes i n → None ≡ first (node_checks held i n)
      → first (left_at i) ≡ first (left_at (i + 1))
  left_past i n l is h = ap first (left_more i n l is) ∙ first_past (node_checks held i n) (left_at (i + 1)) (sym h)
