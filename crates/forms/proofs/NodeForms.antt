-- The form of each node of a table is alike the concept of the node, where those of the entries are. Assumes nothing.
use Rattle.std.proofs.Common.{◌≡◌, ℕ, zero, suc, ◌<◌, ◌≤◌, Bool, true, false, cond, ◌&&◌, ◌||◌, eqb, leb, ◌⊎◌, List, [], ◌∷◌, length, get_or, take, Some, None, Option, unwrap_or, refl, ◌∙◌, subst, inl, inr, ⊎_elim, arith}
use Rattle.std.proofs.lemmas.Bool.{cases_lt, leb-false, or_parts, and_cases, or_left, or_right, both_ways}
use Rattle.kinds.specs.Domain.{Domain}
use Rattle.concepts.specs.Concepts.{Concept, thing, nothing, prim, within, all, at_least, at_most}
use Rattle.concepts.specs.Checks.{bad_operand, bad_left, bad_right}
use Rattle.concepts.specs.Tables.{is_nothing, is_prim, is_within, is_and, is_all, is_at_least, is_at_most, is_entry, values, concept_of}
use Rattle.concepts.specs.WellFormed.{WellFormed}
use Rattle.concepts.specs.declared.node.Node.{Node}
use Rattle.concepts.proofs.Values.{value_at, values_below}
use Rattle.concepts.proofs.Verdicts.{element}
use Rattle.forms.specs.Labels.{Label, silent, here, under, writes, label}
use Rattle.forms.specs.Alike.{Alike, same, edge, hidden}
use Rattle.forms.specs.Sheets.{Form, concept_form, plain_form, below_role, under_form, form_of, node_form}
use Rattle.forms.proofs.Joining.{AlikeForms, like_refl, alike_both, alike_under}

-- The operands that a node uses are lower.
module _ {K : Type 0} (i : ℕ) (n : Node K) (fine : bad_operand i n ≡ false) where
  past : (t : Bool) (m : ℕ) → (t && leb i m) ≡ false → t ≡ true → m < i
  past t m e q = ⊎_elim (λ z. absurd (both_ways t z q)) (λ z. leb-false i m z) (and_cases t (leb i m) e)

  pub left_lower : (is_and n || is_all n) ≡ true → n.left < i
  left_lower e = past (is_and n || is_all n) n.left (or_parts (bad_left i n) (bad_right i n) fine).0 e

  pub right_lower : is_and n ≡ true → n.right < i
  right_lower e = past (is_and n) n.right (or_parts (bad_left i n) (bad_right i n) fine).1 e

module _ {R V : Type 0} (k : Domain R V) where
  -- what is written may be said in another way
  on_same : (f g : List ℕ → Label V) (w v u : List ℕ → Bool) (π : List ℕ) → v π ≡ u π → Alike k f g w v π → Alike k f g w u π
  on_same f g w v u π s (same h e) = same h (e ∙ s)
  on_same f g w v u π s (edge p q l e) = edge p q l (e ∙ s)
  on_same f g w v u π s (hidden p q) = hidden p q

  -- Each op.
  like_plain : (l : Label V) (w : List ℕ → Bool) → ((π : List ℕ) → writes {R = R} thing π ≡ w π) → AlikeForms k (plain_form k l) (record { at = here l; on = w })
  like_plain l w e π = same (like_refl k (here l π)) (e π)

  thing_alike : AlikeForms k (plain_form k silent) (concept_form k thing)
  thing_alike [] = same (like_refl k silent) refl
  thing_alike (r ∷ π) = same (like_refl k silent) refl

  on_nothing : (π : List ℕ) → writes {R = R} thing π ≡ writes {R = R} nothing π
  on_nothing [] = refl
  on_nothing (r ∷ π) = refl

  on_prim : (m : ℕ) (π : List ℕ) → writes {R = R} thing π ≡ writes {R = R} (prim m) π
  on_prim m [] = refl
  on_prim m (r ∷ π) = refl

  on_within : (x : R) (π : List ℕ) → writes {R = R} thing π ≡ writes (within x) π
  on_within x [] = refl
  on_within x (r ∷ π) = refl

  on_all : (s : ℕ) (a : Concept R) (π : List ℕ) → below_role k s (writes a) π ≡ writes (all s a) π
  on_all s a [] = refl
  on_all s a (r ∷ π) = refl

  and_end : (t : Bool) → (t && true) ≡ t
  and_end true = refl
  and_end false = refl

  and_no : (t : Bool) → (t && false) ≡ false
  and_no true = refl
  and_no false = refl

  on_at_least : (n s : ℕ) (π : List ℕ) → below_role k s (writes {R = R} thing) π ≡ writes {R = R} (at_least n s) π
  on_at_least n s [] = refl
  on_at_least n s (r ∷ []) = and_end (eqb r s)
  on_at_least n s (r ∷ t ∷ π) = and_no (eqb r s)

  on_at_most : (n s : ℕ) (π : List ℕ) → below_role k s (writes {R = R} thing) π ≡ writes {R = R} (at_most n s) π
  on_at_most n s [] = refl
  on_at_most n s (r ∷ []) = and_end (eqb r s)
  on_at_most n s (r ∷ t ∷ π) = and_no (eqb r s)

  all_alike : (s : ℕ) (F : Form V) (a : Concept R) → AlikeForms k F (concept_form k a) → AlikeForms k (under_form k s F) (concept_form k (all s a))
  all_alike s F a h π =
      on_same (under_form k s F).at (under s (label k a)) (under_form k s F).on (below_role k s (writes a)) (writes (all s a)) π (on_all s a π) (alike_under k s F (concept_form k a) h π)

  -- a test, and both its ways
  either : (t : Bool) (F G : Form V) (a b : Concept R) → (t ≡ true → AlikeForms k F (concept_form k a)) → (t ≡ false → AlikeForms k G (concept_form k b))
      → AlikeForms k (cond t F G) (concept_form k (cond t a b))
  either true F G a b p q = p refl
  either false F G a b p q = q refl

  -- a place holds nothing, or a concept and a form that is alike it
  abbrev pub HeldAlike : Option (Form V) → Option (Concept R) → Type 0
  HeldAlike o c = ((c ≡ None) × (o ≡ None)) ⊎ ((a : Concept R) × (F : Form V) × (c ≡ Some a) × (o ≡ Some F) × AlikeForms k F (concept_form k a))

  entry_alike : (o : Option (Form V)) (c : Option (Concept R)) → HeldAlike o c → AlikeForms k (unwrap_or o (plain_form k silent)) (concept_form k (unwrap_or c thing))
  entry_alike o c (inl e) = rw (e.0, e.1) thing_alike
  entry_alike o c (inr e) = rw (e.2, e.3) e.4

  module _ (S : ℕ → Option (Form V)) (E : ℕ → Option (Concept R)) (each : (p : ℕ) → HeldAlike (S p) (E p)) where
    -- a node's form is alike its concept if its operands' are
    node_alike : (i : ℕ) (n : Node R) (fs : List (Form V)) (cs : List (Concept R)) → bad_operand i n ≡ false
        → ((j : ℕ) → j < i → AlikeForms k (get_or fs j (plain_form k silent)) (concept_form k (get_or cs j thing)))
        → AlikeForms k (form_of k S fs n) (concept_form k (concept_of E cs n))
    node_alike i n fs cs fine low =
        either (is_nothing n) _ _ _ _ (λ e. like_plain _ _ on_nothing) (λ e.
        either (is_prim n) _ _ _ _ (λ e. like_plain _ _ (on_prim n.which)) (λ e.
        either (is_within n) _ _ _ _ (λ e. like_plain _ _ (on_within n.restriction)) (λ e.
        either (is_and n) _ _ _ _
        (λ e. alike_both k _ _ _ _ (low n.left (left_lower i n fine (or_left (is_and n) (is_all n) e))) (low n.right (right_lower i n fine e))) (λ e.
        either (is_all n) _ _ _ _ (λ e. all_alike n.which (get_or fs n.left (plain_form k silent)) (get_or cs n.left thing) (low n.left (left_lower i n fine (or_right (is_and n) (is_all n) e)))) (λ e.
        either (is_at_least n) _ _ _ _ (λ e π. same (like_refl k _) (on_at_least n.count n.which π)) (λ e.
        either (is_at_most n) _ _ _ _ (λ e π. same (like_refl k _) (on_at_most n.count n.which π)) (λ e.
        either (is_entry n) _ _ _ _ (λ e. entry_alike (S n.which) (E n.which) (each n.which)) (λ e. thing_alike))))))))

    module _ (held : List (Option ℕ)) (nodes : List (Node R)) (fine : WellFormed held nodes) where
      abbrev Good : ℕ → Type 0
      Good i = AlikeForms k (node_form k S nodes i) (concept_form k (get_or (values (concept_of E) nodes) i thing))

      next : (i : ℕ) → i < length nodes → ((j : ℕ) → j < i → Good j) → Good i
      next i l low =
          let x = element nodes i l in
          let n = x.0 in
          let fs = values (form_of k S) (take i nodes) in
          let cs = values (concept_of E) (take i nodes) in
          let operands : (j : ℕ) → j < i → AlikeForms k (get_or fs j (plain_form k silent)) (concept_form k (get_or cs j thing)) = λ j h.
          rw (← values_below (form_of k S) nodes i j (plain_form k silent) h (omega arith), ← values_below (concept_of E) nodes i j thing h (omega arith)) (low j h) in
          rw (value_at (form_of k S) nodes i n (plain_form k silent) l x.1, value_at (concept_of E) nodes i n thing l x.1)
          (node_alike i n fs cs (fine.faultless.operands i n (l, x.1)) operands)

      up_to : (m : ℕ) → m ≤ length nodes → (i : ℕ) → i < m → Good i
      up_to zero h i l = absurd (omega arith)
      up_to (suc m) h i l = elim (cases_lt i m) [
        | inl low ↦ up_to m (omega arith) i low
        | inr high ↦ (let q : m ≡ i = omega arith in subst (λ j. Good j) q (next m (omega arith) (up_to m (omega arith))))
      ]

      pub nodes_alike : (i : ℕ) → i < length nodes → AlikeForms k (node_form k S nodes i) (concept_form k (get_or (values (concept_of E) nodes) i thing))
      nodes_alike i l = up_to (length nodes) (omega arith) i l
