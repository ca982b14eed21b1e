-- What is seen at a path of each form, from what is seen of its parts. Assumes nothing.
use Rattle.std.proofs.Common.{◌≡◌, ℕ, zero, suc, ◌<◌, Bool, true, false, cond, ◌&&◌, ◌||◌, eqb, ltb, List, [], ◌∷◌, ◌++◌, get_or, is_some, Some, None, fold, Option, unwrap_or, sym, refl, ap, ◌∙◌, subst, arith}
use Rattle.std.specs.Option.{option_map}
use Rattle.std.proofs.lemmas.Bool.{eq-eqb, cond-true, cond-false}
use Rattle.std.proofs.lemmas.Bool.Decides.{nat_tests}
use Rattle.kinds.specs.Domain.{Domain}
use Rattle.masks.specs.Masks.{has}
use Rattle.masks.proofs.Digits.{has_zero}
use Rattle.concepts.specs.Checks.{bad_operand}
use Rattle.concepts.specs.Tables.{is_nothing, is_prim, is_within, is_and, is_all, is_at_least, is_at_most, is_entry, values}
use Rattle.concepts.specs.WellFormed.{At, Faultless}
use Rattle.concepts.specs.declared.node.Node.{Node}
use Rattle.concepts.proofs.Values.{value_at, values_below}
use Rattle.forms.specs.Labels.{silent, bottom, an_atom, a_range, a_lower, an_upper}
use Rattle.rows.specs.Tables.{then_role}
use Rattle.forms.specs.Sheets.{Form, plain_form, both_forms, under_form, sheet_form, row_label, label_of, form_of, node_form, child, onward, find}
use Rattle.forms.specs.Seen.{Holds, Seen, entries}
use Rattle.forms.specs.declared.label.Label.{Label as FoundLabel}
use Rattle.rows.specs.declared.row.Row.{Row}
use Rattle.forms.proofs.Finding.{find_append}

and_no : (t : Bool) → false ≡ (t && false)
and_no true = refl
and_no false = refl

module _ {R V : Type 0} (k : Domain R V) where
  pub seen_as : {f g : Form V} {π : List ℕ} {x : FoundLabel R} {roles : ℕ} → f ≡ g → Seen k g π x roles → Seen k f π x roles
  seen_as {π = π} {x = x} {roles = roles} e seen = subst (λ h. Seen k h π x roles) (sym e) seen

  -- nothing is written at the path, and nothing after it
  pub seen_none : (f : Form V) (π : List ℕ) (x : FoundLabel R) (roles : ℕ) → f.at π ≡ silent → ((s : ℕ) → f.on (then_role π s) ≡ false)
      → Holds k x silent → roles ≡ 0 → Seen k f π x roles
  seen_none f π x roles at on holds none = record {
    label = subst (λ l. Holds k x l) (sym at) holds;
    after = λ s. ap (λ n. has n s) none ∙ has_zero s ∙ and_no (ltb s 64) ∙ ap (λ t. ltb s 64 && t) (sym (on s));
  }

  -- below a role, what is seen at the rest of the path
  under_rest : (f : Form V) (s : ℕ) (π : List ℕ) (x : FoundLabel R) (roles : ℕ) → Seen k f π x roles → Seen k (under_form k s f) (s ∷ π) x roles
  under_rest f s π x roles seen = record {
    label = subst (λ l. Holds k x l) (sym (cond-true (eqb s s) _ _ same)) seen.label;
    after = λ r. seen.after r ∙ ap (λ t. ltb r 64 && t) (sym (ap (λ t. t && f.on (then_role π r)) same));
  }
    where
      same : eqb s s ≡ true
      same = eq-eqb s s refl

  pub seen_under : (f : Form V) (s : ℕ) (rest π : List ℕ) (x : FoundLabel R) (roles : ℕ) → π ≡ s ∷ rest → Seen k f rest x roles → Seen k (under_form k s f) π x roles
  seen_under f s rest π x roles e seen = subst (λ ρ. Seen k (under_form k s f) ρ x roles) (sym e) (under_rest f s rest x roles seen)

  -- a sheet, at a path that leads to a row or to none
  module _ (T : ℕ → Row R) (n : ℕ) (π : List ℕ) (x : FoundLabel R) (roles : ℕ) where
    past : (o : Option ℕ) → is_some (onward (find T n []) o) ≡ is_some o
    past None = refl
    past (Some b) = refl

    pub seen_row : (c : ℕ) → Some c ≡ find T n π 0 → Holds k x (row_label k (T c)) → ((s : ℕ) → has roles s ≡ (ltb s 64 && is_some (child T n c s))) → Seen k (sheet_form k T n) π x roles
    seen_row c e holds below = record {
      label = subst (λ o. Holds k x (label_of k T o)) e holds;
      after = λ s. below s ∙ ap (λ t. ltb s 64 && t) (sym (ap is_some (find_append T n π (s ∷ []) 0 ∙ sym (ap (onward (find T n (s ∷ []))) e)) ∙ past (child T n c s)));
    }

    pub seen_no_row : None ≡ find T n π 0 → Holds k x silent → roles ≡ 0 → Seen k (sheet_form k T n) π x roles
    seen_no_row e holds none =
        seen_none (sheet_form k T n) π x roles (ap (label_of k T) (sym e)) (λ s. ap is_some (find_append T n π (s ∷ []) 0 ∙ sym (ap (onward (find T n (s ∷ []))) e))) holds none

  -- a place that is held, and one that is not
  pub seen_held : (o : Option ℕ) (F : ℕ → Form V) (m : ℕ) (π : List ℕ) (x : FoundLabel R) (roles : ℕ) → Some m ≡ o → Seen k (F m) π x roles → Seen k (unwrap_or (option_map F o) (plain_form k silent)) π x roles
  seen_held o F m π x roles e seen = subst (λ p. Seen k (unwrap_or (option_map F p) (plain_form k silent)) π x roles) e seen

  -- the form of a node, by its op
  module _ (S : ℕ → Option (Form V)) (fs : List (Form V)) (n : Node R) where
    pub form_nothing : n.op ≡ 1 → form_of k S fs n ≡ plain_form k bottom
    form_nothing q = rw q

    pub form_prim : n.op ≡ 2 → form_of k S fs n ≡ plain_form k (an_atom n.which)
    form_prim q = rw q

    pub form_within : n.op ≡ 3 → form_of k S fs n ≡ plain_form k (a_range k n.restriction)
    form_within q = rw q

    pub form_and : n.op ≡ 4 → form_of k S fs n ≡ both_forms k (get_or fs n.left (plain_form k silent)) (get_or fs n.right (plain_form k silent))
    form_and q = rw q

    pub form_all : n.op ≡ 5 → form_of k S fs n ≡ under_form k n.which (get_or fs n.left (plain_form k silent))
    form_all q = rw q

    pub form_at_least : n.op ≡ 6 → form_of k S fs n ≡ under_form k n.which (plain_form k (a_lower n.count))
    form_at_least q = rw q

    pub form_at_most : n.op ≡ 7 → form_of k S fs n ≡ under_form k n.which (plain_form k (an_upper n.count))
    form_at_most q = rw q

    pub form_entry : n.op ≡ 8 → form_of k S fs n ≡ unwrap_or (S n.which) (plain_form k silent)
    form_entry q = rw q

    pub form_thing : is_nothing n ≡ false → is_prim n ≡ false → is_within n ≡ false → is_and n ≡ false → is_all n ≡ false → is_at_least n ≡ false → is_at_most n ≡ false → is_entry n ≡ false
        → form_of k S fs n ≡ plain_form k silent
    form_thing a b c d e f g h =
        cond-false (is_nothing n) _ _ a ∙ cond-false (is_prim n) _ _ b ∙ cond-false (is_within n) _ _ c ∙ cond-false (is_and n) _ _ d ∙ cond-false (is_all n) _ _ e
        ∙ cond-false (is_at_least n) _ _ f ∙ cond-false (is_at_most n) _ _ g ∙ cond-false (is_entry n) _ _ h

  -- every form is written at the empty path
  abbrev Open : Form V → Type 0
  Open f = f.on [] ≡ true

  abbrev AllOpen : List (Form V) → Type 0
  AllOpen fs = (j : ℕ) → Open (get_or fs j (plain_form k silent))

  open_push : (fs : List (Form V)) (f : Form V) → AllOpen fs → Open f → AllOpen (fs ++ (f ∷ []))
  open_push [] f h p zero = p
  open_push [] f h p (suc j) = refl
  open_push (g ∷ fs) f h p zero = h 0
  open_push (g ∷ fs) f h p (suc j) = open_push fs f (λ i. h (suc i)) p j

  module _ (S : ℕ → Option (Form V)) (held : (p : ℕ) → Open (unwrap_or (S p) (plain_form k silent))) where
    open_cond : (t : Bool) (f g : Form V) → Open f → Open g → Open (cond t f g)
    open_cond true f g p q = p
    open_cond false f g p q = q

    open_node : (fs : List (Form V)) (n : Node R) → AllOpen fs → Open (form_of k S fs n)
    open_node fs n h =
        open_cond (is_nothing n) _ _ refl (
        open_cond (is_prim n) _ _ refl (
        open_cond (is_within n) _ _ refl (
        open_cond (is_and n) _ _ (ap (λ t. t || (get_or fs n.right (plain_form k silent)).on []) (h n.left)) (
        open_cond (is_all n) _ _ refl (
        open_cond (is_at_least n) _ _ refl (
        open_cond (is_at_most n) _ _ refl (
        open_cond (is_entry n) _ _ (held n.which) refl)))))))

    open_all : (fs : List (Form V)) (nodes : List (Node R)) → AllOpen fs → AllOpen (fold (λ below n. below ++ (form_of k S below n ∷ [])) fs nodes)
    open_all fs [] h = h
    open_all fs (n ∷ ns) h = open_all (fs ++ (form_of k S fs n ∷ [])) ns (open_push fs (form_of k S fs n) h (open_node fs n h))

    pub node_open : (nodes : List (Node R)) (i : ℕ) → Open (node_form k S nodes i)
    node_open nodes i = open_all [] nodes (λ j. refl) i

  -- a sheet too
  pub entries_open : (e : Row R) (held : List (Option ℕ)) (front back : List (Row R)) (p : ℕ) → Open (unwrap_or (entries k e held front back p) (plain_form k silent))
  entries_open e held front back p = go (get_or held p None) _
    where
      go : (o : Option ℕ) (T : ℕ → Row R) → Open (unwrap_or (option_map (λ m. sheet_form k T m) o) (plain_form k silent))
      go None T = refl
      go (Some m) T = refl

  -- the form of node i, from those of the nodes below it
  form_local : (S : ℕ → Option (Form V)) (i : ℕ) (n : Node R) (fs gs : List (Form V)) → bad_operand i n ≡ false
      → ((j : ℕ) → j < i → get_or fs j (plain_form k silent) ≡ get_or gs j (plain_form k silent)) → form_of k S fs n ≡ form_of k S gs n
  form_local S i n fs gs operand h =
      let left = h n.left in
      let right = h n.right in
      grind (arith, nat_tests)

  pub node_form_at : (S : ℕ → Option (Form V)) (held : List (Option ℕ)) (nodes : List (Node R)) → Faultless held nodes → (i : ℕ) (n : Node R) → At nodes i n
      → node_form k S nodes i ≡ form_of k S (values (form_of k S) nodes) n
  node_form_at S held nodes fine i n at =
      let l = at.0 in
      value_at (form_of k S) nodes i n (plain_form k silent) l at.1
      ∙ form_local S i n _ _ (fine.operands i n at) (λ j h. sym (values_below (form_of k S) nodes i j (plain_form k silent) h (omega arith)))
