-- What a table of nodes writes at each path, where ENTRY writes what a sheet of rows holds. Assumes nothing.
use Rattle.std.specs.Prelude.{ℕ, Bool, true, false, cond, ◌&&◌, ◌||◌, List, [], ◌∷◌, is_some, Some, None, Option, ◌==◌, slice_index_or}
use Rattle.std.specs.Option.{unwrap_or}
use Rattle.kinds.specs.Domain.{Domain}
use Rattle.masks.specs.Masks.{has}
use Rattle.concepts.specs.Concepts.{Concept, thing}
use Rattle.concepts.specs.Tables.{is_nothing, is_prim, is_within, is_and, is_all, is_at_least, is_at_most, is_entry, values}
use Rattle.concepts.specs.declared.node.Node.{Node}
use Rattle.forms.specs.Labels.{Label, silent, join, here, under, writes, bottom, an_atom, a_range, a_lower, an_upper, label}
use Rattle.rows.specs.Hanging.{Hook, child_in}
use Rattle.rows.specs.declared.row.Row.{Row}

-- what is written at each path, and which paths are written
pub record Form (V : Type 0) : Type 0 where
  pub at : List ℕ → Label V
  pub on : List ℕ → Bool

-- where the rows hang
abbrev pub hooks : {R : Type 0} → (ℕ → Row R) → ℕ → Hook
hooks T i = ((T i).parent, (T i).role)

-- the child of row c by the role r, among n rows: a later row
abbrev pub child : {R : Type 0} → (ℕ → Row R) → ℕ → ℕ → ℕ → Option ℕ
child T n c r = child_in (hooks T) n c r

-- the row that a path leads to
abbrev pub onward : {A : Type 0} → (ℕ → Option A) → Option ℕ → Option A
onward f None = None
onward f (Some c) = f c

abbrev pub find : {R : Type 0} → (ℕ → Row R) → ℕ → List ℕ → ℕ → Option ℕ
find T n [] c = Some c
find T n (r ∷ π) c = onward (find T n π) (child T n c r)

module _ {R V : Type 0} (k : Domain R V) where
  -- what a row holds
  abbrev pub row_label : Row R → Label V
  row_label row = record { empty = false; atom = λ m. has row.atoms m; admit = λ v. k.admits row.restriction v; lower = row.lower; upper = row.upper }

  abbrev pub label_of : (ℕ → Row R) → Option ℕ → Label V
  label_of T None = silent
  label_of T (Some c) = row_label (T c)

  -- what the first n rows hold
  abbrev pub sheet_form : (ℕ → Row R) → ℕ → Form V
  sheet_form T n = record { at = λ π. label_of T (find T n π 0); on = λ π. is_some (find T n π 0) }

  -- what a concept writes
  abbrev pub concept_form : Concept R → Form V
  concept_form a = record { at = label k a; on = writes a }

  -- nothing but a label at the empty path
  abbrev pub plain_form : Label V → Form V
  plain_form l = record { at = here l; on = writes {R = R} thing }

  abbrev pub both_forms : Form V → Form V → Form V
  both_forms f g = record { at = λ π. join (f.at π) (g.at π); on = λ π. f.on π || g.on π }

  -- a form below a role
  abbrev pub below_role : ℕ → (List ℕ → Bool) → List ℕ → Bool
  below_role s f [] = true
  below_role s f (r ∷ π) = r == s && f π

  abbrev pub under_form : ℕ → Form V → Form V
  under_form s f = record { at = under s f.at; on = below_role s f.on }

  -- the form of a node, from those of the nodes below it and those that places hold
  abbrev pub form_of : (ℕ → Option (Form V)) → List (Form V) → Node R → Form V
  form_of entries below n =
      cond (is_nothing n) (plain_form bottom) (
      cond (is_prim n) (plain_form (an_atom n.which)) (
      cond (is_within n) (plain_form (a_range k n.restriction)) (
      cond (is_and n) (both_forms (slice_index_or below n.left (plain_form silent)) (slice_index_or below n.right (plain_form silent))) (
      cond (is_all n) (under_form n.which (slice_index_or below n.left (plain_form silent))) (
      cond (is_at_least n) (under_form n.which (plain_form (a_lower n.count))) (
      cond (is_at_most n) (under_form n.which (plain_form (an_upper n.count))) (
      cond (is_entry n) (unwrap_or (entries n.which) (plain_form silent))
      (plain_form silent))))))))

  -- the form of node i of a table
  abbrev pub node_form : (ℕ → Option (Form V)) → List (Node R) → ℕ → Form V
  node_form entries nodes i = slice_index_or (values (form_of entries) nodes) i (plain_form silent)
