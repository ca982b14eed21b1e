-- The first rows of a slice lead where the slice does, and hold what it holds. Assumes nothing.
use Rattle.std.proofs.Common.{◌≡◌, ℕ, ◌<◌, ◌≤◌, ◌&&◌, ltb, List, [], ◌∷◌, length, take, is_some, Some, None, Option, refl, ap, ◌∙◌, subst}
use Rattle.std.proofs.lemmas.List.{get_or-take}
use Rattle.kinds.specs.Domain.{Domain}
use Rattle.rows.specs.Tables.{then_role, rows_of}
use Rattle.rows.proofs.Hanging.{child_front}
use Rattle.rows.specs.declared.row.Row.{Row}
use Rattle.forms.specs.Sheets.{onward, find, row_label, label_of, sheet_form}
use Rattle.forms.specs.Seen.{Holds, Seen}
use Rattle.forms.specs.declared.label.Label.{Label as FoundLabel}
use Rattle.forms.proofs.Finding.{find_below}

onward_same : {A : Type 0} (f g : ℕ → Option A) (o : Option ℕ) → ((c : ℕ) → f c ≡ g c) → onward f o ≡ onward g o
onward_same f g None h = refl
onward_same f g (Some c) h = h c

module _ {R : Type 0} (xs : List (Row R)) (n : ℕ) (e : Row R) (l : n ≤ length xs) where
  abbrev T : ℕ → Row R
  T = rows_of e xs

  abbrev U : ℕ → Row R
  U = rows_of e (take n xs)

  pub find_front : (π : List ℕ) (c : ℕ) → find U (length (take n xs)) π c ≡ find T n π c
  find_front [] c = refl
  find_front (r ∷ π) c =
      ap (onward (find U (length (take n xs)) π)) (child_front (λ x. (x.parent, x.role)) xs n c r e l) ∙ onward_same _ _ _ (find_front π)

module _ {R V : Type 0} (k : Domain R V) (xs : List (Row R)) (n : ℕ) (e : Row R) (l : n ≤ length xs) (some : 0 < n) where
  label_front : (π : List ℕ) (o : Option ℕ) → o ≡ find (rows_of e xs) n π 0 → label_of k (rows_of e (take n xs)) o ≡ label_of k (rows_of e xs) o
  label_front π None f = refl
  label_front π (Some c) f = ap (row_label k) (get_or-take n xs c e (find_below (rows_of e xs) n π c some f))

  pub seen_front : (π : List ℕ) (x : FoundLabel R) (roles : ℕ) → Seen k (sheet_form k (rows_of e (take n xs)) (length (take n xs))) π x roles → Seen k (sheet_form k (rows_of e xs) n) π x roles
  seen_front π x roles seen = record {
    label = subst (λ m. Holds k x m) (ap (label_of k (rows_of e (take n xs))) (find_front xs n e l π 0) ∙ label_front π _ refl) seen.label;
    after = λ s. seen.after s ∙ ap (λ o. ltb s 64 && is_some o) (find_front xs n e l (then_role π s) 0);
  }
