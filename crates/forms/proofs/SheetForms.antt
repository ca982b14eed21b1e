-- A sheet that is the finished form of a concept, read as a form, is alike the concept. Assumes nothing.
use Rattle.std.proofs.Common.{◌≡◌, ℕ, zero, suc, ◌<◌, true, ◌&&◌, List, [], ◌∷◌, ◌++◌, length, is_some, Some, None, Option, sym, refl, ap, ◌∙◌, subst, inl, inr, ⊎_elim, append_assoc, arith, length-append}
use Rattle.std.proofs.lemmas.Bool.{cases_Bool, cases_order}
use Rattle.kinds.specs.Domain.{Domain}
use Rattle.concepts.specs.Concepts.{Concept}
use Rattle.forms.specs.Labels.{Label, silent, writes, label}
use Rattle.rows.specs.Tables.{Stands}
use Rattle.forms.specs.Finished.{by_nothing, Shut, Hidden, Open, Closed, Finished}
use Rattle.forms.specs.Alike.{Like, Alike, same, edge, hidden}
use Rattle.forms.specs.Sheets.{Form, find, label_of, row_label, sheet_form, concept_form}
use Rattle.rows.specs.declared.row.Row.{Row}
use Rattle.forms.proofs.Unwritten.{unwritten, writes_front, root_upper}
use Rattle.forms.proofs.Finding.{find_stands, stands_find}
use Rattle.forms.proofs.Joining.{AlikeForms, like_refl}
use Rattle.rows.proofs.Standing.{not_before}

module _ {R V : Type 0} (k : Domain R V) (a : Concept R) (T : ℕ → Row R) (n : ℕ) (fin : Finished k a T n) where
  abbrev L : List ℕ → Label V
  L = label k a

  abbrev F : Form V
  F = sheet_form k T n

  abbrev At : List ℕ → Type 0
  At π = Alike k F.at L F.on (writes a) π

  -- no two rows stand at one path
  apart : (b c : ℕ) (π : List ℕ) → b < n → c < n → Stands T b π → Stands T c π → b ≡ c
  apart b c π l m s t = elim (cases_order b c) [
    | inl e ↦ e
    | inr (inl h) ↦ absurd (not_before π (fin.order b c π π h m s t))
    | inr (inr h) ↦ absurd (not_before π (fin.order c b π π h l t s))
  ]

  found : (c : ℕ) (π : List ℕ) → c < n → Stands T c π → find T n π 0 ≡ Some c
  found c π l s = stands_find T n fin.parents apart c π l s

  row_at : (c : ℕ) (π : List ℕ) → c < n → Stands T c π → F.at π ≡ row_label k (T c)
  row_at c π l s = ap (label_of k T) (found c π l s)

  row_on : (c : ℕ) (π : List ℕ) → c < n → Stands T c π → F.on π ≡ writes a π
  row_on c π l s = ap is_some (found c π l s) ∙ sym (fin.written c π l s)

  open_like : (row : Row R) (π : List ℕ) → (Shut k L π → ⊥) → Open k row (L π) → Like k (row_label k row) (L π)
  open_like row π alive o = record {
    empty = ⊎_elim (λ e. absurd (alive (inr (by_nothing e)))) (λ e. sym e) (cases_Bool (L π).empty);
    atom = o.atoms;
    admit = λ v e. o.restriction v ∙ ap (λ t. t && (L π).admit v) e;
    lower = o.lower;
    upper = o.upper;
  }

  -- a shut row allows nothing in the sheet too
  closed_shut : (c : ℕ) (π : List ℕ) → c < n → Stands T c π → Shut k L π → Shut k F.at π
  closed_shut c π l s shut = ⊎_elim
      (λ o. absurd (o.0 shut))
      (λ z. inl (ap (λ x. x.upper) (row_at c π l s) ∙ z.1.upper))
      (fin.content c π l s)

  closed_at : (c : ℕ) (π : List ℕ) → c < n → Stands T c π → Shut k L π → Closed k (T c) (L π) → At π
  closed_at c [] l s (inl e) z = absurd (let none = root_upper k a in let q : ◌≡◌ {A = ℕ} 0 1 = cc in omega arith)
  closed_at c [] l s (inr d) z = absurd (fin.live d)
  closed_at c (r ∷ π) l s shut z =
      edge (closed_shut c (r ∷ π) l s shut) shut (ap (λ x. x.lower) (row_at c (r ∷ π) l s) ∙ z.lower) (row_on c (r ∷ π) l s)

  at_row : (c : ℕ) (π : List ℕ) → c < n → Stands T c π → At π
  at_row c π l s = ⊎_elim
      (λ o. same (let P : Label V → Type 0 = λ x. Like k x (L π) in subst P (sym (row_at c π l s)) (open_like (T c) π o.0 o.1)) (row_on c π l s))
      (λ z. closed_at c π l s z.0 z.1)
      (fin.content c π l s)

  -- what hides a written path in the concept does so in the sheet: the first shut path on the way has a row
  hides : (m : ℕ) (π : List ℕ) (x : Hidden k L π) → length x.front < m → writes a π ≡ true → Hidden k F.at π
  hides zero π x len w = absurd (omega arith)
  hides (suc m) π x len w = ⊎_elim
      (λ y. record { first = x.first; front = x.front; next = x.next; rest = x.rest; split = x.split; shut = closed_shut y.0 (x.first ∷ x.front) y.1 y.2 x.shut })
      (λ y. hides m π (nearer y) (let e = ap length y.split in let f = length-append (y.first ∷ y.front) (y.next ∷ y.rest) in omega arith) w)
      (fin.all (x.first ∷ x.front) (writes_front a (x.first ∷ x.front) (x.next ∷ x.rest) (subst (λ ρ. writes a ρ ≡ true) x.split w)))
    where
      nearer : Hidden k L (x.first ∷ x.front) → Hidden k L π
      nearer y = record {
        first = y.first;
        front = y.front;
        next = y.next;
        rest = y.rest ++ (x.next ∷ x.rest);
        split = x.split ∙ ap (λ ρ. ρ ++ (x.next ∷ x.rest)) y.split ∙ append_assoc (y.first ∷ y.front) (y.next ∷ y.rest) (x.next ∷ x.rest);
        shut = y.shut;
      }

  -- a path with no row
  rowless : (π : List ℕ) → find T n π 0 ≡ None → At π
  rowless π e = ⊎_elim
      (λ w. ⊎_elim
      (λ y. at_row y.0 π y.1 y.2)
      (λ x. hidden (hides (suc (length x.front)) π x (omega arith) w) x)
      (fin.all π w))
      (λ w. same
      (let P : Label V → Type 0 = λ x. Like k (F.at π) x in
      let Q : Label V → Type 0 = λ x. Like k x silent in
      subst P (sym (unwritten k a π w)) (subst Q (sym (ap (label_of k T) e)) (like_refl k silent)))
      (ap is_some e ∙ sym w))
      (cases_Bool (writes a π))

  pub sheet_alike : AlikeForms k (sheet_form k T n) (concept_form k a)
  sheet_alike π = go (find T n π 0) refl
    where
      go : (o : Option ℕ) → find T n π 0 ≡ o → At π
      go None e = rowless π e
      go (Some c) e = let w = find_stands T n π c fin.some e in at_row c π w.0 w.1
