-- Tables that agree on their first rows: the one is laid out, or a finished form, where the other is. Assumes nothing.
use Rattle.std.proofs.Common.{◌≡◌, ℕ, ◌<◌, ◌≤◌, Bool, true, false, List, ◌++◌, length, take, Option, sym, subst, inl, inr, ⊎_elim, arith}
use Rattle.std.proofs.Math.ListN.{get_or-append}
use Rattle.std.proofs.lemmas.List.{get_or-take, length-take-le}
use Rattle.kinds.specs.Domain.{Domain}
use Rattle.concepts.specs.declared.node.Node.{Node}
use Rattle.concepts.specs.Concepts.{Concept}
use Rattle.concepts.specs.Interpretations.{Unsatisfiable}
use Rattle.concepts.specs.Tables.{concept}
use Rattle.concepts.specs.Weights.{weight}
use Rattle.concepts.specs.WellFormed.{WellFormed}
use Rattle.forms.specs.Built.{Formed}
use Rattle.forms.specs.Finished.{Open, Content, FinishedBy}
use Rattle.forms.specs.Keeping.{Keeps, Orderly}
use Rattle.rows.specs.Shapes.{Shape}
use Rattle.forms.specs.Labels.{Label}
use Rattle.forms.specs.Settling.{Settles}
use Rattle.forms.specs.Sheets.{Form}
use Rattle.forms.specs.Stripping.{Finishes, Strips}
use Rattle.forms.specs.Walks.{Proper, LaidOut, flags_of, whole_form}
use Rattle.rows.specs.Tables.{Topmost, Stands, rows_of}
use Rattle.rows.specs.declared.row.Row.{Row}
use Rattle.forms.proofs.Assembling.{assembled, refuted, whole_proper}
use Rattle.forms.proofs.Laying.{stands_agree}

module _ {R V : Type 0} (k : Domain R V) (A B : ℕ → Row R) (n : ℕ) (agree : (c : ℕ) → c < n → A c ≡ B c) where
  module _ (parents : (c : ℕ) → 0 < c → c < n → (A c).parent < c) where
    parents_agree : (c : ℕ) → 0 < c → c < n → (B c).parent < c
    parents_agree c z l = subst (λ (x : Row R). x.parent < c) (agree c l) (parents c z l)

    forth : (c : ℕ) (π : List ℕ) → c < n → Stands A c π → Stands B c π
    forth = stands_agree A B n agree parents

    back : (c : ℕ) (π : List ℕ) → c < n → Stands B c π → Stands A c π
    back = stands_agree B A n (λ c l. sym (agree c l)) parents_agree

  pub laid_agree : (F : Form V) (dead : ℕ → Bool) → LaidOut k F A dead n → LaidOut k F B dead n
  laid_agree F dead laid = let p = laid.placed.parents in record {
    placed = record {
      some = laid.placed.some;
      first = subst (λ (x : Row R). Topmost x) (agree 0 laid.placed.some) laid.placed.first;
      parents = parents_agree p;
      order = λ b c π ρ l u s t. laid.placed.order b c π ρ l u (back p b π (omega arith) s) (back p c ρ u t);
      written = λ c π l s. laid.placed.written c π l (back p c π l s);
      all = λ π e. let x = laid.placed.all π e in (x.0, x.1, forth p x.0 π x.1 x.2);
    };
    filled = λ c π l s. subst (λ (x : Row R). Open k x (F.at π)) (agree c l) (laid.filled c π l (back p c π l s));
    flagged = λ c π l s. laid.flagged c π l (back p c π l s);
  }

  pub finished_agree : (f : List ℕ → Label V) (w : List ℕ → Bool) → FinishedBy k f w A n → FinishedBy k f w B n
  finished_agree f w fin = let p = fin.parents in record {
    some = fin.some;
    first = subst (λ (x : Row R). Topmost x) (agree 0 fin.some) fin.first;
    live = fin.live;
    parents = parents_agree p;
    order = λ b c π ρ l u s t. fin.order b c π ρ l u (back p b π (omega arith) s) (back p c ρ u t);
    written = λ c π l s. fin.written c π l (back p c π l s);
    seen = λ c π l s. fin.seen c π l (back p c π l s);
    content = λ c π l s. subst (λ (x : Row R). Content k f w x π) (agree c l) (fin.content c π l (back p c π l s));
    all = λ π e. ⊎_elim (λ x. inl (x.0, x.1, forth p x.0 π x.1 x.2)) inr (fin.all π e);
  }

-- The rows xs are laid out, their first n settled to ys, and those stripped to zs.
module _ {R V : Type 0} (k : Domain R V) (e : Row R) (held : List (Option ℕ)) (front back : List (Row R)) (E : ℕ → Option (Concept R)) (nodes : List (Node R))
    (keeps : Keeps k e held front back E) (fine : WellFormed held nodes) (xs ys : List (Row R)) (ds : List Bool) (n : ℕ) (fits : n ≤ length xs)
    (laid : Proper (whole_form k e held front back nodes) → LaidOut k (whole_form k e held front back nodes) (rows_of e xs) (flags_of ds) n) where
  abbrev F : Form V
  F = whole_form k e held front back nodes

  cut : LaidOut k F (rows_of e (take n xs)) (flags_of ds) (length (take n xs))
  cut = subst (λ (x : ℕ). LaidOut k F (rows_of e (take n xs)) (flags_of ds) x) (sym (length-take-le n xs fits))
      (laid_agree k (rows_of e xs) (rows_of e (take n xs)) n (λ c l. sym (get_or-take n xs c e l)) F (flags_of ds) (laid (whole_proper k e held front back E nodes keeps fine)))

  pub formed : (zs rest : List (Row R)) (m : ℕ) → m ≤ length zs → Settles k (take n xs) (length (take n xs)) ds false ys → Strips k ys (length ys) zs m
      → Formed k (concept E nodes) (rows_of e (zs ++ rest)) m × (m ≤ weight held nodes) × (Orderly e held front back → Shape (rows_of e (zs ++ rest)) m)
  formed zs rest m few settles strips =
      assembled k e held front back E nodes keeps fine (rows_of e (take n xs)) (rows_of e ys) (rows_of e (zs ++ rest)) (flags_of ds) (length (take n xs)) m cut
      (settles.comes e)
      (λ f w closing live placed settled. finished_agree k (rows_of e zs) (rows_of e (zs ++ rest)) m (λ c l. sym (get_or-append zs rest e c (omega arith))) f w
      (subst (λ (x : ℕ). Finishes k (rows_of e ys) x (rows_of e zs) m) settles.size (strips e) f w closing live placed settled))

  pub unsatisfied : Settles k (take n xs) (length (take n xs)) ds true ys → Unsatisfiable k (concept E nodes)
  unsatisfied settles = refuted k e held front back E nodes keeps fine (rows_of e (take n xs)) (rows_of e ys) (flags_of ds) (length (take n xs)) cut (settles.comes e)
