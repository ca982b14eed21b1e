-- From laid rows to the finished form of the concept. Assumes nothing.
use Rattle.std.proofs.Common.{◌≡◌, ℕ, ◌-◌, ◌<◌, ◌≤◌, Bool, true, false, List, [], length, Option, refl, ap, subst, inl, inr, ⊎_elim, arith}
use Rattle.std.specs.Option.{option_map}
use Rattle.kinds.specs.Domain.{Domain}
use Rattle.concepts.specs.declared.node.Node.{Node}
use Rattle.concepts.specs.Concepts.{Concept}
use Rattle.concepts.specs.Tables.{concept}
use Rattle.concepts.specs.Weights.{weight}
use Rattle.concepts.specs.WellFormed.{WellFormed}
use Rattle.forms.specs.Labels.{label, writes}
use Rattle.rows.specs.Tables.{rows_of}
use Rattle.forms.specs.Finished.{Dead, FinishedBy, Finished}
use Rattle.forms.specs.Sheets.{Form, sheet_form, concept_form}
use Rattle.forms.specs.Seen.{entries}
use Rattle.forms.specs.Few.{Few}
use Rattle.forms.specs.Keeping.{Keeps, Orderly}
use Rattle.forms.specs.Walks.{Proper, LaidOut, whole_form}
use Rattle.forms.specs.Blocks.{block_of}
use Rattle.rows.specs.declared.row.Row.{Row}
use Rattle.concepts.specs.Interpretations.{Model, Unsatisfiable}
use Rattle.forms.specs.Labels.{Label}
use Rattle.forms.specs.Built.{Readings, Formed}
use Rattle.forms.specs.Settling.{Ready, Comes}
use Rattle.rows.specs.Shapes.{Shape}
use Rattle.forms.specs.Stripping.{Finishes}
use Rattle.forms.proofs.Joining.{AlikeForms}
use Rattle.forms.proofs.Listing.{rows_few, rows_narrow}
use Rattle.forms.proofs.Meeting.{to_rows, from_rows}
use Rattle.forms.proofs.Models.{within_numbers, row_admits, model, readings_exist}
use Rattle.forms.proofs.Reading.{to, from}
use Rattle.forms.proofs.Shutting.{dead_bare}
use Rattle.forms.proofs.SheetForms.{sheet_alike}
use Rattle.forms.proofs.NodeForms.{HeldAlike, nodes_alike}
use Rattle.forms.proofs.RowBound.{SheetsHeld, rows_bound}
use Rattle.forms.proofs.Transfer.{finished_moves, root_moves}
use Rattle.forms.proofs.Wholes.{top_bare, rows_limited, quiet_whole, closing_whole}

module _ {R V : Type 0} (k : Domain R V) (e : Row R) (held : List (Option ℕ)) (front back : List (Row R)) (E : ℕ → Option (Concept R)) (nodes : List (Node R))
    (keeps : Keeps k e held front back E) (fine : WellFormed held nodes) where
  abbrev F : Form V
  F = whole_form k e held front back nodes

  abbrev a : Concept R
  a = concept E nodes

  held_alike : (p : ℕ) → HeldAlike k (entries k e held front back p) (E p)
  held_alike p = ⊎_elim
      (λ z. inl (z.0, ap (λ x. option_map (λ m. sheet_form k (rows_of e (block_of front back p)) m) x) z.1))
      (λ z. inr (
        z.0,
        sheet_form k (rows_of e (block_of front back p)) z.1,
        z.2,
        ap (λ x. option_map (λ m. sheet_form k (rows_of e (block_of front back p)) m) x) z.3,
        sheet_alike k z.0 (rows_of e (block_of front back p)) z.1 z.4.finished,
      ))
      (keeps p)

  whole_alike : AlikeForms k F (concept_form k a)
  whole_alike = nodes_alike k (entries k e held front back) E held_alike held nodes fine (length nodes - 1) (let s = fine.some in omega arith)

  pub whole_finished : (T : ℕ → Row R) (n : ℕ) → FinishedBy k F.at F.on T n → Finished k a T n
  whole_finished T n fin = finished_moves k F.at (label k a) F.on (writes a) whole_alike T n fin

  pub whole_dead : Dead k F.at [] → Dead k (label k a) []
  whole_dead d = root_moves k F.at (label k a) F.on (writes a) whole_alike d

  sheets_held : SheetsHeld k held (entries k e held front back)
  sheets_held p m h = ⊎_elim
      (λ z. absurd (let q : ◌≡◌ {A = ℕ} 0 1 = cc in omega arith))
      (λ z.
      let q : z.1 ≡ m = cc in
      (subst (λ x. 0 < x) q z.4.finished.some, (rows_of e (block_of front back p), ap (λ x. option_map (λ m. sheet_form k (rows_of e (block_of front back p)) m) x) h)))
      (keeps p)

  pub whole_few : Few F.on (weight held nodes)
  whole_few = rows_bound k held (entries k e held front back) sheets_held nodes fine (length nodes - 1) (let s = fine.some in omega arith)

  pub whole_proper : Proper F
  whole_proper = record { narrow = (quiet_whole k e held front back E nodes keeps fine).narrow; few = λ ps asc all. let l = fine.light in omega (arith, whole_few ps asc all) }

  -- the rows of a finished form are well formed where those held are
  shaped : (T : ℕ → Row R) (m : ℕ) → FinishedBy k F.at F.on T m → Finished k a T m → m ≤ weight held nodes → Orderly e held front back → Shape T m
  shaped T m by fin light orderly = record {
    some = by.some;
    few = let l = fine.light in omega arith;
    first = by.first;
    bare = top_bare k a T m fin;
    parents = by.parents;
    roles = rows_narrow F.on T m by.parents by.order by.written 16 whole_proper.narrow;
    numbers = within_numbers k (label k a) (writes a) T m fin;
    limits = rows_limited k F.at F.on T m by ((quiet_whole k e held front back E nodes keeps fine).limits orderly);
    order = by.order;
  }

  -- laid, settled and stripped rows are the finished form
  pub assembled : (T₀ T₁ T₂ : ℕ → Row R) (dead : ℕ → Bool) (n m : ℕ) → LaidOut k F T₀ dead n → ((f : List ℕ → Label V) (w : List ℕ → Bool) → Ready k f w T₀ n dead → Comes k f w T₁ n false)
      → Finishes k T₁ n T₂ m → Formed k a T₂ m × (m ≤ weight held nodes) × (Orderly e held front back → Shape T₂ m)
  assembled T₀ T₁ T₂ dead n m laid settled strips =
      let closing = closing_whole k e held front back E nodes keeps fine in
      let comes = settled F.at F.on (record { closing = closing; placed = laid.placed; filled = laid.filled; flagged = laid.flagged }) in
      let by = strips F.at F.on closing (comes.live refl) comes.placed (comes.settled refl) in
      let fin = whole_finished T₂ m by in
      let light = rows_few F.on T₂ m by.parents by.order by.written (weight held nodes) whole_few in (
        record {
          sheet = record { finished = fin; roles = rows_narrow F.on T₂ m by.parents by.order by.written 16 whole_proper.narrow };
          coherent = row_admits k (label k a) (writes a) T₂ m fin;
          met = λ y i l p. to_rows k a T₂ m fin y i l (to k y a i p);
          satisfied = λ y i l p. from k y a i (from_rows k a T₂ m fin y i p);
          model = model_of T₂ m fin;
          satisfiable = λ none. readings_exist k (label k a) (writes a) T₂ m fin (λ readings. none (model_of T₂ m fin readings));
        },
        light,
        shaped T₂ m by fin light,
      )
    where
      model_of : (T : ℕ → Row R) (m : ℕ) → Finished k a T m → Readings k T m → Model k a
      model_of T m fin readings =
          let x = model k (label k a) (writes a) T m fin readings in
          record { world = x.0; element = 0; inside = x.1; satisfied = from k x.0 a 0 (from_rows k a T m fin x.0 0 x.2) }

  pub refuted : (T₀ T₁ : ℕ → Row R) (dead : ℕ → Bool) (n : ℕ) → LaidOut k F T₀ dead n → ((f : List ℕ → Label V) (w : List ℕ → Bool) → Ready k f w T₀ n dead → Comes k f w T₁ n true)
      → Unsatisfiable k a
  refuted T₀ T₁ dead n laid settled m =
      let comes = settled F.at F.on (record { closing = closing_whole k e held front back E nodes keeps fine; placed = laid.placed; filled = laid.filled; flagged = laid.flagged }) in
      dead_bare k m.world (label k a) m.element m.inside (to k m.world a m.element m.satisfied) [] (whole_dead (comes.dead refl)) m.element refl
