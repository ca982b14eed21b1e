-- The answer of a building, from how many rows are left. Assumes nothing.
use Rattle.std.proofs.Common.{◌≡◌, ℕ, ◌≤◌, List, length, Some, None, Option, subst}
use Rattle.std.specs.Option.{ok_or}
use Rattle.kinds.specs.Domain.{Domain}
use Rattle.concepts.specs.declared.node.Node.{Node}
use Rattle.rows.specs.declared.row.Row.{Row}
use Rattle.forms.specs.Built.{Fit, Forms, Answers}
use Rattle.forms.specs.declared.build.Unbuilt.TheVariants.{Contradictory}
use Rattle.forms.specs.declared.source.Source.{Source}

module _ {R V : Type 0} (k : Domain R V) (rows : List (Row R)) (room : 128 ≤ length rows) where
  answers : (held : List (Option ℕ)) (front back : List (Row R)) (nodes : List (Node R)) (o : Option ℕ) → Fit k held front back (length rows) → Forms k held front back nodes rows o
      → Answers k held front back nodes rows (ok_or o Contradictory)
  answers held front back nodes None fit forms = (fit, forms)
  answers held front back nodes (Some n) fit forms = (fit, forms)

  pub answered : (s : Source R) {held : List (Option ℕ)} {front back : List (Row R)} {nodes : List (Node R)} (o : Option ℕ)
      → s.held.now ≡ held → s.sheets.front.now ≡ front → s.sheets.back.now ≡ back → s.nodes.now ≡ nodes → Forms k s.held.now s.sheets.front.now s.sheets.back.now s.nodes.now rows o
      → Answers k held front back nodes rows (ok_or o Contradictory)
  answered s {held = held} {front = front} {back = back} {nodes = nodes} o p q r t forms =
      let a = answers s.held.now s.sheets.front.now s.sheets.back.now s.nodes.now o (room, s.stocked) forms in
      let b = subst (λ x. Answers k x s.sheets.front.now s.sheets.back.now s.nodes.now rows (ok_or o Contradictory)) p a in
      let c = subst (λ x. Answers k held x s.sheets.back.now s.nodes.now rows (ok_or o Contradictory)) q b in
      let d = subst (λ x. Answers k held front x s.nodes.now rows (ok_or o Contradictory)) r c in
      subst (λ x. Answers k held front back x rows (ok_or o Contradictory)) t d
