-- What a node of a source writes, by its op. Assumes nothing.
use Rattle.std.proofs.Common.{◌≡◌, ℕ, ◌<◌, List, [], true, length, get_or, unwrap_or}
use Rattle.std.proofs.lemmas.List.{get_or_default}
use Rattle.kinds.specs.Domain.{Domain}
use Rattle.concepts.specs.Tables.{values}
use Rattle.concepts.specs.WellFormed.{At}
use Rattle.concepts.specs.declared.node.Node.{Node}
use Rattle.rows.specs.declared.row.Row.{Row}
use Rattle.forms.specs.Labels.{silent}
use Rattle.forms.specs.Sheets.{plain_form, both_forms, under_form, form_of}
use Rattle.forms.specs.Seen.{Seen}
use Rattle.forms.specs.Sources.{holdings, written_by}
use Rattle.forms.specs.declared.label.Label.{Label as FoundLabel}
use Rattle.forms.specs.declared.source.Source.{Source}
use Rattle.forms.proofs.Sights.{seen_as, node_form_at, form_and, form_all, form_entry, node_open, entries_open}

module _ {R V : Type 0} (k : Domain R V) (e : Row R) (s : Source R) (i : ℕ) (r : Node R) (l : i < length s.nodes.now) where
  abbrev pub node : Node R
  node = get_or s.nodes.now i r

  module _ {π : List ℕ} {x : FoundLabel R} {roles : ℕ} where
    pub shows_node : Seen k (form_of k (holdings k e s) (values (form_of k (holdings k e s)) s.nodes.now) node) π x roles → Seen k (written_by k e s i) π x roles
    shows_node seen =
        let at : At s.nodes.now i node = (l, get_or_default s.nodes.now i r node l) in
        seen_as k (node_form_at k (holdings k e s) _ s.nodes.now s.fine.faultless _ node at) seen

    pub shows_and : node.op ≡ 4 → Seen k (both_forms k (written_by k e s node.left) (written_by k e s node.right)) π x roles → Seen k (written_by k e s i) π x roles
    shows_and is seen = shows_node (seen_as k (form_and k (holdings k e s) (values (form_of k (holdings k e s)) s.nodes.now) node is) seen)

    pub shows_all : node.op ≡ 5 → Seen k (under_form k node.which (written_by k e s node.left)) π x roles → Seen k (written_by k e s i) π x roles
    shows_all is seen = shows_node (seen_as k (form_all k (holdings k e s) (values (form_of k (holdings k e s)) s.nodes.now) node is) seen)

    pub shows_entry : node.op ≡ 8 → Seen k (unwrap_or (holdings k e s node.which) (plain_form k silent)) π x roles → Seen k (written_by k e s i) π x roles
    shows_entry is seen = shows_node (seen_as k (form_entry k (holdings k e s) (values (form_of k (holdings k e s)) s.nodes.now) node is) seen)

  -- what a node writes is written at the empty path
  pub written_open : (j : ℕ) → (written_by k e s j).on [] ≡ true
  written_open j = node_open k (holdings k e s) (entries_open k e s.held.now s.sheets.front.now s.sheets.back.now) s.nodes.now j
