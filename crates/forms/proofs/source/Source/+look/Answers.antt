use Rattle.std.proofs.Common.{◌≡◌, false, rules}
use Rattle.concepts.specs.Tables.{is_and, is_all, is_entry, values}
use Rattle.forms.specs.Sheets.{form_of}
use Rattle.forms.specs.Sources.{holdings, written_by}
use Rattle.forms.proofs.Looking.{node, shows_node, shows_and, shows_all, shows_entry, written_open}
use Rattle.forms.proofs.Sights.{seen_under}
use Rattle.forms.proofs.source.Source.+look.Goals as goal

pub returns-in-Some-And : goal.returns-in-Some-And
returns-in-Some-And g t c e =
    shows_and g.K.Kind.domain e c.args.self.now c.args.i c.index-self-i.result c.requires (search rules) (c.merged.ensures _ _ _ (c.look-left.ensures e) (c.look-right.ensures e))

pub returns-in-Some : goal.returns-in-Some
returns-in-Some g t c e =
    let k = g.K.Kind.domain in
    let s = c.args.self.now in
    let n = node k e s c.args.i c.index-self-i.result c.requires in
    shows_all k e s c.args.i c.index-self-i.result c.requires (search rules) (seen_under k (written_by k e s n.left) _ _ _ _ _ c.in-Some.ensures (c.look.ensures e))

pub returns-in-None : goal.returns-in-None
returns-in-None g t c e =
    let k = g.K.Kind.domain in
    let s = c.args.self.now in
    let n = node k e s c.args.i c.index-self-i.result c.requires in
    shows_all k e s c.args.i c.index-self-i.result c.requires (search rules)
    (c.beside.ensures (written_by k e s n.left) (written_open k e s c.args.i c.index-self-i.result c.requires n.left))

pub returns-in-Some-Entry : goal.returns-in-Some-Entry
returns-in-Some-Entry g t c e = shows_entry g.K.Kind.domain e c.args.self.now c.args.i c.index-self-i.result c.requires (search rules) (c.entry.ensures e)

pub returns-in_default : goal.returns-in_default
returns-in_default g t c e =
    let k = g.K.Kind.domain in
    let s = c.args.self.now in
    let n = node k e s c.args.i c.index-self-i.result c.requires in
    let p : is_and n ≡ false = search rules in
    let q : is_all n ≡ false = search rules in
    let u : is_entry n ≡ false = search rules in
    shows_node k e s c.args.i c.index-self-i.result c.requires (c.leaf.ensures (holdings k e s) (values (form_of k (holdings k e s)) s.nodes.now) p q u)
