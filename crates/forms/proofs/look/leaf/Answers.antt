use Rattle.std.proofs.Common.{◌≡◌, false, rules}
use Rattle.concepts.specs.Tables.{is_nothing, is_prim, is_within, is_at_least, is_at_most}
use Rattle.forms.specs.Labels.{silent}
use Rattle.forms.specs.Labels.{bottom, an_atom, a_range, a_lower, an_upper}
use Rattle.forms.proofs.Sights.{seen_as, form_nothing, form_prim, form_within, form_at_least, form_at_most, form_thing}
use Rattle.forms.proofs.look.leaf.Goals as goal

pub returns-in-Some-Nothing : goal.returns-in-Some-Nothing
returns-in-Some-Nothing g c s fs a b d =
    let k = g.K.Kind.domain in
    let is : c.args.node.now.op ≡ 1 = search rules in
    seen_as k (form_nothing k s fs c.args.node.now is) (c.plain.ensures bottom c.nothing.ensures)

pub returns-in-Some-Prim : goal.returns-in-Some-Prim
returns-in-Some-Prim g c s fs a b d =
    let k = g.K.Kind.domain in
    let is : c.args.node.now.op ≡ 2 = search rules in
    let n = c.args.node.now in
    seen_as k (form_prim k s fs n is) (c.plain-in-Some-Prim.ensures (an_atom n.which) c.prim.ensures)

pub returns-in-Some-Within : goal.returns-in-Some-Within
returns-in-Some-Within g c s fs a b d =
    let k = g.K.Kind.domain in
    let is : c.args.node.now.op ≡ 3 = search rules in
    let n = c.args.node.now in
    seen_as k (form_within k s fs n is) (c.plain-in-Some-Within.ensures (a_range k n.restriction) c.within.ensures)

pub returns-in-Some-AtLeast : goal.returns-in-Some-AtLeast
returns-in-Some-AtLeast g c s fs a b d =
    let k = g.K.Kind.domain in
    let is : c.args.node.now.op ≡ 6 = search rules in
    let n = c.args.node.now in
    seen_as k (form_at_least k s fs n is) (c.counted.ensures (a_lower n.count) c.at_least.ensures)

pub returns-in-Some-AtMost : goal.returns-in-Some-AtMost
returns-in-Some-AtMost g c s fs a b d =
    let k = g.K.Kind.domain in
    let is : c.args.node.now.op ≡ 7 = search rules in
    let n = c.args.node.now in
    seen_as k (form_at_most k s fs n is) (c.counted-in-Some-AtMost.ensures (an_upper n.count) c.at_most.ensures)

pub returns-in_default : goal.returns-in_default
returns-in_default g c s fs a b d =
    let k = g.K.Kind.domain in
    let n = c.args.node.now in
    let p : is_nothing n ≡ false = search rules in
    let q : is_prim n ≡ false = search rules in
    let u : is_within n ≡ false = search rules in
    let v : is_at_least n ≡ false = search rules in
    let w : is_at_most n ≡ false = search rules in
    seen_as k (form_thing k s fs n p q u a b v w d) (c.plain-in_default.ensures silent c.silent.ensures)
