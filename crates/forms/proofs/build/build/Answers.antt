use Rattle.std.proofs.Common.{◌≡◌, ◌≤◌, length, sym, subst, rules}
use Rattle.std.specs.Option.{ok_or}
use Rattle.forms.specs.Built.{Answers}
use Rattle.forms.specs.declared.build.Unbuilt.TheVariants.{Contradictory}
use Rattle.forms.proofs.Answering.{answered}
use Rattle.forms.proofs.build.build.Goals as goal

pub returns : goal.returns
returns g c =
    let k = g.K.Kind.domain in
    let s = c.in_ok-source.source in
    let d = c.args.description.now in
    let room : 128 ≤ length c.form.new.out = search rules in
    let held : s.held.now ≡ d.held.now = search rules in
    let front : s.sheets.front.now ≡ c.args.sheets.front.now = search rules in
    let back : s.sheets.back.now ≡ c.args.sheets.back.now = search rules in
    let nodes : s.nodes.now ≡ d.nodes.now = search rules in
    let value : c.ok_or-2.result ≡ ok_or c.form.result Contradictory = search rules in
    record {
      answer = subst (λ r. Answers k d.held.now c.args.sheets.front.now c.args.sheets.back.now d.nodes.now c.form.new.out r) (sym value)
          (answered k c.form.new.out room s c.form.result held front back nodes c.form.ensures);
    }
