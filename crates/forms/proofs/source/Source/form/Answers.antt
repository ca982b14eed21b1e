use Rattle.std.proofs.Common.{arith}
use Rattle.forms.proofs.Cutting.{formed, unsatisfied}
use Rattle.forms.proofs.source.Source.form.Goals as goal

pub returns-else-settle : goal.returns-else-settle
returns-else-settle g c = λ e E keeps.
    let s = c.args.self.now in
    formed g.K.Kind.domain e s.held.now s.sheets.front.now s.sheets.back.now E s.nodes.now keeps s.fine
    c.lay-n.new.rows c.settle.new.rows c.lay-n.new.dead c.lay-n.result (omega arith) (c.lay-n.ensures.laid e) c.strip.new.rows _ c.strip.result (omega arith)
    c.if-settle.ensures c.strip.ensures.finished

pub returns-then-settle : goal.returns-then-settle
returns-then-settle g c = λ e E keeps.
    let s = c.args.self.now in
    unsatisfied g.K.Kind.domain e s.held.now s.sheets.front.now s.sheets.back.now E s.nodes.now keeps s.fine
    c.lay-n.new.rows c.settle.new.rows c.lay-n.new.dead c.lay-n.result (omega arith) (c.lay-n.ensures.laid e) c.if-settle.ensures
