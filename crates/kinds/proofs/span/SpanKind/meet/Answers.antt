use Rattle.std.proofs.Common.{rules}
use Rattle.kinds.proofs.Ints.{met_by}
use Rattle.kinds.proofs.span.SpanKind.meet.Goals as goal

pub returns-clause-law : goal.returns-clause-law
returns-clause-law c =
    let a = c.args.self in
    let b = c.args.other in
    met_by a.low a.high b.low b.high _ _ (search rules) (search rules)
