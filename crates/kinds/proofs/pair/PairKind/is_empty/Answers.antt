use Rattle.std.proofs.lemmas.Bool.Decides.{not_from_Decides}
use Rattle.kinds.proofs.Halves.{empty_second}
use Rattle.kinds.proofs.pair.PairKind.is_empty.Goals as goal

pub returns-else-is_empty : goal.returns-else-is_empty
returns-else-is_empty g c =
    let s = c.args.self.now in
    let some = not_from_Decides _ c.is_empty.ensures.law c.if-is_empty.false in
    record { law = empty_second (g.P.Kind.domain.admits s.first) (g.Q.Kind.domain.admits s.second) _ some c.is_empty-else-is_empty.ensures.law }
