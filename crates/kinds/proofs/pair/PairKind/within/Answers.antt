use Rattle.std.proofs.lemmas.Bool.Decides.{not_from_Decides}
use Rattle.kinds.proofs.Halves.{within_second, within_first}
use Rattle.kinds.proofs.pair.PairKind.within.Goals as goal

pub returns-then-within : goal.returns-then-within
returns-then-within g c =
    let s = c.args.self.now in
    let o = c.args.other.now in
    let p = g.P.Kind.domain.admits in
    let q = g.Q.Kind.domain.admits in
    let some = not_from_Decides _ c.is_empty.ensures.law c.if-is_empty.false in
    record { law = within_second (p s.first) (p o.first) (q s.second) (q o.second) some _ (c.within.ensures.law.0 c.if-within.true) c.within-then-within.ensures.law }

pub returns-else-within : goal.returns-else-within
returns-else-within g c =
    let s = c.args.self.now in
    let o = c.args.other.now in
    let p = g.P.Kind.domain.admits in
    let q = g.Q.Kind.domain.admits in
    let some = not_from_Decides _ c.is_empty.ensures.law c.if-is_empty.false in
    record { law = within_first (p s.first) (p o.first) (q s.second) (q o.second) some c.within.result c.if-within.false (not_from_Decides _ c.within.ensures.law c.if-within.false) }
