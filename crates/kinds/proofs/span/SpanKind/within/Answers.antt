use Rattle.std.proofs.Common.{w32, SFits, rules}
use Rattle.std.proofs.lemmas.Int.{to_z-of_z}
use Rattle.std.proofs.lemmas.Bool.Decides.{not_from_Decides}
use Rattle.kinds.proofs.Ints.{filled, within_high, within_low}
use Rattle.kinds.proofs.span.SpanKind.within.Goals as goal

pub returns-then-other-self : goal.returns-then-other-self
returns-then-other-self c =
    let s = c.args.self.now in
    let o = c.args.other.now in
    let f : SFits w32 s.low = search rules in
    let g : SFits w32 s.high = search rules in
    let h : SFits w32 o.low = search rules in
    let k : SFits w32 o.high = search rules in
    let some = filled s.low s.high (not_from_Decides _ c.is_empty.ensures.law c.if-is_empty.false) in
    let low = simp to_z-of_z at c.if-other-self.true in
    record { law = simp to_z-of_z (within_high s.low s.high o.low o.high g some low) }

pub returns-else-other-self : goal.returns-else-other-self
returns-else-other-self c =
    let s = c.args.self.now in
    let o = c.args.other.now in
    let f : SFits w32 s.low = search rules in
    let h : SFits w32 o.low = search rules in
    let some = filled s.low s.high (not_from_Decides _ c.is_empty.ensures.law c.if-is_empty.false) in
    let low = simp to_z-of_z at c.if-other-self.false in
    record { law = simp to_z-of_z (within_low s.low s.high o.low o.high f some low) }
