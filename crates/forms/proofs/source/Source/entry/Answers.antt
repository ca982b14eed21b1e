use Rattle.std.proofs.Common.{length, take, sym, subst}
use Rattle.rows.specs.Tables.{rows_of}
use Rattle.forms.specs.Sheets.{sheet_form}
use Rattle.forms.specs.Seen.{Seen}
use Rattle.forms.specs.Blocks.{block_of}
use Rattle.forms.proofs.Prefixes.{seen_front}
use Rattle.forms.proofs.Sights.{seen_held}
use Rattle.forms.proofs.source.Source.entry.Goals as goal

pub returns-in-Some : goal.returns-in-Some
returns-in-Some g c e =
    let k = g.K.Kind.domain in
    let s = c.args.self.now in
    let xs = block_of s.sheets.front.now s.sheets.back.now c.args.place in
    let stock = s.stocked c.args.place c.in-Some.n (sym c.in-Some.ensures.value) in
    seen_held k _ (λ m. sheet_form k (rows_of e xs) m) c.in-Some.n _ _ _ c.in-Some.ensures.value
    (seen_front k xs c.in-Some.n e stock.1 stock.0 _ _ _
    (subst (λ ys. Seen k (sheet_form k (rows_of e (take c.in-Some.n ys)) (length (take c.in-Some.n ys))) c.args.path.now c.in_sheet.result.label c.in_sheet.result.roles) c.of.ensures.value (c.in_sheet.ensures e)))
