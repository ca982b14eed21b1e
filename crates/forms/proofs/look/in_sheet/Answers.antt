use Rattle.std.proofs.Common.{◌<◌, length, subst, arith}
use Rattle.std.proofs.lemmas.List.{get_or_read}
use Rattle.rows.specs.Tables.{rows_of}
use Rattle.forms.specs.Sheets.{row_label}
use Rattle.forms.specs.Seen.{Holds}
use Rattle.forms.proofs.Finding.{find_below}
use Rattle.forms.proofs.Sights.{seen_row, seen_no_row}
use Rattle.concepts.proofs.Verdicts.{element}
use Rattle.forms.proofs.look.in_sheet.Given as given
use Rattle.forms.proofs.look.in_sheet.Goals as goal

-- the row that is found is one of the rows
found : (g : given.Over) (c : goal.In-Some g) → c.in-Some.c < length c.args.rows.now
found g c =
    let x = (element c.args.rows.now 0 c.requires).0 in
    find_below (rows_of x c.args.rows.now) _ _ _ c.requires (c.in-Some.ensures x)

pub offset_bounds-rows-c : goal.offset_bounds-rows-c
offset_bounds-rows-c g c = omega (arith, found g c)

pub bounds-rows-c : goal.bounds-rows-c
bounds-rows-c g c = found g c

pub roles_below-requires : goal.roles_below-requires
roles_below-requires g c = find_below (rows_of c.index-rows-c.result c.args.rows.now) _ _ _ c.requires (c.in-Some.ensures c.index-rows-c.result)

pub returns-in-Some : goal.returns-in-Some
returns-in-Some g c e =
    let k = g.K.Kind.domain in
    let T = rows_of e c.args.rows.now in
    let below : c.in-Some.c < length c.args.rows.now = find_below T _ _ _ c.requires (c.in-Some.ensures e) in
    seen_row k T _ _ _ _ c.in-Some.c (c.in-Some.ensures e)
    (subst (λ x. Holds k c.from.result (row_label k x)) (get_or_read c.args.rows.now c.in-Some.c c.index-rows-c.result below c.index-rows-c.is e) c.from.ensures)
    (c.roles_below.ensures e)

pub returns-in-None : goal.returns-in-None
returns-in-None g c e = seen_no_row g.K.Kind.domain (rows_of e c.args.rows.now) _ _ _ _ (c.in-None.ensures e) c.unwritten.ensures.label c.unwritten.ensures.roles
