use Rattle.std.proofs.Common.{◌<◌, length, IfSome, None, sym, ap, subst}
use Rattle.rows.specs.Tables.{rows_of}
use Rattle.rows.proofs.Clearing.{row_at}
use Rattle.subsumption.specs.Matches.{Reaches, Step, below_row, below_none, passed}
use Rattle.subsumption.specs.declared.gap.Match.TheVariants.{Passed}
use Rattle.subsumption.proofs.Comparing.{child_inside, child_moved, turned}
use Rattle.subsumption.proofs.decide.turn.Goals as goal

pub against_row-requires-in-At : goal.against_row-requires-in-At
against_row-requires-in-At g c =
    subst (λ zs. IfSome c.child-found.result (λ b. b < length zs)) c.rows.ensures.value
    (child_inside c.rows.result.now _ _ c.child-found.result c.rows.ensures.shaped.0 c.child-found.ensures.value)

pub returns-in-Passed : goal.returns-in-Passed
returns-in-Passed g c e =
    let ps = c.args.p.now.rows.now in
    subst (λ u. Step g.K.Kind.domain (rows_of e ps) (length ps) (rows_of e c.args.q.now.rows.now c.args.c) u Passed) (sym c.in-Passed.is) passed

pub returns-in-Absent : goal.returns-in-Absent
returns-in-Absent g c e =
    let k = g.K.Kind.domain in
    let P = rows_of e c.args.p.now.rows.now in
    let n = length c.args.p.now.rows.now in
    let q = rows_of e c.args.q.now.rows.now c.args.c in
    turned k q c.args.up P n None c.against_row.result
    (subst (λ u. Reaches k P n q.role u None) (sym c.in-Absent.is) below_none) (c.against_row.ensures e q (c.of-asked.ensures e))

pub returns-in-At : goal.returns-in-At
returns-in-At g c e =
    let k = g.K.Kind.domain in
    let ps = c.args.p.now.rows.now in
    let q = rows_of e c.args.q.now.rows.now c.args.c in
    let role = ap (λ r. r.role) (row_at c.rows-in-At.result.now c.args.q.now.rows.now c.args.c c.index-rows-c.result e c.rows-in-At.ensures.value c.requires) in
    let found = child_moved c.rows.result.now ps _ c.in-At.a _ q.role _ e c.rows.ensures.value c.from.ensures role (c.child-found.ensures.value e) in
    turned k q c.args.up (rows_of e ps) (length ps) _ c.against_row-in-At.result
    (subst (λ u. Reaches k (rows_of e ps) (length ps) q.role u c.child-found.result) (sym c.in-At.is) (below_row found)) (c.against_row-in-At.ensures e q (c.of-asked.ensures e))
