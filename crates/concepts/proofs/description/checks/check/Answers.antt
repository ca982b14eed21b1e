use Rattle.std.proofs.Common.{sym, ◌∙◌, rules}
use Rattle.std.proofs.lemmas.Result.{err_from_is_err_and}
use Rattle.concepts.proofs.Firsts.{left_found, left_past}
use Rattle.concepts.proofs.description.checks.check.Goals as goal

pub returns-in_err-check_node-clause-answer : goal.returns-in_err-check_node-clause-answer
returns-in_err-check_node-clause-answer g c =
    let p = err_from_is_err_and c.from_residual.result c.from_residual.ensures.1 in
    rw (p.1, p.2) (left_found _ _ _ _ _ c.loop-i-test.true c.index-nodes-i.is c.in_err-check_node.ensures ∙ sym c.loop-i.invariant)

pub loop-i-preserved : goal.loop-i-preserved
loop-i-preserved g c = search (rules, left_past)
