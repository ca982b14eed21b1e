use Rattle.std.proofs.Common.{true, false, rules}
use Rattle.std.proofs.lemmas.Iterator.{first_from_Range}
use Rattle.rows.proofs.Hanging.{Tests, child_found}
use Rattle.rows.proofs.hung.child.Goals as goal

pub returns : goal.returns
returns g c =
    let xs = c.args.table.now in
    let first = first_from_Range _ _ _ _ (Tests g.T.Hung.hook xs c.args.c c.args.role true) (Tests g.T.Hung.hook xs c.args.c c.args.role false) c.find.ensures.ran
    (λ x q k. search rules) (λ x q k. search rules) in
    record { value = child_found g.T.Hung.hook xs c.args.c c.args.role _ _ c.find.result c.saturating_add.ensures (search rules) first }
