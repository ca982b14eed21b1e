use Rattle.std.proofs.Common.{◌∙◌}
use Rattle.rows.proofs.Clearing.{between_every}
use Rattle.rows.proofs.form.checks.follows.Goals as goal

pub returns : goal.returns
returns g c e = c.all_come_first.ensures ∙ between_every c.args.rows.now c.args.c c.requires.inside e c.index-rows-c.result c.from.result c.index-rows-c.is c.from.ensures
