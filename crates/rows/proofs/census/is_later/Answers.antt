use Rattle.std.proofs.Common.{rules}
use Rattle.rows.proofs.Tallying.{later_decided}
use Rattle.rows.proofs.census.is_later.Goals as goal

pub returns-then-group-le-MOST_HEADS : goal.returns-then-group-le-MOST_HEADS
returns-then-group-le-MOST_HEADS g c d =
    later_decided c.args.groups.now c.args.g c.requires c.index-groups-g.result c.index-groups-g.is d c.from-parent.result c.child.result c.is_none.result
    (search rules) (search rules) (search rules) (search rules) (search rules) (c.child.ensures.value d) c.is_none.ensures
