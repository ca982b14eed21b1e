use Rattle.forms.specs.Sources.{written}
use Rattle.forms.proofs.Walking.{turn_by}
use Rattle.forms.proofs.source.Source.turn.Goals as goal

pub returns : goal.returns
returns g c = λ e narrow.
    turn_by (written g.K.Kind.domain e c.args.self.now).on narrow c.args.path.now c.args.d c.at.result.roles c.bound.result c.lowest.result (c.at.ensures e).after c.bound.ensures c.lowest.ensures
