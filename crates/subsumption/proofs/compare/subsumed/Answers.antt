use Rattle.rows.proofs.Clearing.{form_shaped}
use Rattle.subsumption.specs.Outcome.{matches_of}
use Rattle.subsumption.proofs.Deciding.{subsumes}
use Rattle.subsumption.proofs.compare.subsumed.Goals as goal

pub returns : goal.returns
returns g c = record {
  answer = subsumes g.K.Kind.domain c.args.p.now.rows.now c.args.q.now.rows.now (form_shaped c.args.p.now) (form_shaped c.args.q.now) (matches_of c.decide.new.matches)
      c.decide.result c.is_ok.result c.decide.ensures c.is_ok.ensures.value;
}
