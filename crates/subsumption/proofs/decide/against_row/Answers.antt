use Rattle.std.proofs.Common.{ℕ, Option, sym, subst}
use Rattle.rows.specs.Tables.{rows_of}
use Rattle.subsumption.specs.Given.{row_gives, silent, gives}
use Rattle.subsumption.specs.Matches.{match_of}
use Rattle.subsumption.specs.Outcome.{Compares}
use Rattle.subsumption.proofs.Comparing.{asks_gives}
use Rattle.subsumption.proofs.decide.against_row.Goals as goal

pub returns-in-None : goal.returns-in-None
returns-in-None g c e q asks =
    let k = g.K.Kind.domain in
    let C : Option ℕ → Type 0 = λ o. Compares k (gives k (rows_of e c.args.p.now.rows.now) o) q (match_of o) c.against.result in
    subst C (sym c.in-None.is) (c.against.ensures (silent k) q c.silent.ensures asks)

pub returns-in-Some : goal.returns-in-Some
returns-in-Some g c e q asks =
    let k = g.K.Kind.domain in
    let P = rows_of e c.args.p.now.rows.now in
    let C : Option ℕ → Type 0 = λ o. Compares k (gives k P o) q (match_of o) c.against-in-Some.result in
    subst C (sym c.in-Some.is) (c.against-in-Some.ensures (row_gives k (P c.in-Some.b)) q (asks_gives k _ (P c.in-Some.b) (c.of.ensures e)) asks)
