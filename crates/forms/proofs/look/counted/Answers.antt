use Rattle.std.proofs.Common.{refl}
use Rattle.forms.specs.Sheets.{plain_form}
use Rattle.forms.proofs.Sights.{seen_under}
use Rattle.forms.proofs.look.counted.Goals as goal

pub returns-in-Some : goal.returns-in-Some
returns-in-Some g c l holds = seen_under g.K.Kind.domain (plain_form g.K.Kind.domain l) _ _ _ _ _ c.in-Some.ensures (c.plain.ensures l holds)

pub returns-in-None : goal.returns-in-None
returns-in-None g c l holds = c.beside.ensures (plain_form g.K.Kind.domain l) refl
