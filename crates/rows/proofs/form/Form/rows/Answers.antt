use Rattle.rows.proofs.Clearing.{form_shaped}
use Rattle.rows.proofs.form.Form.rows.Goals as goal

pub returns-clause-shaped : goal.returns-clause-shaped
returns-clause-shaped g c = form_shaped c.args.self.now
