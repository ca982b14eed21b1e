use Rattle.std.proofs.Common.{rules}
use Rattle.rows.proofs.Ranges.{closes_decided}
use Rattle.rows.proofs.bounds.Bounds.is_closed.Goals as goal

pub returns : goal.returns
returns c = record { value = search (rules, closes_decided) }
