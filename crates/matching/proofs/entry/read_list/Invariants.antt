use Rattle.std.proofs.Common.{◌≤◌, length}
use Rattle.matching.specs.Words.{Listed}
use Rattle.matching.proofs.entry.read_list.Given as goal

abbrev pub invariant-loop-text : goal.invariant-loop-text
invariant-loop-text l = (l.text-index ≤ length l.list) × Listed l.list l.text-index l.bits
