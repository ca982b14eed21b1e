use Rattle.std.proofs.Common.{◌≡◌, ℕ, ◌<◌, ◌≤◌, length}
use Rattle.rows.specs.Shapes.{Shape, Shaped}
use Rattle.rows.specs.Tables.{rows_of}
use Rattle.rows.specs.declared.row.Row.{Row}
use Rattle.subsumption.specs.Matches.{Stops}
use Rattle.subsumption.specs.Outcome.{matches_of}
use Rattle.subsumption.specs.Slots.{force_of}
use Rattle.subsumption.specs.declared.gap.Need.{Need}
use Rattle.subsumption.proofs.Marking.{Marks}
use Rattle.subsumption.proofs.plan.mark_way.Given as goal

-- the rows of the way below row i are marked
abbrev pub invariant-loop-i : goal.invariant-loop-i
invariant-loop-i g l =
    (l.i ≤ l.c)
    × (length l.force ≡ 256)
    × ((e : Row g.row.K.Denot) (P : ℕ → Row g.row.K.Denot) (need : Need) (shaped : Shaped l.q.rows.now) (small : l.c < length l.q.rows.now) (shape : Shape P l.n)
    (stops : Stops g.K.Kind.domain P l.n (rows_of e l.q.rows.now) (matches_of l.matches) l.c (matches_of l.matches l.c) need)
    → Marks g.K.Kind.domain P l.n (rows_of e l.q.rows.now) (length l.q.rows.now) (matches_of l.matches) shape (shaped.1 e) l.c need small stops l.count l.i l.most (force_of l.force))

abbrev pub decreases-loop-i : goal.decreases-loop-i
decreases-loop-i g l = l.i
