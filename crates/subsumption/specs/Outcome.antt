-- What comparing one row with another, and going through all rows, comes to. Assumes nothing.
use Rattle.std.specs.Prelude.{◌≡◌, ℕ, ◌<◌, List, Ok, Err, Option, Result, slice_index_or}
use Rattle.kinds.specs.Domain.{Domain}
use Rattle.rows.specs.declared.row.Row.{Row}
use Rattle.subsumption.specs.Given.{Given, gives, Met, Lacks}
use Rattle.subsumption.specs.Matches.{match_of, Reaches, Step, Matched, Stops}
use Rattle.subsumption.specs.declared.gap.Gap.{Gap}
use Rattle.subsumption.specs.declared.gap.Match.{Match}
use Rattle.subsumption.specs.declared.gap.Match.TheVariants.{At}
use Rattle.subsumption.specs.declared.gap.Short.{Short}

-- the matches of a slice
abbrev pub matches_of : List Match → ℕ → Match
matches_of ms i = slice_index_or ms i (At 0)

module _ {R V : Type 0} (k : Domain R V) where
  -- of one row, where `here` is its match
  abbrev pub Compares : Given V → Row R → Match → Result Match Gap → Type 0
  Compares g q here (Ok w) = Met k g q here w
  Compares g q here (Err gap) = (gap.here ≡ here) × Lacks k g q gap.need

  -- of one row, from the match of its parent
  abbrev pub Turns : (ℕ → Row R) → ℕ → Row R → Match → Result Match Gap → Type 0
  Turns P n q up (Ok w) = Step k P n q up w
  Turns P n q up (Err gap) = (o : Option ℕ) × Reaches k P n q.role up o × (gap.here ≡ match_of o) × Lacks k (gives k P o) q gap.need

  -- of all rows
  abbrev pub Decided : (ℕ → Row R) → ℕ → (ℕ → Row R) → ℕ → (ℕ → Match) → Result (Unit {0}) Short → Type 0
  Decided P n Q m M (Ok done) = Matched k P n Q M m
  Decided P n Q m M (Err short) = (short.row < m) × Stops k P n Q M short.row (M short.row) short.need
