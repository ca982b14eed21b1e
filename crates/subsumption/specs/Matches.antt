-- Going through the rows of the second form, each with its match in the first. Assumes nothing.
use Rattle.std.specs.Prelude.{◌≡◌, ℕ, ◌<◌, Some, None, Option}
use Rattle.kinds.specs.Domain.{Domain}
use Rattle.rows.specs.Hanging.{Hook, child_in}
use Rattle.rows.specs.declared.row.Row.{Row}
use Rattle.subsumption.specs.Given.{gives, row_gives, Marked, Read, Met, Lacks}
use Rattle.subsumption.specs.declared.gap.Match.{Match}
use Rattle.subsumption.specs.declared.gap.Match.TheVariants.{At, Absent, Passed}
use Rattle.subsumption.specs.declared.gap.Need.{Need}

-- where the rows hang
abbrev pub hooks : {R : Type 0} → (ℕ → Row R) → ℕ → Hook
hooks P i = ((P i).parent, (P i).role)

-- the match of a row that is there, or of none
abbrev pub match_of : Option ℕ → Match
match_of None = Absent
match_of (Some b) = At b

module _ {R V : Type 0} (k : Domain R V) (P : ℕ → Row R) (n : ℕ) where
  -- the row of P by the role r below a match, if there is one
  pub data Reaches (r : ℕ) : Match → Option ℕ → Type 0 where
    below_row : {a : ℕ} {o : Option ℕ} → o ≡ child_in (hooks P) n a r → Reaches r (At a) o
    below_none : Reaches r Absent None

  -- a row q that asks for no more than P gives: the match of its parent, and its own
  pub data Step (q : Row R) : Match → Match → Type 0 where
    passed : Step q Passed Passed
    met : {up here : Match} {o : Option ℕ} → Reaches q.role up o → Met k (gives k P o) q (match_of o) here → Step q up here

  -- Through the rows of Q, with a table of matches.
  module _ (Q : ℕ → Row R) (M : ℕ → Match) where
    -- the rows before c ask for no more than P gives
    pub record Matched (c : ℕ) : Type 0 where
      pub first : M 0 ≡ At 0
      pub marked : Marked k (row_gives k (P 0)) (Q 0)
      pub read : Read k (row_gives k (P 0)) (Q 0)
      pub steps : (i : ℕ) → 0 < i → i < c → Step (Q i) (M (Q i).parent) (M i)

    -- row c asks for more, where its match is this one
    pub data Stops : ℕ → Match → Need → Type 0 where
      at_first : {need : Need} → Lacks k (row_gives k (P 0)) (Q 0) need → Stops 0 (At 0) need
      at_row : {c : ℕ} {o : Option ℕ} {need : Need} → 0 < c → Matched c → Reaches (Q c).role (M (Q c).parent) o → Lacks k (gives k P o) (Q c) need → Stops c (match_of o) need
