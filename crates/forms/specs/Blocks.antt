-- Which rows of a table a place has. Assumes nothing.
use Rattle.std.specs.Prelude.{ℕ, ◌-◌, ◌*◌, ◌/◌, cond, List, [], length, take, drop, ◌==◌, nat_lt}

module _ {X : Type 0} where
  -- a place has 128 rows in turn, as far as they go
  abbrev pub part_of : List X → ℕ → List X
  part_of xs p = cond (nat_lt p (length xs / 128)) (take 128 (drop (p * 128) xs)) []

  -- the places before the one that is left out, and those after it
  abbrev pub block_of : List X → List X → ℕ → List X
  block_of front back p = cond (nat_lt p (length front / 128)) (part_of front p) (cond (p == length front / 128) [] (part_of back (p - length front / 128 - 1)))
