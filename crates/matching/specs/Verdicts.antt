-- What a comparison answers, and what restrictions admit together. Assumes nothing.
use Rattle.std.specs.Prelude.{◌≡◌, true, List, Ok, Err, Result, Decides}
use Rattle.std.specs.List.{AllByRecursion}
use Rattle.kinds.specs.Domain.{Domain, Within, Apart}

module _ {R V : Type 0} (k : Domain R V) where
  -- b admits all that a admits, or the reading given is one that a admits and b does not
  abbrev pub Judged : R → R → Result Unit V → Type 0
  Judged a b (Ok _) = Within k a b
  Judged a b (Err v) = Apart k a b v

  -- v is a reading, and each of rs admits it
  abbrev pub Admitted : List R → V → Type 0
  Admitted rs v = (k.reads v ≡ true) × AllByRecursion (λ r. k.admits r v ≡ true) rs

  -- r admits just what all of rs admit
  abbrev pub MeetsAll : List R → R → Type 0
  MeetsAll rs r = (v : V) → Decides (k.admits r v) (Admitted rs v)
