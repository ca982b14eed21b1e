-- Pieces of a text. Assumes nothing.
use Rattle.std.specs.Prelude.{◌≡◌, ℕ, ◌<◌, List, map, length, slice_index_or}
use Rattle.std.specs.Borrow.{Bor}
use Rattle.std.specs.Str.Iter.{LacksByte}
use Rattle.std.specs.List.{join_with_byte}

-- the pieces make up the text, with one byte c between each two
abbrev pub Whole : ℕ → List ℕ → List (Bor (List ℕ)) → Type 0
Whole c text ps = text ≡ join_with_byte c (map (λ p. p.now) ps)

-- no piece holds a byte c
abbrev pub Apart : ℕ → List (Bor (List ℕ)) → Type 0
Apart c ps = (i : ℕ) (d : Bor (List ℕ)) → i < length ps → LacksByte c (slice_index_or ps i d).now
