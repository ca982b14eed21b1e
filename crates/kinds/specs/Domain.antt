-- A kind of reading as a concrete domain: R is its restrictions, V the values that its readings are among. Assumes nothing.
use Rattle.std.specs.Prelude.{◌≡◌, Bool, true, false, ◌&&◌}

pub record Domain (R V : Type 0) : Type 0 where
  -- which values are readings
  pub reads : V → Bool
  -- which values a restriction admits
  pub admits : R → V → Bool
  -- no restriction admits anything but readings
  pub inside : (r : R) (v : V) → admits r v ≡ true → reads v ≡ true
  -- there is a reading
  pub inhabited : (v : V) × (reads v ≡ true)

-- The laws that a kind's answers keep.
module _ {R V : Type 0} (k : Domain R V) where
  -- r admits every reading
  abbrev pub Whole : R → Type 0
  Whole r = (v : V) → k.admits r v ≡ k.reads v

  -- r admits just what both a and b admit
  abbrev pub Meet : R → R → R → Type 0
  Meet a b r = (v : V) → k.admits r v ≡ (k.admits a v && k.admits b v)

  -- a admits nothing
  abbrev pub Empty : R → Type 0
  Empty a = (v : V) → k.admits a v ≡ false

  -- b admits whatever a admits
  abbrev pub Within : R → R → Type 0
  Within a b = (v : V) → k.admits a v ≡ true → k.admits b v ≡ true

  -- a admits v, and b does not
  abbrev pub Apart : R → R → V → Type 0
  Apart a b v = (k.admits a v ≡ true) × (k.admits b v ≡ false)

  -- a admits v, if it admits anything
  abbrev pub Member : R → V → Type 0
  Member a v = (u : V) → k.admits a u ≡ true → k.admits a v ≡ true

  -- a admits v and b does not, if there is any such value
  abbrev pub Separates : R → R → V → Type 0
  Separates a b v = (u : V) → Apart a b u → Apart a b v
