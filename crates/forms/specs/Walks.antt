-- The form that a description writes, and the next path of it. Assumes nothing.
use Rattle.std.specs.Prelude.{◌≡◌, ℕ, ◌-◌, ◌<◌, ◌≤◌, Bool, true, false, List, [], ◌∷◌, length, take, drop, Option, MatchOption, ◌≢◌, slice_index_or}
use Rattle.kinds.specs.Domain.{Domain}
use Rattle.masks.specs.Masks.{has}
use Rattle.concepts.specs.declared.node.Node.{Node}
use Rattle.rows.specs.Tables.{then_role}
use Rattle.forms.specs.Sheets.{Form, node_form}
use Rattle.forms.specs.Seen.{entries}
use Rattle.forms.specs.Laying.{Next, Final}
use Rattle.forms.specs.Laid.{Placed, Filled, Flagged}
use Rattle.forms.specs.Few.{Few}
use Rattle.rows.specs.declared.row.Row.{Row}

-- the lowest number of a set from a bound on
abbrev pub Lowest : ℕ → ℕ → Option ℕ → Type 0
Lowest set from o =
    MatchOption o ((s : ℕ) → from ≤ s → has set s ≡ true → ⊥) (λ x. (has set x ≡ true) × (from ≤ x) × ((s : ℕ) → from ≤ s → has set s ≡ true → x ≤ s))

-- s comes after what stands at the head of a path, if anything does
abbrev pub AfterHead : List ℕ → ℕ → Type 0
AfterHead [] s = Unit {0}
AfterHead (r ∷ π) s = r < s

-- b is where the roles below 64 begin that come after the head of a path
abbrev pub Starts : List ℕ → ℕ → Type 0
Starts π b = (s : ℕ) → s < 64 → (AfterHead π s → b ≤ s) × (b ≤ s → AfterHead π s)

-- roles are below 16
abbrev pub Narrow : (List ℕ → Bool) → Type 0
Narrow w = (π : List ℕ) (s : ℕ) → w (then_role π s) ≡ true → s < 16

-- the lowest role that is written after the first d roles of a path and comes after the one that stands there
abbrev pub Turn : (List ℕ → Bool) → List ℕ → ℕ → Option ℕ → Type 0
Turn w π d o =
    MatchOption o ((s : ℕ) → AfterHead (drop d π) s → w (then_role (take d π) s) ≢ true)
    (λ r. AfterHead (drop d π) r × (w (then_role (take d π) r) ≡ true) × ((s : ℕ) → AfterHead (drop d π) s → w (then_role (take d π) s) ≡ true → r ≤ s))

-- the next written path: how much of the path it keeps, and the role that it goes on with
abbrev pub Ahead : (List ℕ → Bool) → List ℕ → Option (ℕ × ℕ) → Type 0
Ahead w π o = MatchOption o (Final w π) (λ x. Next w π (then_role (take x.0 π) x.1))

-- the flags of a slice
abbrev pub flags_of : List Bool → ℕ → Bool
flags_of ds i = slice_index_or ds i false

-- a form with few enough paths, and roles below 16
pub record Proper {V : Type 0} (f : Form V) : Type 0 where
  pub narrow : Narrow f.on
  pub few : Few f.on 128

module _ {R V : Type 0} (k : Domain R V) where
  -- rows at every written path, with what is written there
  pub record LaidOut (f : Form V) (T : ℕ → Row R) (dead : ℕ → Bool) (n : ℕ) : Type 0 where
    pub placed : Placed k f.at f.on T n
    pub filled : Filled k f.at f.on T n
    pub flagged : Flagged k f.at f.on T n dead

  -- the form of the last node
  abbrev pub whole_form : Row R → List (Option ℕ) → List (Row R) → List (Row R) → List (Node R) → Form V
  whole_form e held front back nodes = node_form k (entries k e held front back) nodes (length nodes - 1)
