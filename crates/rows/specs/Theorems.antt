-- What is expected of the definitions: theorems, which the contract of `rows_stand` states.
use Rattle.std.specs.Prelude.{◌≡◌, ℕ, ◌<◌, ◌≤◌, true, Some, None, ◌≢◌, nat_eq}
use Rattle.kinds.specs.Domain.{Domain}
use Rattle.concepts.specs.Interpretations.{how_many}
use Rattle.rows.specs.Groups.{total, owner, WellFormed, world}
use Rattle.rows.specs.Hanging.{Hook, child_in}
use Rattle.rows.specs.Shapes.{Shape, row_fine}
use Rattle.rows.specs.declared.group.Group.{Group}
use Rattle.rows.specs.declared.row.Row.{Row}

pub record RowFacts {R V : Type 0} (k : Domain R V) : Type 0 where
  -- rows are well formed exactly when each may stand where it does
  pub shaped : (T : ℕ → Row R) (n : ℕ) → 0 < n → n ≤ 128 → ((c : ℕ) → c < n → row_fine T c ≡ true) → Shape T n
  pub standing : (T : ℕ → Row R) (n : ℕ) → Shape T n → (c : ℕ) → c < n → row_fine T c ≡ true
  -- no two rows of a form hang from one row by one role
  pub single : (T : ℕ → Row R) (n : ℕ) → Shape T n → (b c : ℕ) → 0 < b → b < n → 0 < c → c < n → (T b).parent ≡ (T c).parent → (T b).role ≡ (T c).role → b ≡ c
  -- the child that is found is a later one that hangs there by that role, and none before it does; where none is found, no later one does
  pub found : (hook : ℕ → Hook) (n c r d : ℕ) → child_in hook n c r ≡ Some d → (c < d) × (d < n) × ((hook d).0 ≡ c) × ((hook d).1 ≡ r)
  pub nearest : (hook : ℕ → Hook) (n c r d : ℕ) → child_in hook n c r ≡ Some d → (i : ℕ) → c < i → i < d → (hook i).0 ≡ c → (hook i).1 ≢ r
  pub childless : (hook : ℕ → Hook) (n c r : ℕ) → child_in hook n c r ≡ None → (i : ℕ) → c < i → i < n → (hook i).0 ≡ c → (hook i).1 ≢ r
  -- a group has as many elements as its headcount says, and element 0 is in group 0
  pub members : (G : ℕ → Group V) (n g : ℕ) → g < n → how_many (λ j. nat_eq (owner G n j) g) (total G n) ≡ (G g).headcount
  pub first : (G : ℕ → Group V) (n : ℕ) → WellFormed k G n → owner G n 0 ≡ 0
  -- they are all the fillers of the role by which the group hangs; where no group hangs there are none
  pub fillers : (G : ℕ → Group V) (n : ℕ) (w : WellFormed k G n) (i g : ℕ) → 0 < g → g < n → (G g).parent ≡ owner G n i
      → how_many ((world k G n w).filler i (G g).role) (world k G n w).size ≡ (G g).headcount
  pub no_fillers : (G : ℕ → Group V) (n : ℕ) (w : WellFormed k G n) (i r : ℕ) → ((g : ℕ) → 0 < g → g < n → (G g).parent ≡ owner G n i → (G g).role ≢ r)
      → how_many ((world k G n w).filler i r) (world k G n w).size ≡ 0
