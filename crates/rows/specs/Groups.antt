-- Tables of groups, when they are well formed, and the interpretation that one stands for. Assumes nothing.
use Rattle.std.specs.Prelude.{◌≡◌, ℕ, zero, suc, ◌+◌, ◌<◌, ◌≤◌, Bool, true, cond, ◌&&◌, List, ◌==◌, ◌≢◌, nat_lt, slice_index_or}
use Rattle.std.proofs.Common.{arith}
use Rattle.std.proofs.lemmas.Bool.{cond_both, ltb-true}
use Rattle.kinds.specs.Domain.{Domain}
use Rattle.masks.specs.Masks.{has}
use Rattle.concepts.specs.Interpretations.{Interpretation}
use Rattle.rows.specs.declared.group.Group.{Group}

module _ {V : Type 0} (G : ℕ → Group V) where
  -- Elements are numbered group by group: how many the first n groups have.
  abbrev pub total : ℕ → ℕ
  total zero = 0
  total (suc n) = total n + (G n).headcount

  -- the group of element j, among the first n
  abbrev pub owner : ℕ → ℕ → ℕ
  owner zero j = 0
  owner (suc n) j = cond (nat_lt j (total n)) (owner n j) n

  -- the elements of group g are the fillers of the role r of each element of group p
  abbrev pub hangs : ℕ → ℕ → ℕ → Bool
  hangs p r g = nat_lt 0 g && ((G g).parent == p && (G g).role == r)

  -- there is an element, if group 0 has one
  pub total_some : (n : ℕ) → 0 < n → 0 < (G 0).headcount → 0 < total n
  total_some zero l h = absurd (omega arith)
  total_some (suc zero) l h = omega arith
  total_some (suc (suc n)) l h = omega (arith, total_some (suc n) (omega arith) h)

  -- an element belongs to one of the groups
  pub owner_below : (n j : ℕ) → j < total n → owner n j < n
  owner_below zero j l = absurd (omega arith)
  owner_below (suc n) j l =
      cond_both (nat_lt j (total n)) (owner n j) n (λ c. c < suc n) (λ e. omega (arith, owner_below n j (ltb-true j (total n) e))) (λ e. omega arith)

module _ {R V : Type 0} (k : Domain R V) where
  -- each element has the atoms and the reading of its group
  abbrev pub world_of : (G : ℕ → Group V) (n : ℕ) → 0 < total G n → ((c : ℕ) → c < n → k.reads (G c).reading ≡ true) → Interpretation k
  world_of G n some reads = record {
    size = total G n;
    some = some;
    atom = λ i m. has (G (owner G n i)).atoms m;
    reading = λ i. (G (owner G n i)).reading;
    reads = λ i l. reads (owner G n i) (owner_below G n i l);
    filler = λ i r j. hangs G (owner G n i) r (owner G n j);
  }

  -- the first n groups are well formed
  pub record WellFormed (G : ℕ → Group V) (n : ℕ) : Type 0 where
    pub some : 0 < n
    pub few : n ≤ 256
    -- group 0 is one element, and hangs from nothing
    pub one : (G 0).headcount ≡ 1
    pub first : ((G 0).parent ≡ 0) × ((G 0).role ≡ 0)
    -- each other group hangs from an earlier one, no two from one group by one role
    pub parents : (g : ℕ) → 0 < g → g < n → (G g).parent < g
    pub roles : (g : ℕ) → 0 < g → g < n → (G g).role < 16
    pub headcounts : (g : ℕ) → 0 < g → g < n → (0 < (G g).headcount) × ((G g).headcount ≤ 1000)
    pub apart : (g h : ℕ) → 0 < g → g < h → h < n → (G g).parent ≡ (G h).parent → (G g).role ≢ (G h).role
    -- readings are readings of the kind
    pub reads : (g : ℕ) → g < n → k.reads (G g).reading ≡ true

  -- its interpretation, of which element 0 is the one of group 0
  abbrev pub world : (G : ℕ → Group V) (n : ℕ) → WellFormed G n → Interpretation k
  world G n w = world_of G n (total_some G n w.some (let e = w.one in omega arith)) w.reads

-- the groups of a slice; d stands past its end
abbrev pub groups_of : {V : Type 0} → Group V → List (Group V) → ℕ → Group V
groups_of d xs i = slice_index_or xs i d
