-- The paths of a table's rows, in their order. Assumes nothing.
use Rattle.std.proofs.Common.{◌≡◌, ℕ, zero, suc, ◌+◌, ◌<◌, ◌≤◌, Bool, true, List, [], ◌∷◌, length, refl, arith}
use Rattle.std.specs.List.{AllByRecursion}
use Rattle.std.proofs.ByRecursion.{All-weaker}
use Rattle.forms.specs.Few.{Ascends, Few}
use Rattle.rows.specs.Tables.{then_role, Stands, below, Before}
use Rattle.rows.specs.declared.row.Row.{Row}
use Rattle.rows.proofs.Rooted.{path_of, parent_path}

module _ {R : Type 0} (w : List ℕ → Bool) (T : ℕ → Row R) (n : ℕ) (parents : (c : ℕ) → 0 < c → c < n → (T c).parent < c)
    (order : (b c : ℕ) (π ρ : List ℕ) → b < c → c < n → Stands T b π → Stands T c ρ → Before π ρ)
    (written : (c : ℕ) (π : List ℕ) → c < n → Stands T c π → w π ≡ true) where
  listed : (m c : ℕ) → c + m ≡ n
      → (ps : List (List ℕ)) × (length ps ≡ m) × Ascends ps × AllByRecursion (λ p. w p ≡ true) ps × AllByRecursion (λ p. (b : ℕ) × (c ≤ b) × (b < n) × Stands T b p) ps
  listed zero c l = ([], refl, tt, tt, tt)
  listed (suc m) c l =
      let rest = listed m (c + 1) (omega arith) in
      let here : c < n = omega arith in
      let at = path_of T n parents c here in (
        at.0 ∷ rest.0,
        omega (arith, rest.1),
        (All-weaker _ (λ p. Before at.0 p) (λ p s. order c s.0 at.0 p (omega (arith, s.1)) s.2 at.1 s.3) rest.0 rest.4, rest.2),
        (written c at.0 here at.1, rest.3),
        ((c, omega arith, here, at.1), All-weaker _ _ (λ p s. (s.0, omega (arith, s.1), s.2, s.3)) rest.0 rest.4),
      )

  -- there are no more rows than paths that may be written
  pub rows_few : (limit : ℕ) → Few w limit → n ≤ limit
  rows_few limit few = let x = listed n 0 (omega arith) in omega (arith, few x.0 x.2 x.3, x.1)

  pub rows_narrow : (bound : ℕ) → ((π : List ℕ) (s : ℕ) → w (then_role π s) ≡ true → s < bound) → (c : ℕ) → 0 < c → c < n → (T c).role < bound
  rows_narrow bound narrow c some l =
      let up = parent_path T n parents c some l in
      narrow up.0 (T c).role (written c (then_role up.0 (T c).role) l (below c some up.1))
