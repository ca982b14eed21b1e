-- How rows hang from one another: where each hangs from an earlier one, each stands at a path. Assumes nothing.
use Rattle.std.proofs.Common.{◌≡◌, ℕ, zero, suc, ◌+◌, ◌<◌, List, [], sym, subst, ⊎_elim, arith}
use Rattle.std.proofs.lemmas.Bool.{cases_eq}
use Rattle.rows.specs.Tables.{then_role, Stands, root, below}
use Rattle.rows.specs.declared.row.Row.{Row}

-- each row hangs from an earlier one
abbrev pub Earlier : {R : Type 0} → (ℕ → Row R) → ℕ → Type 0
Earlier T n = (c : ℕ) → 0 < c → c < n → (T c).parent < c

-- no two rows hang from one row by one role
abbrev pub Single : {R : Type 0} → (ℕ → Row R) → ℕ → Type 0
Single T n = (b c : ℕ) → 0 < b → b < n → 0 < c → c < n → (T b).parent ≡ (T c).parent → (T b).role ≡ (T c).role → b ≡ c

module _ {R : Type 0} (T : ℕ → Row R) (n : ℕ) (earlier : Earlier T n) where
  path_by : (m c : ℕ) → c < m → c < n → (π : List ℕ) × Stands T c π
  path_by zero c l h = absurd (omega arith)
  path_by (suc m) c l h = ⊎_elim
      (λ e. ([], subst (λ x. Stands T x []) (sym e) root))
      (λ ne.
      let some : 0 < c = omega arith in
      let p = earlier c some h in
      let up = path_by m (T c).parent (omega arith) (omega arith) in
      (then_role up.0 (T c).role, below c some up.1))
      (cases_eq c 0)

  pub path_of : (c : ℕ) → c < n → (π : List ℕ) × Stands T c π
  path_of c l = path_by (c + 1) c (omega arith) l

  -- where a later row hangs from
  pub parent_path : (c : ℕ) → 0 < c → c < n → (π : List ℕ) × Stands T (T c).parent π
  parent_path c some l = path_of (T c).parent (omega (arith, earlier c some l))
