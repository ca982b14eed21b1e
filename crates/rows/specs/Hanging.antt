-- What hangs from an earlier one of its table by a role: rows and groups alike. Assumes nothing.
use Rattle.std.specs.Prelude.{ℕ, zero, suc, ◌+◌, ◌-◌, Bool, cond, ◌&&◌, Some, None, Option, ◌==◌}

-- what it hangs from, and by which role
abbrev pub Hook : Type 0
Hook = ℕ × ℕ

-- it hangs from c by the role r
abbrev pub hangs_by : Hook → ℕ → ℕ → Bool
hangs_by h c r = h.0 == c && h.1 == r

-- the first of m from b on that hangs from c by the role r
abbrev pub child_from : (ℕ → Hook) → ℕ → ℕ → ℕ → ℕ → Option ℕ
child_from hook c r zero b = None
child_from hook c r (suc m) b = cond (hangs_by (hook b) c r) (Some b) (child_from hook c r m (b + 1))

-- the child of c by the role r, among n: a later one
abbrev pub child_in : (ℕ → Hook) → ℕ → ℕ → ℕ → Option ℕ
child_in hook n c r = child_from hook c r (n - (c + 1)) (c + 1)
