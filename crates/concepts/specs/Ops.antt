-- The ops by number. Assumes nothing.
use Rattle.std.specs.Prelude.{◌≡◌, ℕ, ◌<◌, Result, MatchResult}
use Rattle.concepts.specs.declared.op.Op.{Op}
use Rattle.concepts.specs.declared.op.Op.TheVariants.{Thing, Nothing, Prim, Within, And, All, AtLeast, AtMost, Entry}
use Rattle.concepts.specs.declared.op.UnknownOp.{UnknownOp}

abbrev pub op_number : Op → ℕ
op_number Thing = 0
op_number Nothing = 1
op_number Prim = 2
op_number Within = 3
op_number And = 4
op_number All = 5
op_number AtLeast = 6
op_number AtMost = 7
op_number Entry = 8

-- the result is the op with this number, or an error with a number that no op has
abbrev pub Decodes : ℕ → Result Op UnknownOp → Type 0
Decodes number r = MatchResult r (λ op. op_number op ≡ number) (λ e. (e.0 ≡ number) × (8 < number))
