-- Arrays of what each slot has, if anything. Assumes nothing.
use Rattle.std.proofs.Common.{◌≡◌, ℕ, ◌<◌, List, length, get_or, set, replicate, Some, None, Option, ◌∙◌, ⊎_elim, arith, length-set}
use Rattle.std.proofs.lemmas.Bool.{cases_lt}
use Rattle.std.proofs.lemmas.List.{get_or_past, get_or-replicate, get_or-set_same, get_or-set_other, length-replicate}

-- the slots of an array, none past its end
abbrev pub slots : List (Option ℕ) → ℕ → Option ℕ
slots xs i = get_or xs i None

-- Of n slots, slot 0 alone has something: 0.
module _ (n : ℕ) where
  abbrev pub fresh : List (Option ℕ)
  fresh = set (replicate n None) 0 (Some 0)

  pub fresh_size : length fresh ≡ n
  fresh_size = length-set {A = Option ℕ} (replicate n None) 0 (Some 0) ∙ length-replicate {A = Option ℕ} n None

  pub fresh_first : 0 < n → slots fresh 0 ≡ Some 0
  fresh_first some = get_or-set_same (replicate n None) 0 (Some 0) None (omega (arith, length-replicate {A = Option ℕ} n None))

  none_at : (b : ℕ) → ◌≡◌ {A = Option ℕ} (get_or (replicate n None) b None) None
  none_at b = ⊎_elim (λ l. get_or-replicate n b None None l) (λ u. get_or_past (replicate n None) b None (omega (arith, length-replicate {A = Option ℕ} n None))) (cases_lt b n)

  pub fresh_other : (b : ℕ) → (b ≡ 0 → ⊥) → slots fresh b ≡ None
  fresh_other b ne = get_or-set_other (replicate n None) 0 b (Some 0) None ne ∙ none_at b
