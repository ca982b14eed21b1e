use Rattle.std.proofs.Common.{ℕ, ◌<◌, Decides, ⊎_elim, arith, rules}
use Rattle.std.proofs.lemmas.Bool.{both_ways, cases_lt}
use Rattle.masks.specs.Masks.{has}
use Rattle.orders.specs.Reductions.{Nearest}
use Rattle.orders.proofs.Reducing.{lies_past}
use Rattle.orders.proofs.Tables.{each_made}
use Rattle.orders.proofs.reduce.Goals as goal

pub returns : goal.returns
returns c = λ p q. ⊎_elim
    (λ small. each_made _ (λ p m. (q : ℕ) → Decides (has m q) ((p < 64) × Nearest c.args.under.now p q)) _ (λ i y f k. search rules)
    c.from_fn.result 0 64 c.from_fn.ensures.items.each p 0 (omega arith) (omega arith) q)
    (λ past. (
      λ b. absurd (both_ways _ (lies_past c.from_fn.result p q (omega (arith, c.from_fn.ensures.items.long))) b),
      λ h. absurd (omega (arith, h.0)),
    ))
    (cases_lt p 64)
