-- One restriction more among those that are met. Assumes nothing.
use Rattle.std.proofs.Common.{◌≡◌, true, List, [], ◌∷◌, ◌++◌, sym, ◌∙◌}
use Rattle.std.specs.List.{AllByRecursion}
use Rattle.std.proofs.ByRecursion.{All-push}
use Rattle.std.proofs.lemmas.Bool.{and_parts, and_from}
use Rattle.kinds.specs.Domain.{Domain, Meet}
use Rattle.matching.specs.Verdicts.{MeetsAll}

all_parts : {X : Type 0} (P : X → Type 0) (xs : List X) (x : X) → AllByRecursion P (xs ++ (x ∷ [])) → AllByRecursion P xs × P x
all_parts P [] x h = (tt, h.0)
all_parts P (y ∷ ys) x h = let rest = all_parts P ys x h.1 in ((h.0, rest.0), rest.1)

pub meets_push : {R V : Type 0} (k : Domain R V) (xs : List R) (x a r : R) → MeetsAll k xs a → Meet k a x r → MeetsAll k (xs ++ (x ∷ [])) r
meets_push k xs x a r so_far met v = (
  λ h.
      let both = and_parts (k.admits a v) (k.admits x v) (sym (met v) ∙ h) in
      let before = (so_far v).0 both.0 in
      (before.0, All-push (λ s. k.admits s v ≡ true) xs x before.1 both.1),
  λ h.
      let parts = all_parts (λ s. k.admits s v ≡ true) xs x h.1 in
      met v ∙ and_from (k.admits a v) (k.admits x v) ((so_far v).1 (h.0, parts.0)) parts.1,
)
