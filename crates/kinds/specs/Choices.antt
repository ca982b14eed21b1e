-- The kind of choices: sets of the codes 0 to 63. Assumes nothing.
use Rattle.std.specs.Prelude.{Bool, nat_lt, refl}
use Rattle.std.proofs.lemmas.Bool.{and_parts}
use Rattle.masks.specs.Masks.{has}
use Rattle.kinds.specs.Domain.{Domain}
use Rattle.kinds.specs.declared.choice.Choice.{Choice}
use Rattle.kinds.specs.declared.choice.Code.{Code}

-- a code from 0 to 63
abbrev pub in_64 : Code → Bool
in_64 v = nat_lt v.0 64

-- bit k, worth 2 ^ k, admits the code k
abbrev pub choice_admits : Choice → Code → Bool
choice_admits s v = has s.bits v.0

abbrev pub choice_domain : Domain Choice Code
choice_domain = record {
  reads = in_64;
  admits = choice_admits;
  inside = λ s v h. (and_parts (in_64 v) _ h).0;
  inhabited = (record { 0 = 0 }, refl);
}
