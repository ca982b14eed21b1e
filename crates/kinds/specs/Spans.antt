-- The kind of spans: whole numbers of 32 bits, from a low to a high end. Assumes nothing.
use Rattle.std.specs.Prelude.{◌≡◌, Bool, ◌&&◌, ℤ, pos, negsuc, int_le, refl}
use Rattle.std.specs.Int.{int_max, int_min}
use Rattle.std.proofs.lemmas.Bool.{and_parts}
use Rattle.kinds.specs.Domain.{Domain}
use Rattle.kinds.specs.declared.span.Span.{Span}

-- -2147483648 to 2147483647
abbrev pub in_32 : ℤ → Bool
in_32 v = int_le (negsuc 2147483647) v && int_le v (pos 2147483647)

-- low to high, both ends included
abbrev pub span_admits : Span → ℤ → Bool
span_admits s v = in_32 v && (int_le s.low v && int_le v s.high)

abbrev pub span_domain : Domain Span ℤ
span_domain = record {
  reads = in_32;
  admits = span_admits;
  inside = λ s v h. (and_parts (in_32 v) _ h).0;
  inhabited = (pos 0, refl);
}

-- r has the larger low and the smaller high end of a and b
abbrev pub Ends : Span → Span → Span → Type 0
Ends a b r = (r.low ≡ int_max a.low b.low) × (r.high ≡ int_min a.high b.high)
