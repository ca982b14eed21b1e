-- The kind of pairs over two kinds: each half admits a reading of its own. Assumes nothing.
use Rattle.std.specs.Prelude.{◌&&◌}
use Rattle.std.proofs.lemmas.Bool.{and_parts, and_from}
use Rattle.kinds.specs.Domain.{Domain}
use Rattle.kinds.specs.declared.pair.Both.{Both}
use Rattle.kinds.specs.declared.pair.Pair.{Pair}

abbrev pub pair_domain : {R S V W : Type 0} → Domain R V → Domain S W → Domain (Pair R S) (Both V W)
pair_domain p q = record {
  reads = λ v. p.reads v.first && q.reads v.second;
  admits = λ s v. p.admits s.first v.first && q.admits s.second v.second;
  inside = λ s v h.
      let k = and_parts (p.admits s.first v.first) (q.admits s.second v.second) h in
      and_from (p.reads v.first) (q.reads v.second) (p.inside s.first v.first k.0) (q.inside s.second v.second k.1);
  inhabited =
      let v = p.inhabited in
      let w = q.inhabited in
      (record { first = v.0; second = w.0 }, and_from (p.reads v.0) (q.reads w.0) v.1 w.1);
}
