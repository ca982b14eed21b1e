-- What the checks come to, and what the nodes of a table that passes weigh and stand for.
use Rattle.std.proofs.Common.{◌≡◌, ℕ, zero, suc, ◌+◌, ◌-◌, ◌<◌, ◌≤◌, Bool, true, false, cond, not, List, [], ◌∷◌, ◌++◌, length, get_or, take, is_some, Some, None, Option, sym, refl, ap, ◌∙◌, inl, inr, zero-add, arith}
use Rattle.std.proofs.lemmas.Bool.{false≢true, cases_lt}
use Rattle.std.proofs.lemmas.Bool.Decides.{nat_tests}
use Rattle.concepts.specs.declared.node.Node.{Node}
use Rattle.concepts.specs.declared.refusal.Refusal.{Refusal}
use Rattle.concepts.specs.declared.refusal.Refusal.TheVariants.{Length}
use Rattle.concepts.specs.Concepts.{Concept, thing}
use Rattle.concepts.specs.Tables.{values, concept, concept_of, is_entry}
use Rattle.concepts.specs.Weights.{weight, node_weight}
use Rattle.concepts.specs.Checks.{Check, first, node_checks, checks_from, bad_op, bad_field, bad_operand, bad_entry, bad_length, refusal, passes}
use Rattle.concepts.specs.WellFormed.{At, Earliest, Faultless, WellFormed, size}
use Rattle.concepts.specs.Theorems.{TableFacts}
use Rattle.concepts.proofs.Firsts.{first_past, weight_check}
use Rattle.concepts.proofs.Values.{values_below, value_at}

-- the first check, and then the others
first_split : (c : Check) (cs : List Check) → first (c ∷ cs) ≡ None → (c.0 ≡ false) × (first cs ≡ None)
first_split c cs h = grind arith

first_join : (c : Check) (cs : List Check) → c.0 ≡ false → first cs ≡ None → first (c ∷ cs) ≡ None
first_join c cs b h = rw b h

none_of : (cs : List Check) → first cs ≡ None → (k : ℕ) (c : Check) → At cs k c → c.0 ≡ false
none_of [] h k c at = absurd (omega (arith, at.0))
none_of (x ∷ xs) h zero c at = grind arith
none_of (x ∷ xs) h (suc k) c at = none_of xs (first_split x xs h).1 k c (omega (arith, at.0), at.1)

only_none_of : (cs : List Check) → ((k : ℕ) (c : Check) → At cs k c → c.0 ≡ false) → first cs ≡ None
only_none_of [] h = refl
only_none_of (x ∷ xs) h = first_join x xs (h 0 x (omega arith, refl)) (only_none_of xs (λ k c at. h (suc k) c (omega (arith, at.0), at.1)))

earliest_of : (cs : List Check) (e : Refusal) → first cs ≡ Some e → Earliest cs e
earliest_of [] e h = absurd (false≢true (ap is_some h))
earliest_of (x ∷ xs) e h = go x.0 refl h (earliest_of xs e)
  where
    go : (b : Bool) → x.0 ≡ b → cond b (Some x.1) (first xs) ≡ Some e → (first xs ≡ Some e → Earliest xs e) → Earliest (x ∷ xs) e
    go true q r later = record {
      place = 0;
      check = x;
      here = (omega arith, refl);
      declines = q;
      says = cc;
      before = λ k c l at. absurd (omega (arith, l));
    }
    go false q r later =
        let w = later r in
        record {
          place = suc w.place;
          check = w.check;
          here = (omega (arith, w.here.0), w.here.1);
          declines = w.declines;
          says = w.says;
          before = earlier w.place w.before;
        }
      where
        earlier : (p : ℕ) → ((k : ℕ) (c : Check) → k < p → At xs k c → c.0 ≡ false)
            → (k : ℕ) (c : Check) → k < suc p → At (x ∷ xs) k c → c.0 ≡ false
        earlier p h zero c l at = ap (λ y. y.0) at.1 ∙ q
        earlier p h (suc k) c l at = h k c (omega arith) (omega (arith, at.0), at.1)

-- two lists of checks, one after the other
first_halves : (cs ds : List Check) → first (cs ++ ds) ≡ None → (first cs ≡ None) × (first ds ≡ None)
first_halves [] ds h = (refl, h)
first_halves (c ∷ cs) ds h = grind (arith, first_halves cs ds)

first_both : (cs ds : List Check) → first cs ≡ None → first ds ≡ None → first (cs ++ ds) ≡ None
first_both cs ds h k = first_past cs ds h ∙ k

module _ {K : Type 0} (held : List (Option ℕ)) where
  -- no check of node i declines it
  pub record Clear (i : ℕ) (n : Node K) : Type 0 where
    pub op : bad_op n ≡ false
    pub field : bad_field n ≡ false
    pub operand : bad_operand i n ≡ false
    pub entry : bad_entry held n ≡ false

  clear : (i : ℕ) (n : Node K) → first (node_checks held i n) ≡ None → Clear i n
  clear i n h = record { op = grind arith; field = grind arith; operand = grind arith; entry = grind arith }

  -- the nodes are numbered from i
  clear_from : (i : ℕ) (nodes : List (Node K)) → first (checks_from held i nodes) ≡ None → (j : ℕ) (n : Node K) → At nodes j n → Clear (i + j) n
  clear_from i [] h j n at = absurd (omega (arith, at.0))
  clear_from i (x ∷ xs) h zero n at =
      let s = first_halves (node_checks held i x) (checks_from held (i + 1) xs) h in
      let q : i ≡ i + 0 = omega arith in
      rw at.1 (rw q at (clear i x s.0))
  clear_from i (x ∷ xs) h (suc j) n at =
      let s = first_halves (node_checks held i x) (checks_from held (i + 1) xs) h in
      let q : i + 1 + j ≡ i + suc j = omega arith in
      rw q at (clear_from (i + 1) xs s.1 j n (omega (arith, at.0), at.1))

  unclear_from : (i : ℕ) (nodes : List (Node K)) → ((j : ℕ) (n : Node K) → At nodes j n → Clear (i + j) n) → first (checks_from held i nodes) ≡ None
  unclear_from i [] h = refl
  unclear_from i (x ∷ xs) h =
      let q : i + 0 ≡ i = omega arith in
      let here : Clear i x = rw q at (h 0 x (omega arith, refl)) in
      first_both (node_checks held i x) (checks_from held (i + 1) xs) (grind arith)
      (unclear_from (i + 1) xs (λ j n at. let p : i + suc j ≡ i + 1 + j = omega arith in rw p at (h (suc j) n (omega (arith, at.0), at.1))))

  pub well_formed_of : (nodes : List (Node K)) → passes held nodes ≡ true → WellFormed held nodes
  well_formed_of nodes h =
      let none : refusal held nodes ≡ None = grind arith in
      let s = first_split (bad_length nodes, Length) (checks_from held 0 nodes ++ weight_check held nodes) none in
      let t = first_halves (checks_from held 0 nodes) (weight_check held nodes) s.1 in
      let each : (j : ℕ) (n : Node K) → At nodes j n → Clear j n = λ j n at. rw zero-add at (clear_from 0 nodes t.0 j n at) in
      record {
        some = grind (arith, nat_tests);
        few = grind (arith, nat_tests);
        faultless = record {
          ops = λ i n at. (each i n at).op;
          fields = λ i n at. (each i n at).field;
          operands = λ i n at. (each i n at).operand;
          entries = λ i n at. (each i n at).entry;
        };
        light = grind (arith, nat_tests);
      }

  pub passing_of : (nodes : List (Node K)) → WellFormed held nodes → passes held nodes ≡ true
  passing_of nodes w =
      let some = w.some in
      let few = w.few in
      let f = w.faultless in
      let len : bad_length nodes ≡ false = grind (arith, nat_tests) in
      let each : (j : ℕ) (n : Node K) → At nodes j n → Clear (0 + j) n = λ j n at.
      rw zero-add record { op = f.ops j n at; field = f.fields j n at; operand = f.operands j n at; entry = f.entries j n at } in
      let light = w.light in
      let light_enough : first (weight_check held nodes) ≡ None = grind (arith, nat_tests) in
      let none : refusal held nodes ≡ None =
      first_join (bad_length nodes, Length) (checks_from held 0 nodes ++ weight_check held nodes) len
      (first_both (checks_from held 0 nodes) (weight_check held nodes) (unclear_from 0 nodes each) light_enough) in
      ap (λ r. not (is_some r)) none

-- what stands at a place within a list
pub element : {X : Type 0} (xs : List X) (i : ℕ) → i < length xs → (x : X) × (x ≡ get_or xs i x)
element [] i l = absurd (omega arith)
element (x ∷ xs) zero l = (x, refl)
element (x ∷ xs) (suc i) l = element xs i (omega arith)

size_cond : {R : Type 0} (b : Bool) (x y : Concept R) → size (cond b x y) ≡ cond b (size x) (size y)
size_cond true x y = refl
size_cond false x y = refl

module _ {K : Type 0} (held : List (Option ℕ)) (entries : ℕ → Option (Concept K)) where
  -- a node weighs what its concept has in size, if its operands do
  node_size : (i : ℕ) (n : Node K) (ws : List ℕ) (cs : List (Concept K)) → bad_op n ≡ false → is_entry n ≡ false → bad_operand i n ≡ false
      → ((k : ℕ) → k < i → get_or ws k 0 ≡ size (get_or cs k thing)) → node_weight held ws n ≡ size (concept_of entries cs n)
  node_size i n ws cs op entry operand h =
      let left = h n.left in
      let right = h n.right in
      simp size_cond (grind (arith, nat_tests))

  module _ (nodes : List (Node K)) (fine : Faultless held nodes) (plain : (i : ℕ) (n : Node K) → At nodes i n → is_entry n ≡ false) where
    weights : List ℕ
    weights = values (node_weight held) nodes

    concepts : List (Concept K)
    concepts = values (concept_of entries) nodes

    -- node m weighs what its concept has in size, if the nodes below it do
    sizes_more : (m : ℕ) → m < length nodes → ((k : ℕ) → k < m → get_or weights k 0 ≡ size (get_or concepts k thing))
        → get_or weights m 0 ≡ size (get_or concepts m thing)
    unfolding weights concepts
    sizes_more m l below =
        let n = (element nodes m l).0 in
        let is = (element nodes m l).1 in
        let at : At nodes m n = (l, is) in
        let operands : (k : ℕ) → k < m → get_or (values (node_weight held) (take m nodes)) k 0 ≡ size (get_or (values (concept_of entries) (take m nodes)) k thing) = λ k h.
        sym (values_below (node_weight held) nodes m k 0 h (omega arith)) ∙ (below k h ∙ ap size (values_below (concept_of entries) nodes m k thing h (omega arith))) in
        value_at (node_weight held) nodes m n 0 l is
        ∙ (node_size m n _ _ (fine.ops m n at) (plain m n at) (fine.operands m n at) operands
        ∙ sym (ap size (value_at (concept_of entries) nodes m n thing l is)))

    -- so do all nodes below m
    sizes : (m : ℕ) → m ≤ length nodes → (k : ℕ) → k < m → get_or weights k 0 ≡ size (get_or concepts k thing)
    sizes zero h k l = absurd (omega arith)
    sizes (suc m) h k l = elim (cases_lt k m) [
      | inl low ↦ sizes m (omega arith) k low
      | inr high ↦ (let q : k ≡ m = omega arith in rw q (sizes_more m (omega arith) (sizes m (omega arith))))
    ]

    size_weighs_of : 0 < length nodes → weight held nodes ≡ size (concept entries nodes)
    unfolding weights concepts
    size_weighs_of some = sizes (length nodes) (omega arith) (length nodes - 1) (omega arith)

-- what a node stands for hangs on its operands alone
module _ {K : Type 0} (i : ℕ) (n : Node K) (operand : bad_operand i n ≡ false) where
  concept_local : (entries : ℕ → Option (Concept K)) (cs ds : List (Concept K)) → ((k : ℕ) → k < i → get_or cs k thing ≡ get_or ds k thing)
      → concept_of entries cs n ≡ concept_of entries ds n
  concept_local entries cs ds h =
      let left = h n.left in
      let right = h n.right in
      grind (arith, nat_tests)

  weight_local : (held : List (Option ℕ)) (ws vs : List ℕ) → ((k : ℕ) → k < i → get_or ws k 0 ≡ get_or vs k 0)
      → node_weight held ws n ≡ node_weight held vs n
  weight_local held ws vs h =
      let left = h n.left in
      let right = h n.right in
      grind (arith, nat_tests)

module _ {K : Type 0} (held : List (Option ℕ)) (nodes : List (Node K)) where
  pub concept_at_of : (entries : ℕ → Option (Concept K)) → Faultless held nodes → (i : ℕ) (n : Node K) → At nodes i n
      → get_or (values (concept_of entries) nodes) i thing ≡ concept_of entries (values (concept_of entries) nodes) n
  concept_at_of entries fine i n at =
      let l = at.0 in
      value_at (concept_of entries) nodes i n thing l at.1
      ∙ concept_local i n (fine.operands i n at) entries _ _ (λ k h. sym (values_below (concept_of entries) nodes i k thing h (omega arith)))

  pub weight_at_of : Faultless held nodes → (i : ℕ) (n : Node K) → At nodes i n
      → get_or (values (node_weight held) nodes) i 0 ≡ node_weight held (values (node_weight held) nodes) n
  weight_at_of fine i n at =
      let l = at.0 in
      value_at (node_weight held) nodes i n 0 l at.1
      ∙ weight_local i n (fine.operands i n at) held _ _ (λ k h. sym (values_below (node_weight held) nodes i k 0 h (omega arith)))

pub table_facts : (K : Type 0) → TableFacts K
table_facts K = record {
  earliest = earliest_of;
  none = none_of;
  only_none = only_none_of;
  well_formed = well_formed_of;
  passing = passing_of;
  size_weighs = λ held nodes entries some fine plain. size_weighs_of held entries nodes fine plain some;
  concept_at = concept_at_of;
  weight_at = weight_at_of;
}
