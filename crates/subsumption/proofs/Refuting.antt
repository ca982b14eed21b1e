-- The groups that are written along the way to a row that asks for more are a countermodel. Assumes nothing.
use Rattle.std.proofs.Common.{◌≡◌, ℕ, zero, suc, ◌+◌, ◌<◌, ◌≤◌, max, Bool, true, false, ◌⊎◌, Some, None, Option, sym, refl, ap, ◌∙◌, subst, inl, inr, ⊎_elim, arith}
use Rattle.std.proofs.lemmas.Option.{same_Some}
use Rattle.std.proofs.lemmas.Bool.{both_ways, cases_Bool, cases_lt, cases_eq}
use Rattle.kinds.specs.Domain.{Domain}
use Rattle.masks.specs.Masks.{has}
use Rattle.rows.specs.Groups.{owner, total_some, WellFormed}
use Rattle.rows.specs.Numbers.{Under, Allows, ClosesOff, Limited}
use Rattle.rows.specs.Shapes.{Shape, Coherent}
use Rattle.rows.specs.declared.group.Group.{Group}
use Rattle.rows.specs.declared.row.Row.{Row}
use Rattle.rows.specs.Suiting.{Kin, heads, Suits}
use Rattle.rows.proofs.Fitting.{Lone, Fitting, Trail, origin, onward, Fault, unsuited, miscounted, fitting_meets, fault_fails}
use Rattle.rows.proofs.Groups.{owner_first}
use Rattle.rows.proofs.RowFacts.{well_formed_lone, well_formed_peopled}
use Rattle.subsumption.specs.Census.{Census}
use Rattle.subsumption.specs.Given.{Given, gives, row_gives, silent, Shut, Read, Sample, Outside, Lacks, count, atoms, reading}
use Rattle.subsumption.specs.Inclusion.{Countermodel}
use Rattle.subsumption.specs.Matches.{match_of, Stops, at_first, at_row}
use Rattle.subsumption.specs.Slots.{slot_of, own, ancestor, parent_of, role_of, Lineage, Forced, amount, given_at, heads_at, Picked}
use Rattle.subsumption.specs.declared.gap.Match.{Match}
use Rattle.subsumption.specs.declared.gap.Match.TheVariants.{At}
use Rattle.subsumption.specs.declared.gap.Need.{Need}
use Rattle.subsumption.specs.declared.gap.Need.TheVariants.{Count, Atoms, Reading}
use Rattle.subsumption.proofs.Counting as counting
use Rattle.subsumption.proofs.Ways as ways

-- one filler, or as many as must be, where some are allowed
room_one : (lo : ℕ) (up : Option ℕ) → Under lo up → (ClosesOff lo up → ⊥) → Allows lo up (max lo 1)
room_one lo None u h = (omega arith, tt)
room_one lo (Some v) u h = (omega arith, ⊎_elim (λ z. omega arith) (λ z. absurd (h (λ y a. omega (arith, a.1)))) (cases_lt 0 v))

-- the least number that is allowed here and not there is at most 1,000
pub least_limit : (lo : ℕ) (up : Option ℕ) (lo' : ℕ) (up' : Option ℕ) (x : ℕ) → lo ≤ 999 → Limited lo' up' → Allows lo up x → (Allows lo' up' x → ⊥)
    → ((y : ℕ) → Allows lo up y → (Allows lo' up' y → ⊥) → x ≤ y) → x ≤ 1000
least_limit lo up lo' None x l lim ok bad least = ⊎_elim (λ h. omega arith) (λ h. absurd (bad (h, tt))) (cases_lt x lo')
least_limit lo up lo' (Some u) x l lim ok bad least = ⊎_elim
    (λ h. omega (arith, lim.0))
    (λ h. ⊎_elim
    (λ g. omega (arith, lim.1, least (max lo (u + 1)) (omega arith, under_less (max lo (u + 1)) x up (omega (arith, ok.0)) ok.1) (λ a. omega (arith, a.1))))
    (λ g. absurd (bad (h, g)))
    (cases_lt u x))
    (cases_lt x lo')
  where
    under_less : (y z : ℕ) (o : Option ℕ) → y ≤ z → Under z o → Under y o
    under_less y z None l h = tt
    under_less y z (Some v) l h = omega arith

-- a sample of what admits something is admitted
sampled : {V : Type 0} (g : Given V) (v : V) → Sample g v → (((u : V) → g.admit u ≡ false) → ⊥) → g.admit v ≡ true
sampled g v sample some = ⊎_elim (λ e. e) (λ e. absurd (some (λ u. ⊎_elim (λ t. absurd (both_ways (g.admit v) e (sample u t))) (λ f. f) (cases_Bool (g.admit u))))) (cases_Bool (g.admit v))

module _ {R V : Type 0} (k : Domain R V) where
  -- one that is to lie outside does, where something does
  outside : (g : Given V) (q : Row R) (v : V) → Outside k g q v → (Read k g q → ⊥) → (g.admit v ≡ true) × (k.admits q.restriction v ≡ false)
  outside g q v out bad = go (cases_Bool (g.admit v)) (cases_Bool (k.admits q.restriction v))
    where
      none : ((u : V) → g.admit u ≡ true → k.admits q.restriction u ≡ false → ⊥) → ⊥
      none h = bad (λ u t. ⊎_elim (λ a. a) (λ a. absurd (h u t a)) (cases_Bool (k.admits q.restriction u)))

      go : (g.admit v ≡ true) ⊎ (g.admit v ≡ false) → (k.admits q.restriction v ≡ true) ⊎ (k.admits q.restriction v ≡ false) → (g.admit v ≡ true) × (k.admits q.restriction v ≡ false)
      go (inl a) (inr b) = (a, b)
      go (inr a) w = absurd (none (λ u t f. both_ways (g.admit v) a (out u t f).0))
      go (inl a) (inl b) = absurd (none (λ u t f. both_ways (k.admits q.restriction v) (out u t f).1 b))

module _ {R V : Type 0} (k : Domain R V) (P : ℕ → Row R) (n : ℕ) (Q : ℕ → Row R) (m : ℕ) (M : ℕ → Match) (shape : Shape P n) (other : Shape Q m) (coherent : Coherent k P n)
    (c : ℕ) (here : Match) (need : Need) (small : c < m) (stops : Stops k P n Q M c here need) (is : M c ≡ here) (F : ℕ → ℕ) (forced : Forced P n Q M c (amount need) F) where
  abbrev x : ℕ
  x = amount need

  abbrev t : ℕ
  t = n + c + 1

  abbrev deep : ℕ
  deep = forced.deep

  abbrev line : Lineage Q c deep
  line = forced.line

  abbrev on : ℕ → ℕ
  on = ways.on k P n Q m M shape other c here need small stops is deep line

  abbrev place : ℕ → ℕ
  place = ways.place k P n Q m M shape other c here need small stops is deep line

  abbrev Real : ℕ → Type 0
  Real = ways.Real k P n Q m M shape other c here need small stops is deep line

  abbrev up : ℕ → ℕ
  up = parent_of P n Q M

  abbrev by : ℕ → ℕ
  by = role_of P n Q M

  abbrev many : ℕ → ℕ
  many = heads_at k P n F

  abbrev atom : ℕ → ℕ → Bool
  atom s a = (given_at k P n s).atom a

  -- the end of the way
  abbrev end : ℕ
  end = slot_of n c (M c)

  abbrev picked : ℕ → V → Type 0
  picked s v = Picked k P n end need (Q c) s v

  lower : (s : ℕ) → 0 < s → s < t → up s < s
  lower = ways.lower k P n Q m M shape other c here need small stops is

  root : M 0 ≡ At 0
  root = ways.root k P n Q m M shape other c here need small stops is

  -- Of the slots.

  given_own : (s : ℕ) → s < n → given_at k P n s ≡ row_gives k (P s)
  given_own s l = ap (gives k P) (ways.own_own P n Q M s l)

  given_past : (s : ℕ) → n ≤ s → given_at k P n s ≡ silent k
  given_past s l = ap (gives k P) (ways.own_past P n Q M s l)

  peopled : (s : ℕ) → 0 < many s → Real s
  peopled s h = ⊎_elim
      (λ l. ways.row l)
      (λ l.
      let e : (given_at k P n s).lower ≡ 0 = ap (λ g. g.lower) (given_past s l) in
      let w = forced.elsewhere s (omega arith) in
      ways.way w.0 w.1 w.2)
      (cases_lt s n)

  only_real : (s : ℕ) → 0 < s → s < t → Real s → (b : ℕ) → 0 < b → b < t → 0 < many b → up b ≡ up s → by b ≡ by s → b ≡ s
  only_real s z l real b zb lb hb u r = ways.only k P n Q m M shape other c here need small stops is deep line s b z real zb (peopled b hb) u r

  deep_zero : c ≡ 0 → deep ≡ 0
  deep_zero e = ⊎_elim (λ h. absurd (let r = line.rows 0 h in omega arith)) (λ h. omega arith) (cases_lt 0 deep)

  deep_some : 0 < c → 0 < deep
  deep_some z = ⊎_elim (λ h. h) (λ h. absurd (let e : deep ≡ 0 = omega arith in let w = ap (ancestor Q c) (sym e) ∙ line.top in omega arith)) (cases_lt 0 deep)

  last : 0 < c → ways.Last k P n Q m M shape other c here need small stops is
  last = ways.last k P n Q m M shape other c here need small stops is

  -- what is given at the end of the way is what the row there was compared with
  own_end : (z : 0 < c) → own n end ≡ (last z).found
  own_end z = let w = last z in ap (λ v. own n (slot_of n c v)) (is ∙ w.match) ∙ go w.found refl
    where
      go : (o : Option ℕ) → (last z).found ≡ o → own n (slot_of n c (match_of o)) ≡ o
      go None e = ways.own_past P n Q M (n + c) (omega arith)
      go (Some b) e = ways.own_own P n Q M b (ways.inside k P n Q m M shape other c here need small stops is c b (omega arith) (is ∙ (last z).match ∙ ap match_of e))

  given_end : (z : 0 < c) → given_at k P n end ≡ gives k P (last z).found
  given_end z = ap (gives k P) (own_end z)

  -- how many elements the end has
  many_end : (z : 0 < c) → many end ≡ max (gives k P (last z).found).lower x
  many_end z = let e = ap (λ g. g.lower) (given_end z) in let f = forced.end (deep_some z) in omega arith

  counted_end : (lo y : ℕ) → lo ≤ y → max lo y ≡ y
  counted_end lo y l = omega arith

  allows_as : (g : Given V) (a b : ℕ) → a ≡ b → Allows g.lower g.upper b → Allows g.lower g.upper a
  allows_as g a b e h = subst (λ y. Allows g.lower g.upper y) (sym e) h

  -- so many are allowed there by the first form, if the numbers of its row are in order
  allowed_by : (g : Given V) (q : Row R) (w : Need) → Lacks k g q w → Under g.lower g.upper → Allows g.lower g.upper (max g.lower (amount w))
  allowed_by g q w (count {x = y} ok bad least) u = allows_as g _ _ (counted_end g.lower y ok.0) ok
  allowed_by g q w (atoms room bad) u = room_one g.lower g.upper u room
  allowed_by g q w (reading room bad) u = room_one g.lower g.upper u room

  -- each row of the first form has as many elements as it allows
  allowed : (b : ℕ) → 0 < b → b < n → Allows (P b).lower (P b).upper (many b)
  allowed b z l = ⊎_elim on_way off_way (cases_lt 0 (F b))
    where
      lower_is : (given_at k P n b).lower ≡ (P b).lower
      lower_is = ap (λ g. g.lower) (given_own b l)

      off_way : F b ≤ 0 → Allows (P b).lower (P b).upper (many b)
      off_way h = let e : many b ≡ (P b).lower = (let q = lower_is in omega arith) in allows_as (row_gives k (P b)) _ _ e (omega arith, shape.numbers b z l)

      -- the row of the first form that a row on the way was compared with
      found_is : (τ : ℕ) (h : τ < deep) → b ≡ place τ → (ways.on_reached k P n Q m M shape other c here need small stops is deep line τ h).found ≡ Some b
      found_is τ h e = let w = ways.on_reached k P n Q m M shape other c here need small stops is deep line τ h in go w.found (e ∙ ap (slot_of n (on τ)) w.match)
        where
          go : (o : Option ℕ) → b ≡ slot_of n (on τ) (match_of o) → o ≡ Some b
          go None q = absurd (omega arith)
          go (Some d) q = ap Some (sym q)

      at_end : (zc : 0 < c) → b ≡ end → Allows (P b).lower (P b).upper (many b)
      at_end zc e =
          let w = last zc in
          let f : w.found ≡ Some b = sym (own_end zc) ∙ ap (own n) (sym e) ∙ ways.own_own P n Q M b l in
          let g : gives k P w.found ≡ row_gives k (P b) = ap (gives k P) f in
          let count_is : many b ≡ max (gives k P w.found).lower x = ap many e ∙ many_end zc in
          allows_as (row_gives k (P b)) _ _ count_is
          (subst (λ v. Allows v.lower v.upper (max (gives k P w.found).lower x)) g
          (allowed_by (gives k P w.found) (Q c) need w.lacks (subst (λ v. Under v.lower v.upper) (sym g) (shape.numbers b z l))))

      before_end : (τ : ℕ) → 0 < τ → τ < deep → b ≡ place τ → Allows (P b).lower (P b).upper (many b)
      before_end τ zt h e =
          let w = ways.on_reached k P n Q m M shape other c here need small stops is deep line τ h in
          let room = ways.on_room k P n Q m M shape other c here need small stops is deep line τ zt h w in
          let one : F b ≡ 1 = ap F e ∙ forced.way τ zt h in
          let count_is : many b ≡ max (P b).lower 1 = (let q = lower_is in omega arith) in
          allows_as (row_gives k (P b)) _ _ count_is
          (room_one (P b).lower (P b).upper (shape.numbers b z l) (λ shut. room (subst (λ o. Shut k (gives k P o)) (sym (found_is τ h e)) shut)))

      on_way : 0 < F b → Allows (P b).lower (P b).upper (many b)
      on_way h = let w = forced.elsewhere b h in go w.0 w.1 w.2
        where
          go : (τ : ℕ) → τ < deep → b ≡ place τ → Allows (P b).lower (P b).upper (many b)
          go zero u e = at_end (line.rows 0 u) e
          go (suc τ) u e = before_end (suc τ) (omega arith) u e

  -- Numbers of elements and roles are within their limits.

  lower_limit : (s : ℕ) → 0 < s → (given_at k P n s).lower ≤ 999
  lower_limit s z = ⊎_elim
      (λ l. let e = ap (λ g. g.lower) (given_own s l) in omega (arith, limited_lower (P s).lower (P s).upper (shape.limits s z l)))
      (λ l. let e = ap (λ g. g.lower) (given_past s l) in omega arith)
      (cases_lt s n)
    where
      limited_lower : (lo : ℕ) (o : Option ℕ) → Limited lo o → lo ≤ 999
      limited_lower lo None h = h
      limited_lower lo (Some u) h = h.0

  end_some : 0 < c → 0 < end
  end_some z = ways.place_some k P n Q m M shape other c here need small stops is deep line 0 (deep_some z)

  pub amount_limit : 0 < c → x ≤ 1000
  amount_limit z = go need (last z).lacks
    where
      low : (gives k P (last z).found).lower ≤ 999
      low = let e = ap (λ g. g.lower) (given_end z) in omega (arith, lower_limit end (end_some z))

      go : (w : Need) → Lacks k (gives k P (last z).found) (Q c) w → amount w ≤ 1000
      go w (count {x = y} ok bad least) = least_limit _ _ (Q c).lower (Q c).upper y low (other.limits c z small) ok bad least
      go w (atoms room bad) = omega arith
      go w (reading room bad) = omega arith

  many_limit : (s : ℕ) → 0 < s → many s ≤ 1000
  many_limit s z = ⊎_elim
      (λ h. let w = forced.elsewhere s h in go w.0 w.1 w.2)
      (λ h. omega (arith, lower_limit s z))
      (cases_lt 0 (F s))
    where
      go : (τ : ℕ) → τ < deep → s ≡ place τ → many s ≤ 1000
      go zero u e = let f = ap F e ∙ forced.end u in omega (arith, lower_limit s z, amount_limit (line.rows 0 u))
      go (suc τ) u e = let f = ap F e ∙ forced.way (suc τ) (omega arith) u in omega (arith, lower_limit s z)

  role_limit : (s : ℕ) → 0 < s → Real s → by s < 16
  role_limit s z (ways.row l) = subst (λ r. r < 16) (sym (ways.by_own P n Q M s l)) (shape.roles s z l)
  role_limit s z (ways.way τ l e) =
      subst (λ r. r < 16) (sym (ap by e ∙ ways.place_by k P n Q m M shape other c here need small stops is deep line τ l))
      (other.roles (on τ) (line.rows τ l) (let w = ways.on_small k P n Q m M shape other c here need small stops is deep line τ in omega arith))

  -- Readings that are picked are given.

  pub lacks_first : (d : ℕ) (w : Match) (v : Need) → Stops k P n Q M d w v → d ≡ 0 → Lacks k (row_gives k (P 0)) (Q 0) v
  lacks_first d w v (at_first l) e = l
  lacks_first d w v (at_row z matched reaches lacks) e = absurd (omega arith)

  end_first : c ≡ 0 → end ≡ 0
  end_first e = ap (λ i. slot_of n i (M i)) e ∙ ap (slot_of n 0) root

  lacks_end : Lacks k (given_at k P n end) (Q c) need
  lacks_end = ⊎_elim
      (λ e. subst (λ g. Lacks k g (Q c) need) (sym (ap (given_at k P n) (end_first e) ∙ given_own 0 shape.some)) (subst (λ i. Lacks k (row_gives k (P 0)) (Q i) need) (sym e) (lacks_first c here need stops e)))
      (λ ne. subst (λ g. Lacks k g (Q c) need) (sym (given_end (omega arith))) (last (omega arith)).lacks)
      (cases_eq c 0)

  some_given : (s : ℕ) → ((u : V) → (given_at k P n s).admit u ≡ false) → ⊥
  some_given s none = ⊎_elim
      (λ l. coherent s l (λ v. sym (ap (λ g. g.admit v) (given_own s l)) ∙ none v))
      (λ l. let v = k.inhabited.0 in both_ways (k.reads v) (sym (ap (λ g. g.admit v) (given_past s l)) ∙ none v) k.inhabited.1)
      (cases_lt s n)

  read_end : (w : Need) → Lacks k (given_at k P n end) (Q c) w → w ≡ Reading → Read k (given_at k P n end) (Q c) → ⊥
  read_end w (count {x = y} ok bad least) e = let z : ◌≡◌ {A = ℕ} 0 1 = cc in absurd (omega arith)
  read_end w (atoms room bad) e = let z : ◌≡◌ {A = ℕ} 0 1 = cc in absurd (omega arith)
  read_end w (reading room bad) e = bad

  given_admits : (s : ℕ) (v : V) → picked s v → (given_at k P n s).admit v ≡ true
  given_admits s v h = go need refl h
    where
      go : (w : Need) → need ≡ w → Picked k P n end w (Q c) s v → (given_at k P n s).admit v ≡ true
      go (Count y) e p = sampled (given_at k P n s) v p (some_given s)
      go Atoms e p = sampled (given_at k P n s) v p (some_given s)
      go Reading e p = ⊎_elim
          (λ q. (outside k (given_at k P n s) (Q c) v (p.1 q) (subst (λ i. Read k (given_at k P n i) (Q c) → ⊥) (sym q) (read_end need lacks_end e))).0)
          (λ nq. sampled (given_at k P n s) v (p.0 nq) (some_given s))
          (cases_eq s end)

  given_reads : (s : ℕ) (v : V) → picked s v → k.reads v ≡ true
  given_reads s v h = ⊎_elim
      (λ l. k.inside (P s).restriction v (sym (ap (λ g. g.admit v) (given_own s l)) ∙ given_admits s v h))
      (λ l. sym (ap (λ g. g.admit v) (given_past s l)) ∙ given_admits s v h)
      (cases_lt s n)

  -- it is not so that a slot has no such reading
  pub pick_exists : (s : ℕ) → ((v : V) × picked s v → ⊥) → ⊥
  pick_exists s none = go need refl (λ v p. none (v, p))
    where
      given_one : ((v : V) → (given_at k P n s).admit v ≡ true → ⊥) → ⊥
      given_one h = some_given s (λ u. ⊎_elim (λ a. absurd (h u a)) (λ a. a) (cases_Bool ((given_at k P n s).admit u)))

      go : (w : Need) → need ≡ w → ((v : V) → Picked k P n end w (Q c) s v → ⊥) → ⊥
      go (Count y) e h = given_one (λ v a. h v (λ u b. a))
      go Atoms e h = given_one (λ v a. h v (λ u b. a))
      go Reading e h = ⊎_elim
          (λ q. subst (λ i. Read k (given_at k P n i) (Q c) → ⊥) (sym q) (read_end need lacks_end e)
          (λ v a. ⊎_elim (λ b. b) (λ b. absurd (h v (λ nq. absurd (nq q), λ _ u d f. (a, b)))) (cases_Bool (k.admits (Q c).restriction v))))
          (λ nq. given_one (λ v a. h v (λ _ u b. a, λ q. absurd (nq q))))
          (cases_eq s end)

  -- Once the groups are written.
  module _ (g : ℕ) (G : ℕ → Group V) (made : ℕ → Option ℕ) (census : Census up by many atom picked t g G made) where
    abbrev Comes : ℕ → ℕ → Type 0
    Comes = counting.Comes up by many atom picked t lower g G made census

    source : (y : ℕ) → 0 < y → y < g → (s : ℕ) × (0 < s) × (s < t) × (made s ≡ Some y) × Comes s y
    source = counting.source up by many atom picked t lower g G made census

    first_role : (G 0).role ≡ 0
    first_role = census.first.role ∙ ways.by_own P n Q M 0 shape.some ∙ shape.first.1

    lone : Lone G g
    lone = counting.census_lone up by many atom picked t lower g G made census (λ s z l h. only_real s z l (peopled s h))

    pub formed : WellFormed k G g
    formed = record {
      some = census.some;
      few = let a = shape.few in let b = other.few in omega (arith, census.number);
      one = census.first.headcount;
      first = (census.first.parent, first_role);
      parents = λ y z l. let a = source y z l in let e = a.4.stated.parent in omega (arith, a.4.before);
      roles = λ y z l. let a = source y z l in let e = a.4.stated.role in omega (arith, role_limit a.0 a.1 (peopled a.0 a.4.crowd));
      headcounts = λ y z l. let a = source y z l in let e = a.4.stated.headcount in (omega (arith, a.4.crowd), omega (arith, many_limit a.0 a.1));
      apart = λ y z zy u lz p r. let e = lone y z zy (omega arith) (omega arith) lz p r in omega arith;
      reads = λ y l. ⊎_elim
          (λ e. given_reads 0 (G y).reading (subst (λ i. picked 0 (G i).reading) (sym e) census.first.reading))
          (λ ne. let a = source y (omega arith) l in given_reads a.0 (G y).reading a.4.stated.reading)
          (cases_eq y 0);
    }

    -- The groups fit the rows of the first form.

    stated_at : (s y : ℕ) → s < t → made s ≡ Some y → ((a : ℕ) → has (G y).atoms a ≡ atom s a) × picked s (G y).reading
    stated_at s y l e = ⊎_elim
        (λ z.
        let q : 0 ≡ y = same_Some 0 y (sym census.root ∙ subst (λ i. made i ≡ Some y) z e) in
        subst (λ i. ((a : ℕ) → has (G y).atoms a ≡ atom i a) × picked i (G y).reading) (sym z)
        (subst (λ i. ((a : ℕ) → has (G i).atoms a ≡ atom 0 a) × picked 0 (G i).reading) q (census.first.atoms, census.first.reading)))
        (λ nz. let a = counting.comes up by many atom picked t lower g G made census s y (omega arith) l e in (a.stated.atoms, a.stated.reading))
        (cases_eq s 0)

    kept : (s h : ℕ) (z : 0 < s) (l : s < t) (e : made (up s) ≡ Some h) (real : Real s) → counting.Kept up by many atom picked t lower g G made census s h z l e (only_real s z l real) (made s)
    kept s h z l e real = counting.kept up by many atom picked t lower g G made census s h z l e (only_real s z l real)

    row_kept : (b h : ℕ) (z : 0 < b) (l : b < n) → made (P b).parent ≡ Some h → Kin G g h (P b).role (made b) × (heads G g (made b) ≡ many b)
    row_kept b h z l e =
        let w = kept b h z (omega arith) (ap made (ways.up_own P n Q M b l) ∙ e) (ways.row l) in
        (subst (λ r. Kin G g h r (made b)) (ways.by_own P n Q M b l) w.near, w.many_are)

    fitting : Fitting k P n G g made
    fitting = record {
      there = λ s y l e. let w = stated_at s y (omega arith) e in record {
        atoms = λ a h. w.0 a ∙ ap (λ v. v.atom a) (given_own s l) ∙ h;
        reading = sym (ap (λ v. v.admit (G y).reading) (given_own s l)) ∙ given_admits s (G y).reading w.1;
      };
      kin = λ b h z l e. (row_kept b h z l e).0;
      numbers = λ b h z l e. allows_as (row_gives k (P b)) _ _ (row_kept b h z l e).1 (allowed b z l);
    }

    -- The way leads to the row that asks for more.

    place_top : place deep ≡ 0
    place_top = ap (λ i. slot_of n i (M i)) line.top ∙ ap (slot_of n 0) root

    place_kept : (τ h : ℕ) (l : τ < deep) → made (place (suc τ)) ≡ Some h → Kin G g h (Q (on τ)).role (made (place τ)) × (heads G g (made (place τ)) ≡ many (place τ)) × (0 < many (place τ) → (y : ℕ) × (made (place τ) ≡ Some y))
    place_kept τ h l e =
        let w = kept (place τ) h (ways.place_some k P n Q m M shape other c here need small stops is deep line τ l) (ways.place_small k P n Q m M shape other c here need small stops is deep line τ)
        (ap made (ways.place_up k P n Q m M shape other c here need small stops is deep line τ l) ∙ e) (ways.way τ l refl) in
        (subst (λ r. Kin G g h r (made (place τ))) (ways.place_by k P n Q m M shape other c here need small stops is deep line τ l) w.near, w.many_are, w.lives)

    trail_on : (τ h : ℕ) (l : τ < deep) → made (place (suc τ)) ≡ Some h → Trail k Q m G g (on (suc τ)) h → 0 < many (place τ) → (y : ℕ) × (made (place τ) ≡ Some y) × Trail k Q m G g (on τ) y
    trail_on τ h l e way many_some =
        let w = place_kept τ h l e in
        let y = w.2 many_some in
        let near : Kin G g h (Q (on τ)).role (Some y.0) = subst (λ o. Kin G g h (Q (on τ)).role o) y.1 w.0 in
        let inside : on τ < m = (let v = ways.on_small k P n Q m M shape other c here need small stops is deep line τ in omega arith) in
        (y.0, y.1, onward y.0 (line.rows τ l) inside way near)

    at_top : (τ : ℕ) → τ ≡ deep → (y : ℕ) × (made (place τ) ≡ Some y) × Trail k Q m G g (on τ) y
    at_top τ e =
        (0, ap (λ i. made (place i)) e ∙ ap made place_top ∙ census.root, subst (λ i. Trail k Q m G g i 0) (sym (ap on e ∙ line.top)) origin)

    trail : (fuel τ : ℕ) → deep ≤ τ + fuel → 0 < τ → τ ≤ deep → (y : ℕ) × (made (place τ) ≡ Some y) × Trail k Q m G g (on τ) y
    trail zero τ f z l = at_top τ (omega arith)
    trail (suc fuel) τ f z l = ⊎_elim
        (λ h.
        let w = trail fuel (suc τ) (omega arith) (omega arith) h in
        let one = forced.way τ z h in
        trail_on τ w.0 h w.1 w.2 (omega arith))
        (λ h. at_top τ (omega arith))
        (cases_lt τ deep)

    -- the group at the end does not suit the row, or has a number of elements that the row does not allow
    pub data Clash : Type 0 where
      ill_suited : x ≡ 1 → ((y : ℕ) → made end ≡ Some y → Suits k (Q c) (G y) → ⊥) → Clash
      ill_counted : (given_at k P n end).lower ≤ x → (Allows (Q c).lower (Q c).upper x → ⊥) → Clash

    end_small : end < t
    end_small = ways.place_small k P n Q m M shape other c here need small stops is deep line 0

    clash_by : (w : Need) → need ≡ w → Lacks k (given_at k P n end) (Q c) w → Clash
    clash_by w e (count {x = y} ok bad least) =
        let q = ap amount e in
        ill_counted (omega (arith, ok.0)) (λ a. bad (subst (λ v. Allows (Q c).lower (Q c).upper v) q a))
    clash_by w e (atoms room bad) = ill_suited (ap amount e) (λ y q s. let v = stated_at end y end_small q in bad (λ a h. sym (v.0 a) ∙ s.atoms a h))
    clash_by w e (reading room bad) =
        ill_suited (ap amount e) (λ y q s.
        let v = subst (λ d. Picked k P n end d (Q c) end (G y).reading) e (stated_at end y end_small q).1 in
        both_ways (k.admits (Q c).restriction (G y).reading) (outside k (given_at k P n end) (Q c) (G y).reading (v.1 refl) bad).1 s.reading)

    fault_first : c ≡ 0 → Clash → Fault k Q m G g
    fault_first e (ill_suited one h) =
        let at : made end ≡ Some 0 = ap made (end_first e) ∙ census.root in
        unsuited 0 0 (omega arith) origin (λ s. h 0 at (subst (λ i. Suits k (Q i) (G 0)) (sym e) s))
    fault_first e (ill_counted l h) =
        absurd (h (subst (λ i. Allows (Q i).lower (Q i).upper x) (sym e) (let low = other.bare.0 in (omega arith, (let U : Option ℕ → Type 0 = λ o. Under x o in subst U (sym other.bare.1) tt)))))

    fault_later : 0 < c → Clash → Fault k Q m G g
    fault_later z clash = go clash
      where
        l : 0 < deep
        l = deep_some z

        up_end : (y : ℕ) × (made (place 1) ≡ Some y) × Trail k Q m G g (on 1) y
        up_end = trail deep 1 (omega arith) (omega arith) l

        go : Clash → Fault k Q m G g
        go (ill_suited one h) =
            let f = forced.end l in
            let w = trail_on 0 up_end.0 l up_end.1 up_end.2 (omega arith) in
            unsuited c w.0 small w.2 (h w.0 w.1)
        go (ill_counted low h) =
            let w = place_kept 0 up_end.0 l up_end.1 in
            let f = forced.end l in
            let e : heads G g (made end) ≡ x = w.1 ∙ (let q : many end ≡ x = omega arith in q) in
            miscounted c up_end.0 (made end) z small up_end.2 w.0 (λ a. h (subst (λ v. Allows (Q c).lower (Q c).upper v) e a))

    fault : Fault k Q m G g
    fault = let clash = clash_by need refl lacks_end in ⊎_elim (λ e. fault_first e clash) (λ ne. fault_later (omega arith) clash) (cases_eq c 0)

    -- So they are a countermodel.
    pub refuted : Countermodel k P n Q m G g
    refuted =
        let some = total_some G g formed.some (let e = formed.one in omega arith) in
        let alone = well_formed_lone k G g formed in
        let first : made 0 ≡ Some (owner G g 0) = census.root ∙ ap Some (sym (owner_first G g formed.some (well_formed_peopled k G g formed 0 formed.some))) in
        record {
          formed = formed;
          few = omega (arith, census.number);
          first = fitting_meets k P n G g some formed.reads alone made shape.parents fitting 0 0 shape.some first;
          second = λ met. fault_fails k Q m G g some formed.reads alone (well_formed_peopled k G g formed) other.parents formed.some met fault;
        }
