-- Where no row of the second form asks for more than the first gives, all that meets the first meets the second. Assumes nothing.
use Rattle.std.proofs.Common.{◌≡◌, ℕ, zero, suc, ◌+◌, ◌<◌, ◌≤◌, true, Some, None, Option, sym, subst, arith}
use Rattle.std.proofs.lemmas.Bool.{false≢true}
use Rattle.kinds.specs.Domain.{Domain}
use Rattle.masks.specs.Masks.{has}
use Rattle.concepts.specs.Interpretations.{Interpretation, how_many}
use Rattle.concepts.proofs.Meanings.{count_some}
use Rattle.rows.specs.Hanging.{child_in}
use Rattle.rows.specs.Numbers.{Allows}
use Rattle.rows.specs.Tables.{Meets, meets}
use Rattle.rows.specs.declared.row.Row.{Row}
use Rattle.rows.proofs.Hanging.{child_some}
use Rattle.rows.proofs.Rooted.{Earlier}
use Rattle.subsumption.specs.Given.{gives, Marked, Read, shut, room}
use Rattle.subsumption.specs.Matches.{hooks, match_of, Reaches, below_row, below_none, Step, passed, met, Matched}
use Rattle.subsumption.specs.declared.gap.Match.{Match}
use Rattle.subsumption.specs.declared.gap.Match.TheVariants.{At, Absent, Passed}

module _ {R V : Type 0} (k : Domain R V) (P : ℕ → Row R) (n : ℕ) (some : 0 < n) (Q : ℕ → Row R) (m : ℕ) (earlier : Earlier Q m) (M : ℕ → Match) (matched : Matched k P n Q M m) (y : Interpretation k) where
  -- what element j is known to be by the match of a row
  abbrev Known : Match → ℕ → Type 0
  Known (At b) j = (b < n) × Meets y P n b j
  Known Absent j = Unit {0}
  Known Passed j = ⊥

  -- what is given to element j by a row or by none
  abbrev Has : Option ℕ → ℕ → Type 0
  Has None j = Unit {0}
  Has (Some b) j = (b < n) × Meets y P n b j

  -- what is given at a match, and so of the fillers of an element that is known by it
  pub record Supply (o : Option ℕ) (r j : ℕ) : Type 0 where
    pub numbers : Allows (gives k P o).lower (gives k P o).upper (how_many (y.filler j r) y.size)
    pub fillers : (h : ℕ) → h < y.size → y.filler j r h ≡ true → Has o h

  supplied : (r j : ℕ) (up : Match) (o : Option ℕ) → Reaches k P n r up o → Known up j → Supply o r j
  supplied r j up o (below_row {a = a} e) known = go o e
    where
      part : (b : ℕ) → child_in (hooks P) n a r ≡ Some b → Meets y P n a j → Supply (Some b) r j
      part b q (meets p u v w) =
          let s = child_some (hooks P) n a r b q in
          let z : 0 < b = omega (arith, s.0) in
          record {
            numbers = subst (λ x. Allows (P b).lower (P b).upper (how_many (y.filler j x) y.size)) s.2.role (v b z s.1 s.2.parent);
            fillers = λ h l f. (s.1, w b z s.1 s.2.parent h l (subst (λ x. y.filler j x h ≡ true) (sym s.2.role) f));
          }

      go : (o : Option ℕ) → o ≡ child_in (hooks P) n a r → Supply o r j
      go None q = record { numbers = (omega arith, tt); fillers = λ h l f. tt }
      go (Some b) q = part b (sym q) known.1
  supplied r j up o below_none known = record { numbers = (omega arith, tt); fillers = λ h l f. tt }

  -- an element of which a row or none is known has what that gives
  marks : (q : Row R) (o : Option ℕ) (j : ℕ) → Has o j → Marked k (gives k P o) q → (x : ℕ) → has q.atoms x ≡ true → y.atom j x ≡ true
  marks q None j h marked x e = absurd (false≢true (marked x e))
  marks q (Some b) j h marked x e = go h.1
    where
      go : Meets y P n b j → y.atom j x ≡ true
      go (meets p u v w) = p x (marked x e)

  reads : (q : Row R) (o : Option ℕ) (j : ℕ) → j < y.size → Has o j → Read k (gives k P o) q → k.admits q.restriction (y.reading j) ≡ true
  reads q None j l h read = read (y.reading j) (y.reads j l)
  reads q (Some b) j l h read = go h.1
    where
      go : Meets y P n b j → k.admits q.restriction (y.reading j) ≡ true
      go (meets p u v w) = read (y.reading j) u

  known_of : (o : Option ℕ) (j : ℕ) → Has o j → Known (match_of o) j
  known_of None j h = h
  known_of (Some b) j h = h

  -- what a row asks of the fillers of an element that is known by the match of its parent
  pub record Granted (q : Row R) (here : Match) (j : ℕ) : Type 0 where
    pub numbers : Allows q.lower q.upper (how_many (y.filler j q.role) y.size)
    pub fillers : (h : ℕ) → h < y.size → y.filler j q.role h ≡ true
        → ((x : ℕ) → has q.atoms x ≡ true → y.atom h x ≡ true) × (k.admits q.restriction (y.reading h) ≡ true) × Known here h

  granted : (q : Row R) (up here : Match) (j : ℕ) → Step k P n q up here → Known up j → Granted q here j
  granted q up here j passed known = absurd known
  granted q up here j (met {o = o} reaches (shut counted closed)) known =
      let s = supplied q.role j up o reaches known in
      record {
        numbers = counted _ s.numbers;
        fillers = λ h l f. absurd (omega (arith, closed _ s.numbers, count_some (y.filler j q.role) y.size h l f));
      }
  granted q up here j (met {o = o} reaches (room counted more marked read)) known =
      let s = supplied q.role j up o reaches known in
      record {
        numbers = counted _ s.numbers;
        fillers = λ h l f. let w = s.fillers h l f in (marks q o h w marked, reads q o h l w read, known_of o h w);
      }

  -- an element that has what a row asks of itself, and is known by its match, meets the row
  meets_by : (fuel c j : ℕ) → m ≤ c + fuel → c < m → ((x : ℕ) → has (Q c).atoms x ≡ true → y.atom j x ≡ true) → k.admits (Q c).restriction (y.reading j) ≡ true → Known (M c) j → Meets y Q m c j
  meets_by zero c j f l a r known = absurd (omega arith)
  meets_by (suc fuel) c j f l a r known =
      let at : (b : ℕ) → 0 < b → b < m → (Q b).parent ≡ c → Granted (Q b) (M b) j = λ b z lb p. granted (Q b) (M (Q b).parent) (M b) j (matched.steps b z lb) (subst (λ x. Known (M x) j) (sym p) known) in
      meets a r
      (λ b z lb p. (at b z lb p).numbers)
      (λ b z lb p h lh e. let w = (at b z lb p).fillers h lh e in meets_by fuel b h (omega (arith, earlier b z lb)) lb w.0 w.1 w.2)

  pub included : 0 < m → (i : ℕ) → i < y.size → Meets y P n 0 i → Meets y Q m 0 i
  included more i l given =
      meets_by m 0 i (omega arith) more
      (marks (Q 0) (Some 0) i (some, given) matched.marked)
      (reads (Q 0) (Some 0) i l (some, given) matched.read)
      (subst (λ x. Known x i) (sym matched.first) (some, given))
