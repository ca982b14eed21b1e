-- Comparing what a row asks with what is given at its path. Assumes nothing.
use Rattle.std.proofs.Common.{◌≡◌, ℕ, ◌<◌, List, length, Some, None, Ok, Err, Option, Result, IfSome, sym, ap, ◌∙◌, subst₂}
use Rattle.kinds.specs.Domain.{Domain, Within}
use Rattle.masks.specs.Masks.{has, Subset}
use Rattle.rows.specs.Numbers.{Allows, ClosesOff, Beyond}
use Rattle.rows.specs.declared.row.Row.{Row}
use Rattle.rows.specs.Hanging.{child_in}
use Rattle.rows.specs.Tables.{rows_of}
use Rattle.rows.proofs.Hanging.{child_some}
use Rattle.concepts.proofs.Verdicts.{element}
use Rattle.subsumption.specs.Demands.{Asks, Gives}
use Rattle.subsumption.specs.Given.{Given, row_gives, gives, Counted, Shut, Marked, Read, Lacks, count}
use Rattle.subsumption.specs.Matches.{hooks, match_of, Reaches, met}
use Rattle.subsumption.specs.Outcome.{Compares, Turns}
use Rattle.subsumption.specs.declared.demand.Demand.{Demand}
use Rattle.subsumption.specs.declared.gap.Gap.{Gap}
use Rattle.subsumption.specs.declared.gap.Match.{Match}
use Rattle.subsumption.specs.declared.gap.Need.TheVariants.{Count}

-- numbers that are the same allow the same
allows_moved : (lo lo' : ℕ) (up up' : Option ℕ) (n : ℕ) → lo ≡ lo' → up ≡ up' → Allows lo up n → Allows lo' up' n
allows_moved lo lo' up up' n e f h = let A : ℕ → Option ℕ → Type 0 = λ x y. Allows x y n in subst₂ A e f h

-- a demand that asks what a row asks gives what the row gives
pub asks_gives : {R V : Type 0} (k : Domain R V) (d : Demand R) (q : Row R) → Asks d q → Gives k d (row_gives k q)
asks_gives k d q s = record {
  lower = s.lower;
  upper = s.upper;
  atom = λ x. ap (λ a. has a x) s.atoms;
  admit = λ v. ap (λ r. k.admits r v) s.restriction;
}

-- A demand d that says what is given, and a demand a that asks what a row asks.
module _ {R V : Type 0} (k : Domain R V) (d a : Demand R) (g : Given V) (q : Row R) (w : Gives k d g) (s : Asks a q) where
  given_allows : (n : ℕ) → Allows g.lower g.upper n → Allows d.bounds.lower d.bounds.upper n
  given_allows n h = allows_moved _ _ _ _ n (sym w.lower) (sym w.upper) h

  allows_given : (n : ℕ) → Allows d.bounds.lower d.bounds.upper n → Allows g.lower g.upper n
  allows_given n h = allows_moved _ _ _ _ n w.lower w.upper h

  asked_allows : (n : ℕ) → Allows q.lower q.upper n → Allows a.bounds.lower a.bounds.upper n
  asked_allows n h = allows_moved _ _ _ _ n (sym s.lower) (sym s.upper) h

  allows_asked : (n : ℕ) → Allows a.bounds.lower a.bounds.upper n → Allows q.lower q.upper n
  allows_asked n h = allows_moved _ _ _ _ n s.lower s.upper h

  pub beyond_lacks : (x : ℕ) → Beyond d.bounds.lower d.bounds.upper a.bounds.lower a.bounds.upper (Some x) → Lacks k g q (Count x)
  beyond_lacks x h = count
      (allows_given x h.0)
      (λ y. h.1 (asked_allows x y))
      (λ y yes_here not_there. h.2 y (given_allows y yes_here) (λ z. not_there (allows_asked y z)))

  pub beyond_counted : Beyond d.bounds.lower d.bounds.upper a.bounds.lower a.bounds.upper None → Counted k g q
  beyond_counted h n y = allows_asked n (h n (given_allows n y))

  pub closed_shut : ClosesOff d.bounds.lower d.bounds.upper → Shut k g
  closed_shut h n y = h n (given_allows n y)

  pub shut_closed : Shut k g → ClosesOff d.bounds.lower d.bounds.upper
  shut_closed h n y = h n (allows_given n y)

  pub subset_marked : Subset a.atoms d.atoms → Marked k g q
  subset_marked h x e = sym (w.atom x) ∙ h x (ap (λ m. has m x) s.atoms ∙ e)

  pub marked_subset : Marked k g q → Subset a.atoms d.atoms
  marked_subset h x e = w.atom x ∙ h x (sym (ap (λ m. has m x) s.atoms) ∙ e)

  pub within_read : Within k d.restriction a.restriction → Read k g q
  within_read h v e = sym (ap (λ r. k.admits r v) s.restriction) ∙ h v (w.admit v ∙ e)

  pub read_within : Read k g q → Within k d.restriction a.restriction
  read_within h v e = ap (λ r. k.admits r v) s.restriction ∙ h v (sym (w.admit v) ∙ e)

-- a child of a form's row is one of its rows
pub child_inside : {R : Type 0} (xs : List (Row R)) (a r : ℕ) (o : Option ℕ) → 0 < length xs → ((e : Row R) → o ≡ child_in (hooks (rows_of e xs)) (length xs) a r) → IfSome o (λ b. b < length xs)
child_inside xs a r None some is = tt
child_inside xs a r (Some b) some is = let e = (element xs 0 some).0 in (child_some (hooks (rows_of e xs)) (length xs) a r b (sym (is e))).1

-- a child is the same by the same rows
pub child_moved : {R : Type 0} (xs ps : List (Row R)) (a' a r' r : ℕ) (o : Option ℕ) (e : Row R) → xs ≡ ps → a' ≡ a → r' ≡ r
    → o ≡ child_in (hooks (rows_of e xs)) (length xs) a' r' → o ≡ child_in (hooks (rows_of e ps)) (length ps) a r
child_moved xs ps a' a r' r o e u v w h =
    h
    ∙ ap (λ zs. child_in (hooks (rows_of e zs)) (length zs) a' r') u
    ∙ ap (λ i. child_in (hooks (rows_of e ps)) (length ps) i r') v
    ∙ ap (λ t. child_in (hooks (rows_of e ps)) (length ps) a t) w

-- Comparing a row, from the match of its parent.
pub turned : {R V : Type 0} (k : Domain R V) (q : Row R) (up : Match) (P : ℕ → Row R) (n : ℕ) (o : Option ℕ) (r : Result Match Gap)
    → Reaches k P n q.role up o → Compares k (gives k P o) q (match_of o) r → Turns k P n q up r
turned k q up P n o (Ok w) reaches h = met reaches h
turned k q up P n o (Err gap) reaches h = (o, reaches, h.0, h.1)
