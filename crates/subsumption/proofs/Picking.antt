-- The readings and atoms of slots. Assumes nothing.
use Rattle.std.proofs.Common.{◌≡◌, ℕ, ◌<◌, ◌≤◌, Bool, true, false, eqb, List, length, get_or, sym, refl, ap, ◌∙◌}
use Rattle.std.proofs.lemmas.List.{get_or_read}
use Rattle.std.proofs.lemmas.Bool.{eqb-true, eqb-false}
use Rattle.kinds.specs.Domain.{Domain, Whole, Member, Separates}
use Rattle.masks.specs.Masks.{has}
use Rattle.masks.proofs.Digits.{has_zero}
use Rattle.rows.specs.Tables.{rows_of}
use Rattle.rows.specs.declared.row.Row.{Row}
use Rattle.subsumption.specs.Given.{gives, Sample, Outside}
use Rattle.subsumption.specs.Outcome.{matches_of}
use Rattle.subsumption.specs.Slots.{slot_of, given_at, Picked}
use Rattle.subsumption.specs.Written.{Picks, LikenessIs}
use Rattle.subsumption.specs.declared.countermodel.Likeness.{Likeness}
use Rattle.subsumption.specs.declared.gap.Match.{Match}
use Rattle.subsumption.specs.declared.gap.Need.{Need}
use Rattle.subsumption.specs.declared.gap.Need.TheVariants.{Count, Atoms, Reading}
use Rattle.subsumption.specs.declared.gap.Short.{Short}
use Rattle.subsumption.proofs.Ways.{own_own, own_past}

module _ {R V : Type 0} (k : Domain R V) where
  -- what a restriction admits, as what is given
  picked_by : (P : ℕ → Row R) (n : ℕ) (end s : ℕ) (q : Row R) (a b : R) (need : Need) (v : V) → ((u : V) → k.admits a u ≡ (given_at k P n s).admit u) → b ≡ q.restriction → Picks k a b need (eqb s end) v → Picked k P n end need q s v
  picked_by P n end s q a b need v same is h = go need h
    where
      sample : Member k a v → Sample (given_at k P n s) v
      sample m u t = sym (same v) ∙ m u (same u ∙ t)

      outside : Separates k a b v → Outside k (given_at k P n s) q v
      outside m u t f =
          let w = m u (same u ∙ t, ap (λ r. k.admits r u) is ∙ f) in
          (sym (same v) ∙ w.0, sym (ap (λ r. k.admits r v) is) ∙ w.1)

      at_end : (t : Bool) → eqb s end ≡ t → Picks k a b Reading t v → ((s ≡ end → ⊥) → Sample (given_at k P n s) v) × (s ≡ end → Outside k (given_at k P n s) q v)
      at_end true e m = (λ ne. absurd (ne (eqb-true s end e)), λ _. outside m)
      at_end false e m = (λ _. sample m, λ q. absurd (eqb-false s end e q))

      go : (w : Need) → Picks k a b w (eqb s end) v → Picked k P n end w q s v
      go (Count x) m = sample m
      go Atoms m = sample m
      go Reading m = at_end (eqb s end) refl m

  module _ (ps qs : List (Row R)) (ms : List Match) (short : Short) (s : ℕ) (asked : Row R) (here : short.row < length qs) (is : asked ≡ get_or qs short.row asked) where
    abbrev end : ℕ
    end = slot_of (length ps) short.row (matches_of ms short.row)

    asked_is : (e : Row R) → asked.restriction ≡ (rows_of e qs short.row).restriction
    asked_is e = ap (λ r. r.restriction) (get_or_read qs short.row asked here is e)

    -- a slot of the first form
    pub like_own : (row : Row R) (r : Likeness V) → s < length ps → row ≡ get_or ps s row → r.atoms ≡ row.atoms → Picks k row.restriction asked.restriction short.need (eqb s end) r.reading → LikenessIs k ps qs ms short s r
    like_own row r l at atoms picks = record {
      atoms = λ e a. ap (λ x. has x a) atoms ∙ ap (λ x. has x.atoms a) (get_or_read ps s row l at e) ∙ sym (ap (λ o. (gives k (rows_of e ps) o).atom a) (own_own (rows_of e ps) (length ps) (rows_of e qs) (matches_of ms) s l));
      reading = λ e. picked_by (rows_of e ps) (length ps) end s (rows_of e qs short.row) row.restriction asked.restriction short.need r.reading
          (λ u. ap (λ x. k.admits x.restriction u) (get_or_read ps s row l at e) ∙ sym (ap (λ o. (gives k (rows_of e ps) o).admit u) (own_own (rows_of e ps) (length ps) (rows_of e qs) (matches_of ms) s l)))
          (asked_is e) picks;
    }

    -- a slot that the first form lacks
    pub like_new : (w : R) (r : Likeness V) → length ps ≤ s → r.atoms ≡ 0 → Whole k w → Picks k w asked.restriction short.need (eqb s end) r.reading → LikenessIs k ps qs ms short s r
    like_new w r l atoms whole picks = record {
      atoms = λ e a. ap (λ x. has x a) atoms ∙ has_zero a ∙ sym (ap (λ o. (gives k (rows_of e ps) o).atom a) (own_past (rows_of e ps) (length ps) (rows_of e qs) (matches_of ms) s l));
      reading = λ e. picked_by (rows_of e ps) (length ps) end s (rows_of e qs short.row) w asked.restriction short.need r.reading
          (λ u. whole u ∙ sym (ap (λ o. (gives k (rows_of e ps) o).admit u) (own_past (rows_of e ps) (length ps) (rows_of e qs) (matches_of ms) s l)))
          (asked_is e) picks;
    }
