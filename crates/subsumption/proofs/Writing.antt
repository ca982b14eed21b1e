-- Writing groups into a slice, one slot after another. Assumes nothing.
use Rattle.std.proofs.Common.{◌≡◌, ℕ, ◌+◌, ◌<◌, ◌≤◌, ◌⊎◌, List, length, set, Some, None, Option, sym, refl, ap, ◌∙◌, subst, inl, inr, ⊎_elim, arith, length-set}
use Rattle.std.proofs.lemmas.Bool.{cases_eq}
use Rattle.std.proofs.lemmas.Option.{none-some, same_Some}
use Rattle.std.proofs.lemmas.List.{get_or-set_same, get_or-set_other}
use Rattle.kinds.specs.Domain.{Domain}
use Rattle.rows.specs.Groups.{groups_of}
use Rattle.rows.specs.declared.group.Group.{Group}
use Rattle.rows.specs.declared.row.Row.{Row}
use Rattle.subsumption.specs.Written.{GroupIs, GroupOf, CensusOf, Falls, up_of, by_of, many_of, atom_of, picked_of, Writes}
use Rattle.subsumption.specs.declared.gap.Match.{Match}
use Rattle.subsumption.specs.declared.gap.Short.{Short}
use Rattle.subsumption.proofs.Counting.{census_first, census_none, census_some}
use Rattle.subsumption.proofs.Slotting.{slots, fresh, fresh_size, fresh_first, fresh_other}

module _ {R V : Type 0} (k : Domain R V) (ps qs : List (Row R)) (ms : List Match) (fs : List ℕ) (short : Short) (old : List (Group V)) where
  abbrev t : ℕ
  t = length ps + short.row + 1

  -- the first s slots have been gone through, and g groups are written
  pub record Sofar (gs : List (Group V)) (rs : List (Option ℕ)) (s g : ℕ) : Type 0 where
    pub room : length rs ≡ 256
    pub size : length gs ≡ length old
    pub some : 0 < g
    pub few : g ≤ s
    pub past : (d : Group V) (x : ℕ) → g ≤ x → groups_of d gs x ≡ groups_of d old x
    pub inside : (b h : ℕ) → slots rs b ≡ Some h → h < g
    pub later : (b : ℕ) → s ≤ b → slots rs b ≡ None
    pub census : (e : Row R) (d : Group V) → Falls k ps qs ms fs short e → CensusOf k ps qs ms fs short e s g (groups_of d gs) (slots rs)

  -- the same, under other names
  pub moved : {gs gs' : List (Group V)} {rs rs' : List (Option ℕ)} {s g g' : ℕ} → gs' ≡ gs → rs' ≡ rs → g' ≡ g → Sofar gs rs s g → Sofar gs' rs' s g'
  moved a b c so = rw (a, b, c) so

  pub started : (x : Group V) → 0 < length old → GroupIs k ps qs ms fs short 0 0 1 x → Sofar (set old 0 x) (fresh 256) 1 1
  started x some is = record {
    room = fresh_size 256;
    size = length-set old 0 x;
    some = omega arith;
    few = omega arith;
    past = λ d y l. get_or-set_other old 0 y x d (λ e. omega arith);
    inside = λ b h e. ⊎_elim
        (λ z. let q = same_Some 0 h (sym (fresh_first 256 (omega arith)) ∙ ap (slots (fresh 256)) (sym z) ∙ e) in omega arith)
        (λ z. absurd (none-some h (sym (fresh_other 256 b z) ∙ e)))
        (cases_eq b 0);
    later = λ b l. fresh_other 256 b (λ e. omega arith);
    census = λ e d falls.
        census_first (up_of k ps qs ms fs short e) (by_of k ps qs ms fs short e) (many_of k ps qs ms fs short e) (atom_of k ps qs ms fs short e) (picked_of k ps qs ms fs short e) t falls
        (groups_of d (set old 0 x)) (slots (fresh 256)) (fresh_first 256 (omega arith))
        (subst (λ y. GroupOf k ps qs ms fs short e 0 0 1 y) (sym (get_or-set_same old 0 x d some)) (is e));
  }

  -- Slot s, which hangs from slot p and has n elements.
  module _ (gs : List (Group V)) (rs : List (Option ℕ)) (s g p n : ℕ) (so : Sofar gs rs s g) (z : 0 < s) (l : s < t)
      (up : (e : Row R) → p ≡ up_of k ps qs ms fs short e s) (many : (e : Row R) → n ≡ many_of k ps qs ms fs short e s) where
    pub passed : (slots rs p ≡ None) ⊎ (n ≡ 0) → Sofar gs rs (s + 1) g
    passed w = record {
      room = so.room;
      size = so.size;
      some = so.some;
      few = let f = so.few in omega arith;
      past = so.past;
      inside = so.inside;
      later = λ b u. so.later b (omega arith);
      census = λ e d falls.
          census_none (up_of k ps qs ms fs short e) (by_of k ps qs ms fs short e) (many_of k ps qs ms fs short e) (atom_of k ps qs ms fs short e) (picked_of k ps qs ms fs short e) t falls
          s g (groups_of d gs) (slots rs) z l (so.census e d falls) (slots rs) (λ b u. refl) (so.later s (omega arith))
          (⊎_elim (λ v. inl (ap (slots rs) (sym (up e)) ∙ v)) (λ v. inr (sym (many e) ∙ v)) w);
    }

    pub stepped : (h : ℕ) (x : Group V) → slots rs p ≡ Some h → 0 < n → GroupIs k ps qs ms fs short s h n x → g < length gs → s < 256 → Sofar (set gs g x) (set rs s (Some g)) (s + 1) (g + 1)
    stepped h x from crowd is fits small = record {
      room = length-set rs s (Some g) ∙ so.room;
      size = length-set gs g x ∙ so.size;
      some = omega arith;
      few = let f = so.few in omega arith;
      past = λ d y u. get_or-set_other gs g y x d (λ e. omega arith) ∙ so.past d y (omega arith);
      inside = λ b h' e. ⊎_elim
          (λ q. let w = same_Some g h' (sym own ∙ ap (slots (set rs s (Some g))) (sym q) ∙ e) in omega arith)
          (λ q. let w = so.inside b h' (sym (others b q) ∙ e) in omega arith)
          (cases_eq b s);
      later = λ b u. others b (λ e. omega arith) ∙ so.later b (omega arith);
      census = λ e d falls.
          census_some (up_of k ps qs ms fs short e) (by_of k ps qs ms fs short e) (many_of k ps qs ms fs short e) (atom_of k ps qs ms fs short e) (picked_of k ps qs ms fs short e) t falls
          s g (groups_of d gs) (slots rs) z l (so.census e d falls) (slots (set rs s (Some g))) (λ b u. others b (λ q. omega arith))
          h (groups_of d (set gs g x)) (λ y u. get_or-set_other gs g y x d (λ q. omega arith)) own (ap (slots rs) (sym (up e)) ∙ from)
          (subst (λ y. 0 < y) (many e) crowd)
          (subst (λ y. GroupOf k ps qs ms fs short e s h (many_of k ps qs ms fs short e s) y) (sym (get_or-set_same gs g x d fits)) (subst (λ y. GroupOf k ps qs ms fs short e s h y x) (many e) (is e)));
    }
      where
        own : slots (set rs s (Some g)) s ≡ Some g
        own = get_or-set_same rs s (Some g) None (omega (arith, so.room))

        others : (b : ℕ) → (b ≡ s → ⊥) → slots (set rs s (Some g)) b ≡ slots rs b
        others b ne = get_or-set_other rs s b (Some g) None ne

  pub written : (gs : List (Group V)) (rs : List (Option ℕ)) (g : ℕ) → Sofar gs rs t g → Writes k ps qs ms fs short g gs
  written gs rs g so e d falls = (slots rs, so.census e d falls)
