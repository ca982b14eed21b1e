-- What stands in a ledger, and what stands there after something was put. Assumes nothing.
use Rattle.std.proofs.Common.{◌≡◌, ℕ, ◌<◌, Bool, true, false, eqb, ◌⊎◌, is_some, Some, None, Decides, Option, sym, refl, ◌∙◌, subst, inl, inr, ⊎_elim, arith}
use Rattle.std.proofs.lemmas.Bool.{cond_both, eqb-true, both_ways}
use Rattle.orders.specs.Ledgers.{Ledger, put, nothing, Proper, Below}

module _ {E : Type 0} where
  -- what a test of a place says
  pub some_of : (o : Option E) → true ≡ is_some o → (e : E) × (o ≡ Some e)
  some_of None t = absurd (both_ways false refl (sym t))
  some_of (Some e) t = (e, refl)

  pub none_of : (o : Option E) → false ≡ is_some o → o ≡ None
  none_of None t = refl
  none_of (Some e) t = absurd (both_ways false refl t)

  pub none_from : (o : Option E) → ((e : E) → o ≡ Some e → ⊥) → o ≡ None
  none_from None h = refl
  none_from (Some e) h = absurd (h e refl)

  pub never : (e : E) → None ≡ Some e → ⊥
  never e t = let z : ◌≡◌ {A = ℕ} 0 1 = cc in omega arith

  pub same_some : (o : Option E) (e f : E) → o ≡ Some e → o ≡ Some f → e ≡ f
  same_some o e f x y = cc

  -- what decides the order of two entries decides it of their places
  pub below_decides : (le : E → E → Type 0) (L : Ledger E) (p q : ℕ) (e f : E) (r : Bool) → L p ≡ Some e → L q ≡ Some f → Decides r (le e f) → Decides r (Below le L p q)
  below_decides le L p q e f r is at d = (
    λ t. record { first = e; second = f; held_p = is; held_q = at; less = d.0 t },
    λ x. d.1 (subst (λ (y : E). le y f) (same_some _ _ _ x.held_p is) (subst (λ (y : E). le x.first y) (same_some _ _ _ x.held_q at) x.less)),
  )

  -- an entry after something was struck was there before
  pub older : (L : Ledger E) (p q : ℕ) (e : E) → put L p None q ≡ Some e → L q ≡ Some e
  older L p q e = cond_both (eqb q p) None (L q) (λ o. o ≡ Some e → L q ≡ Some e) (λ _ x. absurd (never e x)) (λ _ x. x)

  -- an entry after one was entered is that, or was there before
  pub newer : (L : Ledger E) (p q : ℕ) (e f : E) → put L p (Some e) q ≡ Some f → ((q ≡ p) × (e ≡ f)) ⊎ (L q ≡ Some f)
  newer L p q e f = cond_both (eqb q p) (Some e) (L q) (λ o. o ≡ Some f → ((q ≡ p) × (e ≡ f)) ⊎ (L q ≡ Some f)) (λ t x. inl (eqb-true q p t, same_some (Some f) e f (sym x) refl)) (λ _ x. inr x)

  module _ (le : E → E → Type 0) (n : ℕ) where
    -- nothing held, an entry struck, an entry entered that is equivalent to none
    pub proper_none : Proper le nothing n
    proper_none = record { inside = λ p e is. absurd (never e is); apart = λ p q e f is _ _ _. absurd (never e is) }

    pub proper_struck : (L : Ledger E) (p : ℕ) → Proper le L n → Proper le (put L p None) n
    proper_struck L p h = record {
      inside = λ q e is. h.inside q e (older L p q e is);
      apart = λ q z e f is at. h.apart q z e f (older L p q e is) (older L p z f at);
    }

    pub proper_entered : (L : Ledger E) (p : ℕ) (e : E) → p < n → ((z : ℕ) (f : E) → L z ≡ Some f → le e f → le f e → ⊥) → Proper le L n → Proper le (put L p (Some e)) n
    proper_entered L p e lt unknown h = record {
      inside = λ q f is. ⊎_elim (λ new. rw new.0 lt) (λ old. h.inside q f old) (newer L p q e f is);
      apart = λ q z f d is at up down. level q z f d up down (newer L p q e f is) (newer L p z e d at);
    }
      where
        level : (q z : ℕ) (f d : E) → le f d → le d f → ((q ≡ p) × (e ≡ f)) ⊎ (L q ≡ Some f) → ((z ≡ p) × (e ≡ d)) ⊎ (L z ≡ Some d) → q ≡ z
        level q z f d up down (inl a) (inl b) = a.0 ∙ sym b.0
        level q z f d up down (inl a) (inr at) = absurd (unknown z d at (rw a.1 up) (rw a.1 down))
        level q z f d up down (inr is) (inl b) = absurd (unknown q f is (rw b.1 down) (rw b.1 up))
        level q z f d up down (inr is) (inr at) = h.apart q z f d is at up down
