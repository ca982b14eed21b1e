-- Laying one row after another. Assumes nothing.
use Rattle.std.proofs.Common.{◌≡◌, ℕ, zero, suc, ◌+◌, ◌<◌, ◌≤◌, Bool, true, ◌⊎◌, List, [], ◌∷◌, length, sym, refl, ap, ◌∙◌, subst, inl, inr, ⊎_elim, arith, length-append}
use Rattle.std.specs.List.{AllByRecursion}
use Rattle.std.proofs.lemmas.Bool.{cases_lt, cases_eq}
use Rattle.std.proofs.ByRecursion.{All-weaker}
use Rattle.kinds.specs.Domain.{Domain}
use Rattle.forms.specs.Labels.{Label}
use Rattle.rows.specs.Tables.{then_role, Topmost, Stands, root, below, Before, shorter}
use Rattle.forms.specs.Finished.{Open}
use Rattle.forms.specs.Laid.{Placed}
use Rattle.forms.specs.Laying.{Next, Final, Laid}
use Rattle.forms.specs.Few.{Ascends, Few}
use Rattle.rows.specs.declared.row.Row.{Row}
use Rattle.rows.proofs.Rooted.{path_of}
use Rattle.forms.proofs.Successors.{before_trans}
use Rattle.rows.proofs.Standing.{stands_once}

-- tables that agree on their first rows have them at the same paths
module _ {R : Type 0} (A B : ℕ → Row R) (n : ℕ) (agree : (c : ℕ) → c < n → A c ≡ B c) (parents : (c : ℕ) → 0 < c → c < n → (A c).parent < c) where
  pub stands_agree : (c : ℕ) (ρ : List ℕ) → c < n → Stands A c ρ → Stands B c ρ
  stands_agree c ρ l root = root
  stands_agree c ρ l (below {π = σ} d some s) =
      let up = stands_agree (A d).parent σ (omega (arith, parents d some l)) s in
      subst (λ (row : Row R). Stands B row.parent σ → Stands B d (then_role σ row.role)) (sym (agree d l)) (below d some) up

-- a path is no longer than the number of its row
pub stands_depth : {R : Type 0} (T : ℕ → Row R) (n : ℕ) → ((c : ℕ) → 0 < c → c < n → (T c).parent < c) → (c : ℕ) (ρ : List ℕ) → c < n → Stands T c ρ → length ρ ≤ c
stands_depth T n parents c ρ l root = omega arith
stands_depth T n parents c ρ l (below {π = σ} d some s) =
    let p = parents d some l in
    let q = stands_depth T n parents (T d).parent σ (omega arith) s in
    let e = length-append σ ((T d).role ∷ []) in
    omega arith

module _ {R V : Type 0} (k : Domain R V) (f : List ℕ → Label V) (w : List ℕ → Bool) where
  -- one row, at the empty path
  pub laid_first : (T : ℕ → Row R) (dead : ℕ → Bool) → Topmost (T 0) → w [] ≡ true → Open k (T 0) (f []) → dead 0 ≡ (f []).empty → Laid k f w T dead 1 []
  laid_first T dead top written content flag = record {
    some = omega arith;
    first = top;
    parents = λ c some l. absurd (omega arith);
    order = λ b c ρ τ l m p q. absurd (omega arith);
    written = λ c ρ l s. subst (λ z. w z ≡ true) (sym (only c ρ l s)) written;
    filled = λ c ρ l s. let z : c ≡ 0 = omega arith in subst (λ x. Open k (T x) (f ρ)) (sym z) (subst (λ x. Open k (T 0) (f x)) (sym (only c ρ l s)) content);
    flagged = λ c ρ l s. let z : c ≡ 0 = omega arith in ap dead z ∙ flag ∙ ap (λ x. (f x).empty) (sym (only c ρ l s));
    last = λ c e. let z : c ≡ 0 = omega arith in subst (λ x. Stands T x []) (sym z) root;
    all = λ ρ e. found ρ;
  }
    where
      only : (c : ℕ) (ρ : List ℕ) → c < 1 → Stands T c ρ → ρ ≡ []
      only c ρ l root = refl
      only c ρ l (below d some s) = absurd (omega arith)

      found : (ρ : List ℕ) → ((c : ℕ) × (c < 1) × Stands T c ρ) ⊎ Before [] ρ
      found [] = inl (0, omega arith, root)
      found (r ∷ ρ) = inr shorter

  module _ (T : ℕ → Row R) (dead : ℕ → Bool) (n : ℕ) (π : List ℕ) (laid : Laid k f w T dead n π) where
    -- what comes after π comes after every row
    rows_before : (c : ℕ) (ρ τ : List ℕ) → c < n → Stands T c ρ → Before π τ → Before ρ τ
    rows_before c ρ τ l s p = ⊎_elim
        (λ e. subst (λ z. Before z τ) (stands_once T c π ρ (laid.last c e) s) p)
        (λ ne.
        let some = laid.some in
        let m = before_last n some in
        let up = laid.order c m.0 ρ π (omega (arith, m.1)) (omega (arith, m.1)) s (laid.last m.0 m.1) in
        before_trans ρ π τ up p)
        (cases_eq (c + 1) n)
      where
        before_last : (n : ℕ) → 0 < n → (m : ℕ) × (m + 1 ≡ n)
        before_last zero some = absurd (omega arith)
        before_last (suc m) some = (m, omega arith)

    -- the rows from c on, and then a path after π
    lined : (τ : List ℕ) → w τ ≡ true → Before π τ → (m c : ℕ) → c + m ≡ n
        → (ps : List (List ℕ)) × (length ps ≡ m + 1) × Ascends ps × AllByRecursion (λ p. w p ≡ true) ps × AllByRecursion (λ p. (p ≡ τ) ⊎ ((b : ℕ) × (c ≤ b) × (b < n) × Stands T b p)) ps
    lined τ e after zero c l = (τ ∷ [], refl, (tt, tt), (e, tt), (inl refl, tt))
    lined τ e after (suc m) c l =
        let rest = lined τ e after m (c + 1) (omega arith) in
        let here : c < n = omega arith in
        let at = path_of T n laid.parents c here in (
          at.0 ∷ rest.0,
          omega (arith, rest.1),
          (
            All-weaker _ (λ p. Before at.0 p)
                (λ p q. ⊎_elim (λ s. subst (λ z. Before at.0 z) (sym s) (rows_before c at.0 τ here at.1 after)) (λ s. laid.order c s.0 at.0 p (omega (arith, s.1)) s.2 at.1 s.3) q)
                rest.0 rest.4,
            rest.2,
          ),
          (laid.written c at.0 here at.1, rest.3),
          (inr (c, omega arith, here, at.1), All-weaker _ _ (λ p q. ⊎_elim inl (λ s. inr (s.0, omega (arith, s.1), s.2, s.3)) q) rest.0 rest.4),
        )

    -- so there is room for one row more
    pub laid_room : (limit : ℕ) → Few w limit → (τ : List ℕ) → w τ ≡ true → Before π τ → n + 1 ≤ limit
    laid_room limit bounds τ e after =
        let x = lined τ e after n 0 (omega arith) in
        omega (arith, bounds x.0 x.2 x.3, x.1)

    -- one row more
    module _ (T' : ℕ → Row R) (dead' : ℕ → Bool) (α : List ℕ) (r p : ℕ) (same : (c : ℕ) → c < n → T' c ≡ T c) (flags : (c : ℕ) → c < n → dead' c ≡ dead c)
        (here : p < n) (up : Stands T p α) (parent : (T' n).parent ≡ p) (role : (T' n).role ≡ r)
        (content : Open k (T' n) (f (then_role α r))) (flag : dead' n ≡ (f (then_role α r)).empty) (next : Next w π (then_role α r)) where
      abbrev ρ : List ℕ
      ρ = then_role α r

      parents' : (c : ℕ) → 0 < c → c < n → (T' c).parent < c
      parents' c some l = subst (λ (x : Row R). x.parent < c) (sym (same c l)) (laid.parents c some l)

      forth : (c : ℕ) (τ : List ℕ) → c < n → Stands T c τ → Stands T' c τ
      forth = stands_agree T T' n (λ c l. sym (same c l)) laid.parents

      back : (c : ℕ) (τ : List ℕ) → c < n → Stands T' c τ → Stands T c τ
      back = stands_agree T' T n same parents'

      new : Stands T' n ρ
      new = subst (λ x. Stands T' n (then_role α x)) role (below n laid.some (subst (λ x. Stands T' x α) (sym parent) (forth p α here up)))

      new_path : (τ : List ℕ) → Stands T' n τ → τ ≡ ρ
      new_path τ s = stands_once T' n τ ρ s new

      ends : (c : ℕ) → c < n + 1 → (c < n) ⊎ (c ≡ n)
      ends c l = ⊎_elim inl (λ h. inr (omega arith)) (cases_lt c n)

      pub laid_more : Laid k f w T' dead' (n + 1) ρ
      laid_more = record {
        some = omega arith;
        first = subst (λ (x : Row R). Topmost x) (sym (same 0 laid.some)) laid.first;
        parents = λ c some l. ⊎_elim (λ h. parents' c some h) (λ e. let q : (T' c).parent ≡ p = ap (λ x. (T' x).parent) e ∙ parent in omega arith) (ends c l);
        order = λ b c σ τ l m s t. ⊎_elim
            (λ h. laid.order b c σ τ l h (back b σ (omega arith) s) (back c τ h t))
            (λ e.
            let at : b < n = omega arith in
            subst (λ z. Before σ z) (sym (new_path τ (subst (λ x. Stands T' x τ) e t))) (rows_before b σ ρ at (back b σ at s) next.after))
            (ends c m);
        written = λ c τ l s. ⊎_elim (λ h. laid.written c τ h (back c τ h s)) (λ e. subst (λ z. w z ≡ true) (sym (new_path τ (subst (λ x. Stands T' x τ) e s))) next.written) (ends c l);
        filled = λ c τ l s. ⊎_elim
            (λ h. subst (λ (x : Row R). Open k x (f τ)) (sym (same c h)) (laid.filled c τ h (back c τ h s)))
            (λ e. subst (λ x. Open k (T' x) (f τ)) (sym e) (subst (λ z. Open k (T' n) (f z)) (sym (new_path τ (subst (λ x. Stands T' x τ) e s))) content))
            (ends c l);
        flagged = λ c τ l s. ⊎_elim
            (λ h. flags c h ∙ laid.flagged c τ h (back c τ h s))
            (λ e. ap dead' e ∙ flag ∙ ap (λ z. (f z).empty) (sym (new_path τ (subst (λ x. Stands T' x τ) e s))))
            (ends c l);
        last = λ c e. let q : c ≡ n = omega arith in subst (λ x. Stands T' x ρ) (sym q) new;
        all = λ τ e. ⊎_elim
            (λ x. inl (x.0, omega (arith, x.1), forth x.0 τ x.1 x.2))
            (λ q. ⊎_elim (λ s. inl (n, omega arith, subst (λ z. Stands T' n z) (sym s) new)) inr (next.first τ e q))
            (laid.all τ e);
      }

    -- where no written path is left, every one has its row
    pub laid_placed : Final w π → Placed k f w T n
    laid_placed final = record {
      some = laid.some;
      first = laid.first;
      parents = laid.parents;
      order = laid.order;
      written = laid.written;
      all = λ ρ e. ⊎_elim (λ x. x) (λ q. absurd (final ρ e q)) (laid.all ρ e);
    }
