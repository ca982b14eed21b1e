-- The rows of a slice, laid one after another along a path that is held in another slice. Assumes nothing.
use Rattle.std.proofs.Common.{◌≡◌, ℕ, zero, suc, ◌+◌, ◌<◌, ◌≤◌, Bool, true, false, ◌⊎◌, List, [], ◌∷◌, ◌++◌, length, set, Some, None, sym, ap, ◌∙◌, subst, inl, inr, ⊎_elim, append-nil, arith, get_or-set_other, get_or-set_same}
use Rattle.std.proofs.lemmas.Bool.{cases_order}
use Rattle.kinds.specs.Domain.{Domain}
use Rattle.forms.specs.Labels.{Label}
use Rattle.rows.specs.Tables.{then_role, Stands, Before, rows_of}
use Rattle.forms.specs.Finished.{Open}
use Rattle.forms.specs.Laying.{Next, Final, Laid}
use Rattle.forms.specs.Seen.{Holds, Seen}
use Rattle.forms.specs.Sheets.{Form, find}
use Rattle.forms.specs.Walks.{Proper, LaidOut, flags_of}
use Rattle.forms.specs.declared.label.Label.{Label as FoundLabel}
use Rattle.rows.specs.declared.row.Row.{Row}
use Rattle.forms.proofs.Finding.{find_stands, stands_find}
use Rattle.forms.proofs.Fronts.{Fronted}
use Rattle.forms.proofs.Laying.{laid_first, laid_more, laid_room, laid_placed}
use Rattle.forms.proofs.Successors.{before_trans, before_more, written_front}
use Rattle.rows.proofs.Standing.{not_before}

-- the row of a label, with its place
abbrev pub row_with : {R : Type 0} → FoundLabel R → ℕ → ℕ → Row R
row_with x p r = record { parent = p; role = r; lower = x.lower; upper = x.upper; atoms = x.atoms; restriction = x.restriction }

module _ {R V : Type 0} (k : Domain R V) (f : Form V) (fronted : Fronted f) where
  abbrev pub LaidTo : Row R → List (Row R) → List Bool → ℕ → List ℕ → Type 0
  LaidTo e xs ds n π = Laid k f.at f.on (rows_of e xs) (flags_of ds) n π

  -- the same rows, flags and path by other names
  pub laid_as : (e : Row R) {xs ys : List (Row R)} {ds es : List Bool} (n : ℕ) {π ρ : List ℕ} → xs ≡ ys → ds ≡ es → π ≡ ρ → LaidTo e ys es n ρ → LaidTo e xs ds n π
  laid_as e {ys = ys} {ds = ds} {es = es} n {π = π} {ρ = ρ} p q r laid =
      subst (λ zs. LaidTo e zs ds n π) (sym p) (subst (λ zs. LaidTo e ys zs n π) (sym q) (subst (λ z. LaidTo e ys es n z) (sym r) laid))

  holds_open : (x : FoundLabel R) (p r : ℕ) (l : Label V) → Holds k x l → Open k (row_with x p r) l
  holds_open x p r l h = record { lower = h.lower; upper = h.upper; atoms = h.atoms; restriction = h.restriction }

  pub lined_first : (e : Row R) (xs : List (Row R)) (ds : List Bool) (x : FoundLabel R) (roles : ℕ) → 0 < length xs → 0 < length ds → Seen k f [] x roles
      → LaidTo e (set xs 0 (row_with x 0 0)) (set ds 0 x.empty) 1 []
  lined_first e xs ds x roles l m seen =
      let top = get_or-set_same xs 0 (row_with x 0 0) e l in
      laid_first k f.at f.on _ _ (ap (λ (row : Row R). row.parent) top, ap (λ (row : Row R). row.role) top) fronted.root
      (subst (λ (row : Row R). Open k row (f.at [])) (sym (get_or-set_same xs 0 (row_with x 0 0) e l)) (holds_open x 0 0 (f.at []) seen.label))
      (get_or-set_same ds 0 x.empty false m ∙ seen.label.empty)

  module _ (e : Row R) (xs : List (Row R)) (ds : List Bool) (n : ℕ) (π : List ℕ) (laid : LaidTo e xs ds n π) where
    abbrev T : ℕ → Row R
    T = rows_of e xs

    apart : (b c : ℕ) (ρ : List ℕ) → b < n → c < n → Stands T b ρ → Stands T c ρ → b ≡ c
    apart b c ρ l m p q = order (cases b c)
      where
        cases : (b c : ℕ) → (b ≡ c) ⊎ ((b < c) ⊎ (c < b))
        cases b c = cases_order b c

        order : (b ≡ c) ⊎ ((b < c) ⊎ (c < b)) → b ≡ c
        order (inl s) = s
        order (inr (inl s)) = absurd (not_before ρ (laid.order b c ρ ρ s m p q))
        order (inr (inr s)) = absurd (not_before ρ (laid.order c b ρ ρ s l q p))

    -- what begins the last path has a row
    pub front_row : (α β : List ℕ) → π ≡ α ++ β → (c : ℕ) × (c < n) × Stands T c α
    front_row α β cut =
        let last = last_row n laid.some in
        let w = laid.written last.0 π (omega (arith, last.1)) (laid.last last.0 last.1) in
        ⊎_elim (λ x. x) (λ p. absurd (earlier β cut p)) (laid.all α (written_front f.on fronted.fronts β α (subst (λ z. f.on z ≡ true) cut w)))
      where
        last_row : (n : ℕ) → 0 < n → (m : ℕ) × (m + 1 ≡ n)
        last_row zero some = absurd (omega arith)
        last_row (suc m) some = (m, omega arith)

        earlier : (β : List ℕ) → π ≡ α ++ β → Before π α → ⊥
        earlier [] cut p = not_before α (subst (λ z. Before z α) (cut ∙ append-nil α) p)
        earlier (s ∷ β) cut p = not_before α (before_trans α π α (subst (λ z. Before α z) (sym cut) (before_more α s β)) p)

    pub front_found : (α β : List ℕ) → π ≡ α ++ β → find T n α 0 ≡ None → ⊥
    front_found α β cut none =
        let x = front_row α β cut in
        let some = stands_find T n laid.parents apart x.0 α x.1 x.2 in
        let z : ◌≡◌ {A = ℕ} 0 1 = cc in omega arith

    pub lined_more : (α : List ℕ) (r p : ℕ) (x : FoundLabel R) (roles : ℕ) → n < length xs → n < length ds → find T n α 0 ≡ Some p → Next f.on π (then_role α r) → Seen k f (then_role α r) x roles
        → LaidTo e (set xs n (row_with x p r)) (set ds n x.empty) (n + 1) (then_role α r)
    lined_more α r p x roles l m found next seen =
        let up = find_stands T n α p laid.some found in
        let here = get_or-set_same xs n (row_with x p r) e l in
        laid_more k f.at f.on T (flags_of ds) n π laid (rows_of e (set xs n (row_with x p r))) (flags_of (set ds n x.empty)) α r p
        (λ c h. get_or-set_other xs n c (row_with x p r) e (λ s. omega arith))
        (λ c h. get_or-set_other ds n c x.empty false (λ s. omega arith))
        up.0 up.1 (ap (λ (row : Row R). row.parent) here) (ap (λ (row : Row R). row.role) here)
        (subst (λ (row : Row R). Open k row (f.at (then_role α r))) (sym here) (holds_open x p r (f.at (then_role α r)) seen.label))
        (get_or-set_same ds n x.empty false m ∙ seen.label.empty)
        next

    pub lined_final : Final f.on π → LaidOut k f T (flags_of ds) n
    lined_final final = record { placed = laid_placed k f.at f.on T (flags_of ds) n π laid final; filled = laid.filled; flagged = laid.flagged }

    -- a full table is final
    pub lined_full : Proper f → 128 ≤ n → Final f.on π
    lined_full proper l τ w p = let room = laid_room k f.at f.on T (flags_of ds) n π laid 128 proper.few τ w p in omega arith
