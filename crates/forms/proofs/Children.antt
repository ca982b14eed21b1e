-- Following a path from row to row, and gathering the roles below a row, one turn at a time. Assumes nothing.
use Rattle.std.proofs.Common.{◌≡◌, ℕ, suc, ◌+◌, ◌-◌, ◌<◌, ◌≤◌, Bool, true, false, ◌&&◌, ◌||◌, eqb, ltb, List, length, get_or, take, drop, is_some, Option, sym, refl, ap, ◌∙◌, arith}
use Rattle.std.proofs.lemmas.List.{get_or_read, get_or-drop, length-drop, take_rest, drop_more}
use Rattle.std.proofs.lemmas.Bool.{ne_eqb}
use Rattle.std.proofs.lemmas.Bool.Decides.{nat_tests}
use Rattle.masks.specs.Masks.{has, Joined, Single}
use Rattle.rows.specs.Tables.{rows_of}
use Rattle.forms.specs.Sheets.{hooks, child, onward, find}
use Rattle.rows.specs.Hanging.{hangs_by, child_from}
use Rattle.rows.proofs.Hanging.{scan_more}
use Rattle.rows.specs.declared.row.Row.{Row}

-- what is left of a list from k on: how many elements, and which
pub rest_length : {X : Type 0} (xs : List X) (k : ℕ) → length (take (length xs - k) (drop k xs)) ≡ length xs - k
rest_length xs k = ap length (take_rest xs k) ∙ length-drop k xs

pub rest_element : {X : Type 0} (xs : List X) (k i : ℕ) (x : X) → x ≡ get_or (take (length xs - k) (drop k xs)) i x → x ≡ get_or xs (k + i) x
rest_element xs k i x h = h ∙ ap (λ ys. get_or ys i x) (take_rest xs k) ∙ get_or-drop k xs i x

-- The rest of a path leads on from row c to where the whole path leads.
module _ {R : Type 0} (T : ℕ → Row R) (n : ℕ) (π : List ℕ) (i c : ℕ) (on : find T n π 0 ≡ find T n (drop i π) c) where
  pub find_step : (o : Option ℕ) → i < length π → o ≡ child T n c (get_or π i 0) → find T n π 0 ≡ onward (find T n (drop (i + 1) π)) o
  find_step o l e = on ∙ ap (λ ρ. find T n ρ c) (drop_more π i 0 l) ∙ ap (onward (find T n (drop (i + 1) π))) (sym e)

-- The roles of the rows from c + 1 to b that hang from row c.
module _ {R : Type 0} (xs : List (Row R)) (c : ℕ) where
  abbrev pub RolesTo : ℕ → ℕ → Type 0
  RolesTo roles b = (e : Row R) (s : ℕ) → has roles s ≡ (ltb s 64 && is_some (child_from (hooks (rows_of e xs)) c s (b - (c + 1)) (c + 1)))

  and_no : (t : Bool) → false ≡ (t && false)
  and_no true = refl
  and_no false = refl

  module _ (roles b : ℕ) (x : Row R) (to : RolesTo roles b) (past : c + 1 ≤ b) (inside : b < length xs) (is : x ≡ get_or xs b x) where
    scan_here : (e : Row R) (s : ℕ) → is_some (child_from (hooks (rows_of e xs)) c s ((b + 1) - (c + 1)) (c + 1)) ≡ (is_some (child_from (hooks (rows_of e xs)) c s (b - (c + 1)) (c + 1)) || hangs_by (x.parent, x.role) c s)
    scan_here e s =
        let p : (b + 1) - (c + 1) ≡ suc (b - (c + 1)) = omega arith in
        let q : (c + 1) + (b - (c + 1)) ≡ b = omega arith in
        let so = is_some (child_from (hooks (rows_of e xs)) c s (b - (c + 1)) (c + 1)) in
        ap (λ m. is_some (child_from (hooks (rows_of e xs)) c s m (c + 1))) p ∙ scan_more (hooks (rows_of e xs)) c s (b - (c + 1)) (c + 1)
        ∙ ap (λ y. so || hangs_by (hooks (rows_of e xs) y) c s) q ∙ sym (ap (λ y. so || hangs_by (y.parent, y.role) c s) (get_or_read xs b x inside is e))

    pub roles_same : (x.parent ≡ c → ⊥) → RolesTo roles (b + 1)
    roles_same h e s =
        to e s ∙ ap (λ t. ltb s 64 && t) (go (is_some (child_from (hooks (rows_of e xs)) c s (b - (c + 1)) (c + 1))) (eqb x.parent c) (ne_eqb x.parent c h) ∙ sym (scan_here e s))
      where
        go : (so t : Bool) → t ≡ false → so ≡ (so || (t && eqb x.role s))
        go true t h = refl
        go false t h = rw h

    pub roles_more : (one all : ℕ) → x.parent ≡ c → Single x.role one → Joined roles one all → RolesTo all (b + 1)
    roles_more one all h single joined e s =
        joined s ∙ ap (λ t. t || has one s) (to e s) ∙ ap (λ t. (ltb s 64 && is_some (child_from (hooks (rows_of e xs)) c s (b - (c + 1)) (c + 1))) || t) (single s)
        ∙ go (is_some (child_from (hooks (rows_of e xs)) c s (b - (c + 1)) (c + 1))) x.parent x.role h ∙ sym (ap (λ t. ltb s 64 && t) (scan_here e s))
      where
        go : (so : Bool) (p r : ℕ) → p ≡ c → ((ltb s 64 && so) || (ltb r 64 && eqb s r)) ≡ (ltb s 64 && (so || (eqb p c && eqb r s)))
        go so p r q = grind (arith, nat_tests)
