-- What a checked description writes is fit to be laid, settled and stripped. Assumes nothing.
use Rattle.std.proofs.Common.{◌≡◌, ℕ, zero, suc, ◌-◌, ◌<◌, ◌≤◌, max, Bool, true, false, cond, ◌&&◌, ◌||◌, eqb, ltb, List, [], ◌∷◌, ◌++◌, length, get_or, is_some, Some, None, fold, Option, unwrap_or, sym, refl, ap, ◌∙◌, subst, inl, inr, ⊎_elim, arith, length-append}
use Rattle.std.specs.Option.{option_map}
use Rattle.std.specs.List.{AllByRecursion}
use Rattle.std.proofs.ByRecursion.{All-push, All-from_get_or, All-weaker}
use Rattle.std.proofs.lemmas.List.{get_or_default}
use Rattle.concepts.proofs.Verdicts.{element}
use Rattle.std.proofs.lemmas.Bool.{or_cases, or_left, or_right, or_parts, and_parts, and_cases, false≢true, both_ways, eqb-true, ltb-false, cases_eq}
use Rattle.kinds.specs.Domain.{Domain}
use Rattle.concepts.specs.declared.node.Node.{Node}
use Rattle.concepts.specs.Concepts.{Concept}
use Rattle.concepts.specs.Checks.{bad_field, bad_role, bad_atom, bad_count}
use Rattle.concepts.specs.Tables.{is_nothing, is_prim, is_within, is_and, is_all, is_at_least, is_at_most, is_entry}
use Rattle.concepts.specs.WellFormed.{WellFormed}
use Rattle.forms.specs.Labels.{Label, label, silent, least, here, under}
use Rattle.rows.specs.Numbers.{Limited}
use Rattle.rows.specs.Shapes.{Shape}
use Rattle.rows.specs.Tables.{then_role, root, rows_of}
use Rattle.forms.specs.Finished.{Finished, FinishedBy, Shut}
use Rattle.forms.specs.Laid.{Closing}
use Rattle.forms.specs.Sheets.{Form, find, label_of, sheet_form, plain_form, both_forms, below_role, under_form, form_of}
use Rattle.forms.specs.Seen.{entries}
use Rattle.forms.specs.Keeping.{Sheet, Keeps, Orderly}
use Rattle.forms.specs.Walks.{Narrow, whole_form}
use Rattle.forms.specs.Blocks.{block_of}
use Rattle.rows.specs.declared.row.Row.{Row}
use Rattle.forms.proofs.Fronts.{Fronted, fronted_whole, fronted_sheet, fronted_plain, fronted_at, fronted_step}
use Rattle.forms.proofs.Finding.{find_stands}
use Rattle.rows.proofs.Rooted.{path_of}
use Rattle.rows.proofs.Standing.{last_same, stands_by}
use Rattle.forms.proofs.Unwritten.{root_upper, root_lower}

-- numbers are written at written paths alone, none at the empty path, and roles are below 16; and no number is above 999
-- where what is held is well formed
pub record Quiet {V : Type 0} (O : Type 0) (f : Form V) : Type 0 where
  pub lower : (π : List ℕ) → f.on π ≡ false → (f.at π).lower ≡ 0
  pub upper : (π : List ℕ) → f.on π ≡ false → (f.at π).upper ≡ None
  pub root : (f.at []).upper ≡ None
  pub limits : O → (π : List ℕ) → Limited (f.at π).lower (f.at π).upper
  pub narrow : Narrow f.on

-- numbers that are 0 and none
limited_none : (lo : ℕ) (up : Option ℕ) → lo ≡ 0 → up ≡ None → Limited lo up
limited_none lo up e h = let P : Option ℕ → Type 0 = λ u. Limited lo u in subst P (sym h) (omega arith)

limited_same : (lo lo' : ℕ) (up up' : Option ℕ) → lo ≡ lo' → up ≡ up' → Limited lo' up' → Limited lo up
limited_same lo lo' up up' e h l = rw (e, h) l

limited_both : (a b : ℕ) (u v : Option ℕ) → Limited a u → Limited b v → Limited (max a b) (least u v)
limited_both a b None None h l = omega arith
limited_both a b None (Some v) h l = (omega (arith, l.0), l.1)
limited_both a b (Some u) None h l = (omega (arith, h.0), h.1)
limited_both a b (Some u) (Some v) h l = (omega (arith, h.0, l.0), omega (arith, h.1))

-- where nothing is allowed
limited_closed : (lo : ℕ) (up : Option ℕ) → Limited lo up → Limited lo (Some 0)
limited_closed lo None h = (h, omega arith)
limited_closed lo (Some u) h = (h.0, omega arith)

-- row 0 of a finished form has no numbers
pub top_bare : {R V : Type 0} (k : Domain R V) (a : Concept R) (T : ℕ → Row R) (m : ℕ) → Finished k a T m → ((T 0).lower ≡ 0) × ((T 0).upper ≡ None)
top_bare k a T m fin = ⊎_elim (λ o. (o.1.lower ∙ root_lower k a, o.1.upper ∙ root_upper k a)) (λ z. absurd (shut z.0)) (fin.content 0 [] fin.some root)
  where
    shut : Shut k (label k a) [] → ⊥
    shut (inl e) = let none = root_upper k a in let z : ◌≡◌ {A = ℕ} 0 1 = cc in omega arith
    shut (inr d) = fin.live d

-- the rows of a finished form have no number above 999 where none is written
pub rows_limited : {R V : Type 0} (k : Domain R V) (f : List ℕ → Label V) (w : List ℕ → Bool) (T : ℕ → Row R) (n : ℕ) → FinishedBy k f w T n → ((π : List ℕ) → Limited (f π).lower (f π).upper)
    → (c : ℕ) → 0 < c → c < n → Limited (T c).lower (T c).upper
rows_limited k f w T n by lim c some l =
    let at = path_of T n by.parents c l in
    ⊎_elim
    (λ o. limited_same _ _ _ _ o.1.lower o.1.upper (lim at.0))
    (λ z. limited_same _ _ _ _ z.1.lower z.1.upper (limited_closed _ _ (lim at.0)))
    (by.content c at.0 l at.1)

module _ {R V : Type 0} (k : Domain R V) (O : Type 0) where
  -- a label at the empty path alone
  plain_lower : (l : Label V) (π : List ℕ) → (plain_form k l).on π ≡ false → (here l π).lower ≡ 0
  plain_lower l [] h = absurd (false≢true (sym h))
  plain_lower l (r ∷ π) h = refl

  plain_upper : (l : Label V) (π : List ℕ) → (plain_form k l).on π ≡ false → (here l π).upper ≡ None
  plain_upper l [] h = absurd (false≢true (sym h))
  plain_upper l (r ∷ π) h = refl

  plain_narrow : (l : Label V) → Narrow (plain_form k l).on
  plain_narrow l [] s h = absurd (false≢true h)
  plain_narrow l (r ∷ π) s h = absurd (false≢true h)

  plain_limits : (l : Label V) → Limited l.lower l.upper → (π : List ℕ) → Limited (here l π).lower (here l π).upper
  plain_limits l h [] = h
  plain_limits l h (r ∷ π) = omega arith

  quiet_plain : (l : Label V) → l.lower ≡ 0 → l.upper ≡ None → Quiet O (plain_form k l)
  quiet_plain l z e = record { lower = plain_lower l; upper = plain_upper l; root = e; limits = λ o. plain_limits l (limited_none l.lower l.upper z e); narrow = plain_narrow l }

  quiet_both : (f g : Form V) → Quiet O f → Quiet O g → Quiet O (both_forms k f g)
  quiet_both f g p q = record {
    lower = λ π e. let h = or_parts (f.on π) (g.on π) e in omega (arith, p.lower π h.0, q.lower π h.1);
    upper = λ π e. let h = or_parts (f.on π) (g.on π) e in ap (λ u. least u (g.at π).upper) (p.upper π h.0) ∙ q.upper π h.1;
    root = ap (λ u. least u (g.at []).upper) p.root ∙ q.root;
    limits = λ o π. limited_both (f.at π).lower (g.at π).lower (f.at π).upper (g.at π).upper (p.limits o π) (q.limits o π);
    narrow = λ π s e. ⊎_elim (p.narrow π s) (q.narrow π s) (or_cases (f.on (then_role π s)) (g.on (then_role π s)) e);
  }

  -- below a role that is below 16; the operand may have numbers at its empty path, which is then written
  quiet_under : (s : ℕ) (f : Form V) → s < 16 → f.on [] ≡ true → ((π : List ℕ) → f.on π ≡ false → (f.at π).lower ≡ 0) → ((π : List ℕ) → f.on π ≡ false → (f.at π).upper ≡ None)
      → (O → (π : List ℕ) → Limited (f.at π).lower (f.at π).upper) → Narrow f.on
      → Quiet O (under_form k s f)
  quiet_under s f small written low up lim thin = record { lower = lower'; upper = upper'; root = refl; limits = limits'; narrow = narrow' }
    where
      quiet_cond : (t : Bool) (r : ℕ) (π : List ℕ) → (t && f.on π) ≡ false → ((cond t (f.at π) silent).lower ≡ 0) × ((cond t (f.at π) silent).upper ≡ None)
      quiet_cond true r π e = (low π e, up π e)
      quiet_cond false r π e = (refl, refl)

      lower' : (π : List ℕ) → below_role k s f.on π ≡ false → (under s f.at π).lower ≡ 0
      lower' [] e = refl
      lower' (r ∷ π) e = (quiet_cond (eqb r s) r π e).0

      upper' : (π : List ℕ) → below_role k s f.on π ≡ false → (under s f.at π).upper ≡ None
      upper' [] e = refl
      upper' (r ∷ π) e = (quiet_cond (eqb r s) r π e).1

      limits' : O → (π : List ℕ) → Limited (under s f.at π).lower (under s f.at π).upper
      limits' o [] = omega arith
      limits' o (r ∷ π) = chosen (eqb r s)
        where
          chosen : (t : Bool) → Limited (cond t (f.at π) silent).lower (cond t (f.at π) silent).upper
          chosen true = lim o π
          chosen false = omega arith

      narrow' : Narrow (below_role k s f.on)
      narrow' [] t e = let h = eqb-true t s (and_parts (eqb t s) (f.on []) e).0 in omega arith
      narrow' (r ∷ π) t e = thin π t (and_parts (eqb r s) (f.on (then_role π t)) e).1

  quiet_number : (s : ℕ) (l : Label V) → s < 16 → Limited l.lower l.upper → Quiet O (under_form k s (plain_form k l))
  quiet_number s l small lim = quiet_under s (plain_form k l) small refl (plain_lower l) (plain_upper l) (λ o. plain_limits l lim) (plain_narrow l)

  quiet_cond : (t : Bool) (f g : Form V) → (t ≡ true → Quiet O f) → Quiet O g → Quiet O (cond t f g)
  quiet_cond true f g p q = p refl
  quiet_cond false f g p q = q

  quiet_at : (fs : List (Form V)) → AllByRecursion (Quiet O) fs → (i : ℕ) (d : Form V) → Quiet O d → Quiet O (get_or fs i d)
  quiet_at [] all i d p = p
  quiet_at (f ∷ fs) all zero d p = all.0
  quiet_at (f ∷ fs) all (suc i) d p = quiet_at fs all.1 i d p

  -- a finished sheet
  quiet_sheet : (a : Concept R) (T : ℕ → Row R) (m : ℕ) → Sheet k a T m → (O → Shape T m) → Quiet O (sheet_form k T m)
  quiet_sheet a T m sheet shape = record {
    lower = λ π e. none_lower (find T m π 0) e;
    upper = λ π e. none_upper (find T m π 0) e;
    root = (top_bare k a T m sheet.finished).1;
    limits = λ o π. lim (shape o) π (find T m π 0) refl;
    narrow = λ π s e. thin π s (find T m (then_role π s) 0) refl e;
  }
    where
      none_lower : (o : Option ℕ) → is_some o ≡ false → (label_of k T o).lower ≡ 0
      none_lower None e = refl
      none_lower (Some c) e = absurd (false≢true (sym e))

      none_upper : (o : Option ℕ) → is_some o ≡ false → (label_of k T o).upper ≡ None
      none_upper None e = refl
      none_upper (Some c) e = absurd (false≢true (sym e))

      lim : Shape T m → (π : List ℕ) (o : Option ℕ) → find T m π 0 ≡ o → Limited (label_of k T o).lower (label_of k T o).upper
      lim shape π None f = omega arith
      lim shape π (Some c) f = ⊎_elim
          (λ z. subst (λ x. Limited (T x).lower (T x).upper) (sym z) (limited_none (T 0).lower (T 0).upper shape.bare.0 shape.bare.1))
          (λ z. shape.limits c (omega arith) (find_stands T m π c sheet.finished.some f).0)
          (cases_eq c 0)

      thin : (π : List ℕ) (s : ℕ) (o : Option ℕ) → find T m (then_role π s) 0 ≡ o → is_some o ≡ true → s < 16
      thin π s None f e = absurd (false≢true e)
      thin π s (Some c) f e =
          let x = find_stands T m (then_role π s) c sheet.finished.some f in
          ⊎_elim
          (λ z. let l = ap length z.1 in let q = length-append π (s ∷ []) in absurd (omega arith))
          (λ z. let same = last_same π z.0 s (T c).role z.3 in omega (arith, sheet.roles c z.1 x.0, same.1))
          (stands_by T c (then_role π s) x.1)

  -- the role of a node is below 16
  small_role : (n : Node R) → bad_field n ≡ false → (is_all n || (is_at_least n || is_at_most n)) ≡ true → n.which < 16
  small_role n fine e =
      let role = (or_parts (bad_role n) (bad_atom n || bad_count n) fine).0 in
      ⊎_elim (λ f. absurd (both_ways _ f e)) (λ f. let l = ltb-false 15 n.which f in omega arith) (and_cases (is_all n || (is_at_least n || is_at_most n)) (ltb 15 n.which) role)

  -- and so is its count at most 999
  small_count : (n : Node R) → bad_field n ≡ false → (is_at_least n || is_at_most n) ≡ true → n.count ≤ 999
  small_count n fine e =
      let count = (or_parts (bad_atom n) (bad_count n) (or_parts (bad_role n) (bad_atom n || bad_count n) fine).1).1 in
      ⊎_elim (λ f. absurd (both_ways _ f e)) (λ f. ltb-false 999 n.count f) (and_cases (is_at_least n || is_at_most n) (ltb 999 n.count) count)

  quiet_value : (o : Option (Form V)) → ((f : Form V) → o ≡ Some f → Quiet O f) → Quiet O (unwrap_or o (plain_form k silent))
  quiet_value None h = quiet_plain silent refl refl
  quiet_value (Some f) h = h f refl

  quiet_step : (S : ℕ → Option (Form V)) → ((p : ℕ) (f : Form V) → S p ≡ Some f → Quiet O f) → ((below : List (Form V)) (n : Node R) → bad_field n ≡ false → AllByRecursion (λ f. Quiet O f × Fronted f) below
      → Quiet O (form_of k S below n))
  quiet_step S held below n fine all =
      let at : (i : ℕ) → Quiet O (get_or below i (plain_form k silent)) = λ i. quiet_at below (All-weaker _ _ (λ f p. p.0) below all) i (plain_form k silent) (quiet_plain silent refl refl) in
      let on : (i : ℕ) → (get_or below i (plain_form k silent)).on [] ≡ true = λ i. (fronted_at k below (All-weaker _ _ (λ f p. p.1) below all) i (plain_form k silent) (fronted_plain k silent)).root in
      quiet_cond (is_nothing n) _ _ (λ t. quiet_plain _ refl refl) (
      quiet_cond (is_prim n) _ _ (λ t. quiet_plain _ refl refl) (
      quiet_cond (is_within n) _ _ (λ t. quiet_plain _ refl refl) (
      quiet_cond (is_and n) _ _ (λ t. quiet_both _ _ (at n.left) (at n.right)) (
      quiet_cond (is_all n) _ _
      (λ t. quiet_under n.which _ (small_role n fine (or_left (is_all n) (is_at_least n || is_at_most n) t)) (on n.left) (at n.left).lower (at n.left).upper (at n.left).limits (at n.left).narrow) (
      quiet_cond (is_at_least n) _ _ (λ t. quiet_number n.which _ (small_role n fine (or_right (is_all n) _ (or_left (is_at_least n) (is_at_most n) t))) (small_count n fine (or_left (is_at_least n) (is_at_most n) t))) (
      quiet_cond (is_at_most n) _ _ (λ t. quiet_number n.which _ (small_role n fine (or_right (is_all n) _ (or_right (is_at_least n) (is_at_most n) t))) (omega arith, small_count n fine (or_right (is_at_least n) (is_at_most n) t))) (
      quiet_cond (is_entry n) _ _ (λ t. quiet_value (S n.which) (held n.which)) (quiet_plain _ refl refl))))))))

  quiet_folded : (S : ℕ → Option (Form V)) → ((p : ℕ) (f : Form V) → S p ≡ Some f → Quiet O f × Fronted f) → (acc : List (Form V)) (nodes : List (Node R)) → AllByRecursion (λ n. bad_field n ≡ false) nodes → AllByRecursion (λ f. Quiet O f × Fronted f) acc
      → AllByRecursion (λ f. Quiet O f × Fronted f) (fold (λ below n. below ++ (form_of k S below n ∷ [])) acc nodes)
  quiet_folded S held acc [] fine all = all
  quiet_folded S held acc (n ∷ ns) fine all =
      quiet_folded S held (acc ++ (form_of k S acc n ∷ [])) ns fine.1
      (All-push (λ f. Quiet O f × Fronted f) acc (form_of k S acc n) all
      (quiet_step S (λ p f e. (held p f e).0) acc n fine.0 all, fronted_step k S (λ p f e. (held p f e).1) acc n (All-weaker _ _ (λ f p. p.1) acc all)))

  -- what is held
  entries_quiet : (e : Row R) (held : List (Option ℕ)) (front back : List (Row R)) (E : ℕ → Option (Concept R)) → Keeps k e held front back E → (O → Orderly e held front back) → (p : ℕ) (f : Form V) → entries k e held front back p ≡ Some f → Quiet O f × Fronted f
  entries_quiet e held front back E keeps orderly p f h = ⊎_elim
      (λ z. absurd (let o = ap (λ x. option_map (λ m. sheet_form k (rows_of e (block_of front back p)) m) x) z.1 in let q : ◌≡◌ {A = ℕ} 0 1 = cc in omega arith))
      (λ z.
      let o : entries k e held front back p ≡ Some (sheet_form k (rows_of e (block_of front back p)) z.1) = ap (λ x. option_map (λ m. sheet_form k (rows_of e (block_of front back p)) m) x) z.3 in
      let q : sheet_form k (rows_of e (block_of front back p)) z.1 ≡ f = cc in
      subst (λ (x : Form V). Quiet O x × Fronted x) q (quiet_sheet z.0 (rows_of e (block_of front back p)) z.1 z.4 (λ o. orderly o p z.1 z.3), fronted_sheet (rows_of e (block_of front back p)) z.1 k))
      (keeps p)

  fine_fields : (held : List (Option ℕ)) (nodes : List (Node R)) → WellFormed held nodes → AllByRecursion (λ n. bad_field n ≡ false) nodes
  fine_fields held nodes fine = go (element nodes 0 fine.some)
    where
      go : (x : Node R) × (x ≡ get_or nodes 0 x) → AllByRecursion (λ n. bad_field n ≡ false) nodes
      go x = All-from_get_or (λ n. bad_field n ≡ false) nodes x.0 (λ i l. fine.faultless.fields i (get_or nodes i x.0) (l, get_or_default nodes i x.0 (get_or nodes i x.0) l))

module _ {R V : Type 0} (k : Domain R V) where
  pub quiet_whole : (e : Row R) (held : List (Option ℕ)) (front back : List (Row R)) (E : ℕ → Option (Concept R)) (nodes : List (Node R)) → Keeps k e held front back E → WellFormed held nodes
      → Quiet (Orderly e held front back) (whole_form k e held front back nodes)
  quiet_whole e held front back E nodes keeps fine =
      let O = Orderly e held front back in
      let all = quiet_folded k O (entries k e held front back) (entries_quiet k O e held front back E keeps (λ o. o)) [] nodes (fine_fields k O held nodes fine) tt in
      quiet_at k O _ (All-weaker _ _ (λ f p. p.0) _ all) (length nodes - 1) (plain_form k silent) (quiet_plain k O silent refl refl)

  pub closing_whole : (e : Row R) (held : List (Option ℕ)) (front back : List (Row R)) (E : ℕ → Option (Concept R)) (nodes : List (Node R)) → Keeps k e held front back E → WellFormed held nodes
      → Closing k (whole_form k e held front back nodes).at (whole_form k e held front back nodes).on
  closing_whole e held front back E nodes keeps fine =
      let q = quiet_whole e held front back E nodes keeps fine in
      record { quiet_lower = q.lower; quiet_upper = q.upper; fronts = (fronted_whole k e held front back nodes).fronts; root_upper = q.root }
