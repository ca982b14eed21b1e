-- What leads to a written path of a description is written. Assumes nothing.
use Rattle.std.proofs.Common.{◌≡◌, ℕ, zero, suc, ◌-◌, Bool, true, false, cond, eqb, List, [], ◌∷◌, ◌++◌, length, get_or, is_some, Some, None, fold, Option, unwrap_or, refl, subst, ⊎_elim, arith}
use Rattle.std.specs.Option.{option_map}
use Rattle.std.proofs.ByRecursion.{All-push}
use Rattle.concepts.specs.Weights.{rows_at}
use Rattle.forms.specs.Blocks.{block_of}
use Rattle.rows.specs.Tables.{rows_of}
use Rattle.std.specs.List.{AllByRecursion}
use Rattle.std.proofs.lemmas.Bool.{or_cases, or_left, or_right, and_parts, and_from}
use Rattle.kinds.specs.Domain.{Domain}
use Rattle.concepts.specs.declared.node.Node.{Node}
use Rattle.concepts.specs.Tables.{is_nothing, is_prim, is_within, is_and, is_all, is_at_least, is_at_most, is_entry}
use Rattle.forms.specs.Labels.{Label, silent}
use Rattle.rows.specs.Tables.{then_role}
use Rattle.forms.specs.Sheets.{Form, child, onward, find, sheet_form, plain_form, both_forms, below_role, under_form, form_of, node_form}
use Rattle.forms.specs.Seen.{entries}
use Rattle.forms.specs.Walks.{whole_form}
use Rattle.forms.specs.Sources.{written}
use Rattle.forms.specs.declared.source.Source.{Source}
use Rattle.rows.specs.declared.row.Row.{Row}

-- the empty path is written, and what leads to a written path
pub record Fronted {V : Type 0} (f : Form V) : Type 0 where
  pub root : f.on [] ≡ true
  pub fronts : (π : List ℕ) (r : ℕ) → f.on (then_role π r) ≡ true → f.on π ≡ true

module _ {R : Type 0} (T : ℕ → Row R) (n : ℕ) where
  some_onward : (f g : ℕ → Option ℕ) (o : Option ℕ) → ((c : ℕ) → is_some (f c) ≡ true → is_some (g c) ≡ true) → is_some (onward f o) ≡ true → is_some (onward g o) ≡ true
  some_onward f g None h e = e
  some_onward f g (Some c) h e = h c e

  found_front : (π : List ℕ) (r c : ℕ) → is_some (find T n (then_role π r) c) ≡ true → is_some (find T n π c) ≡ true
  found_front [] r c e = refl
  found_front (s ∷ π) r c e = some_onward (find T n (then_role π r)) (find T n π) (child T n c s) (λ d. found_front π r d) e

  pub fronted_sheet : {V : Type 0} (k : Domain R V) → Fronted (sheet_form k T n)
  fronted_sheet k = record { root = refl; fronts = λ π r e. found_front π r 0 e }

module _ {R V : Type 0} (k : Domain R V) where
  pub fronted_plain : (l : Label V) → Fronted (plain_form k l)
  fronted_plain l = record { root = refl; fronts = fronts' }
    where
      fronts' : (π : List ℕ) (r : ℕ) → (plain_form k l).on (then_role π r) ≡ true → (plain_form k l).on π ≡ true
      fronts' [] r e = refl
      fronts' (s ∷ π) r e = e

  fronted_both : (f g : Form V) → Fronted f → Fronted g → Fronted (both_forms k f g)
  fronted_both f g p q = record {
    root = or_left (f.on []) (g.on []) p.root;
    fronts = λ π r e. ⊎_elim (λ h. or_left (f.on π) (g.on π) (p.fronts π r h)) (λ h. or_right (f.on π) (g.on π) (q.fronts π r h)) (or_cases (f.on (then_role π r)) (g.on (then_role π r)) e);
  }

  fronted_under : (s : ℕ) (f : Form V) → Fronted f → Fronted (under_form k s f)
  fronted_under s f p = record { root = refl; fronts = fronts' }
    where
      fronts' : (π : List ℕ) (r : ℕ) → below_role k s f.on (then_role π r) ≡ true → below_role k s f.on π ≡ true
      fronts' [] r e = refl
      fronts' (t ∷ π) r e = let h = and_parts (eqb t s) (f.on (then_role π r)) e in and_from (eqb t s) (f.on π) h.0 (p.fronts π r h.1)

  fronted_cond : (t : Bool) (f g : Form V) → Fronted f → Fronted g → Fronted (cond t f g)
  fronted_cond true f g p q = p
  fronted_cond false f g p q = q

  -- every form of a list is fronted, and so is what stands past its end
  pub fronted_at : (fs : List (Form V)) → AllByRecursion Fronted fs → (i : ℕ) (d : Form V) → Fronted d → Fronted (get_or fs i d)
  fronted_at [] all i d p = p
  fronted_at (f ∷ fs) all zero d p = all.0
  fronted_at (f ∷ fs) all (suc i) d p = fronted_at fs all.1 i d p

  fronted_value : (o : Option (Form V)) → ((f : Form V) → o ≡ Some f → Fronted f) → Fronted (unwrap_or o (plain_form k silent))
  fronted_value None h = fronted_plain silent
  fronted_value (Some f) h = h f refl

  pub fronted_step : (S : ℕ → Option (Form V)) → ((p : ℕ) (f : Form V) → S p ≡ Some f → Fronted f) → (below : List (Form V)) (n : Node R) → AllByRecursion Fronted below
      → Fronted (form_of k S below n)
  fronted_step S held below n all =
      let at : (i : ℕ) → Fronted (get_or below i (plain_form k silent)) = λ i. fronted_at below all i (plain_form k silent) (fronted_plain silent) in
      fronted_cond (is_nothing n) _ _ (fronted_plain _) (
      fronted_cond (is_prim n) _ _ (fronted_plain _) (
      fronted_cond (is_within n) _ _ (fronted_plain _) (
      fronted_cond (is_and n) _ _ (fronted_both _ _ (at n.left) (at n.right)) (
      fronted_cond (is_all n) _ _ (fronted_under n.which _ (at n.left)) (
      fronted_cond (is_at_least n) _ _ (fronted_under n.which _ (fronted_plain _)) (
      fronted_cond (is_at_most n) _ _ (fronted_under n.which _ (fronted_plain _)) (
      fronted_cond (is_entry n) _ _ (fronted_value (S n.which) (held n.which)) (fronted_plain _))))))))

  fronted_folded : (S : ℕ → Option (Form V)) → ((p : ℕ) (f : Form V) → S p ≡ Some f → Fronted f) → (acc : List (Form V)) (nodes : List (Node R)) → AllByRecursion Fronted acc
      → AllByRecursion Fronted (fold (λ below n. below ++ (form_of k S below n ∷ [])) acc nodes)
  fronted_folded S held acc [] all = all
  fronted_folded S held acc (n ∷ ns) all = fronted_folded S held (acc ++ (form_of k S acc n ∷ [])) ns (All-push Fronted acc (form_of k S acc n) all (fronted_step S held acc n all))

  pub fronted_node : (S : ℕ → Option (Form V)) → ((p : ℕ) (f : Form V) → S p ≡ Some f → Fronted f) → (nodes : List (Node R)) (i : ℕ) → Fronted (node_form k S nodes i)
  fronted_node S held nodes i = fronted_at _ (fronted_folded S held [] nodes tt) i (plain_form k silent) (fronted_plain silent)

  -- what a description writes
  pub fronted_whole : (e : Row R) (held : List (Option ℕ)) (front back : List (Row R)) (nodes : List (Node R)) → Fronted (whole_form k e held front back nodes)
  fronted_whole e held front back nodes = fronted_node (entries k e held front back) (λ p f h. by (rows_at held p) p f h) nodes (length nodes - 1)
    where
      by : (o : Option ℕ) (p : ℕ) (f : Form V) → option_map (λ m. sheet_form k (rows_of e (block_of front back p)) m) o ≡ Some f → Fronted f
      by None p f h = let z : ◌≡◌ {A = ℕ} 0 1 = cc in absurd (omega arith)
      by (Some m) p f h = let q : sheet_form k (rows_of e (block_of front back p)) m ≡ f = cc in subst (λ (x : Form V). Fronted x) q (fronted_sheet (rows_of e (block_of front back p)) m k)

  pub fronted_written : (e : Row R) (s : Source R) → Fronted (written k e s)
  fronted_written e s = fronted_whole e s.held.now s.sheets.front.now s.sheets.back.now s.nodes.now
