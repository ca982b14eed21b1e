-- The facts about rows and groups, put together. Assumes nothing.
use Rattle.std.proofs.Common.{◌≡◌, ℕ, ◌<◌, ◌⊎◌, sym, refl, ◌∙◌, subst, inl, inr, ⊎_elim, arith}
use Rattle.std.proofs.lemmas.Bool.{cases_order, cases_eq}
use Rattle.kinds.specs.Domain.{Domain}
use Rattle.rows.specs.Groups.{total_some, WellFormed}
use Rattle.rows.specs.Theorems.{RowFacts}
use Rattle.rows.specs.declared.group.Group.{Group}
use Rattle.rows.proofs.Fitting.{Lone}
use Rattle.rows.proofs.Groups as groups
use Rattle.rows.proofs.Hanging.{child_some, child_nearest, child_none}
use Rattle.rows.proofs.Shaping.{fine_shape, shape_fine, single}

module _ {R V : Type 0} (k : Domain R V) where
  pub well_formed_lone : (G : ℕ → Group V) (n : ℕ) → WellFormed k G n → Lone G n
  well_formed_lone G n w g h zg lg zh lh p r = go (cases_order g h)
    where
      go : (g ≡ h) ⊎ ((g < h) ⊎ (h < g)) → g ≡ h
      go (inl e) = e
      go (inr (inl u)) = absurd (w.apart g h zg u lh p r)
      go (inr (inr u)) = absurd (w.apart h g zh u lg (sym p) (sym r))

  pub well_formed_peopled : (G : ℕ → Group V) (n : ℕ) → WellFormed k G n → (g : ℕ) → g < n → 0 < (G g).headcount
  well_formed_peopled G n w g l = ⊎_elim
      (λ e. subst (λ x. 0 < (G x).headcount) (sym e) (let one = w.one in omega arith))
      (λ ne. (w.headcounts g (omega arith) l).0)
      (cases_eq g 0)

  pub row_facts : RowFacts k
  row_facts = record {
    shaped = λ T n some few fine. fine_shape T n some few fine;
    standing = λ T n shape. shape_fine T n shape;
    single = λ T n shape. single T n shape.parents shape.order;
    found = λ hook n c r d e. let w = child_some hook n c r d e in (w.0, w.1, w.2.parent, w.2.role);
    nearest = λ hook n c r d e i l h p q. child_nearest hook n c r d i e l h record { parent = p; role = q };
    childless = λ hook n c r e i l h p q. child_none hook n c r e i l h record { parent = p; role = q };
    members = λ G n g l. groups.members G n g l;
    first = λ G n w. groups.owner_first G n w.some (well_formed_peopled G n w 0 w.some);
    fillers = λ G n w i g z l p.
        groups.fillers k G n (total_some G n w.some (let e = w.one in omega arith)) w.reads i (G g).role g z l p refl
        (λ h zh lh ph rh. well_formed_lone G n w h g zh lh z l (ph ∙ sym p) rh);
    no_fillers = λ G n w i r none. groups.fillers_none k G n (total_some G n w.some (let e = w.one in omega arith)) w.reads i r none;
  }
