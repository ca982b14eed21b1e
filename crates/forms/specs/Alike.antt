-- Forms that differ only where nothing is allowed. Assumes nothing.
use Rattle.std.specs.Prelude.{◌≡◌, ℕ, Bool, true, List, ◌∷◌}
use Rattle.kinds.specs.Domain.{Domain}
use Rattle.forms.specs.Labels.{Label}
use Rattle.forms.specs.Finished.{Shut, Hidden}

module _ {R V : Type 0} (k : Domain R V) where
  -- labels that say the same of every reading
  pub record Like (l m : Label V) : Type 0 where
    pub empty : l.empty ≡ m.empty
    pub atom : (x : ℕ) → l.atom x ≡ m.atom x
    pub admit : (v : V) → k.reads v ≡ true → l.admit v ≡ m.admit v
    pub lower : l.lower ≡ m.lower
    pub upper : l.upper ≡ m.upper

  -- at a path two forms are alike, or allow nothing, or are hidden
  pub data Alike (f g : List ℕ → Label V) (w v : List ℕ → Bool) : List ℕ → Type 0 where
    same : {π : List ℕ} → Like (f π) (g π) → w π ≡ v π → Alike f g w v π
    edge : {r : ℕ} {π : List ℕ} → Shut k f (r ∷ π) → Shut k g (r ∷ π) → (f (r ∷ π)).lower ≡ (g (r ∷ π)).lower → w (r ∷ π) ≡ v (r ∷ π) → Alike f g w v (r ∷ π)
    hidden : {π : List ℕ} → Hidden k f π → Hidden k g π → Alike f g w v π
