-- A label is renamed exactly where one of its origins is among the labels.
use Rattle.std.specs.Prelude.{◌≡◌, ◌&&◌, ◌||◌, ℕ, Bool, true, false, if◌then◌else◌, [], ◌∷◌}
use Rattle.std.specs.List.{list_any}
use Rattle.std.proofs.Common.{refl, sym, ap, ◌∙◌}
use Rattle.std.proofs.Math.Bool.{and-true, or-false}
use Rattle.std.proofs.lemmas.Bool.{and_right}
use Rattle.ja_base.specs.declared.ids.Label.{Label}
use Rattle.ja_base.specs.declared.ids.Site.{Site}
use Rattle.ja_abstract.specs.declared.abstraction.Mask.{Mask}
use Rattle.ja_abstract.specs.AbstractValue.{Labels}
use Rattle.ja_abstract.specs.AbstractState.{new, old}
use Rattle.ja_abstract.specs.Resolved.{origins, renamed_labels}

-- one label, if it is there
one_there : (set : Labels) (l : Label) (b : Bool)
    → (set l && b) ≡ list_any set (if b then l ∷ [] else [])
one_there set l true = and-true (set l) ∙ sym (or-false (set l))
one_there set l false = and_right (set l) false refl

at_site : (mask : ℕ → Mask) (set : Labels) (s : Site) (is_old : Bool)
    → renamed_labels mask set (record { site = s; old = is_old })
    ≡ list_any set (origins mask (record { site = s; old = is_old }))
at_site mask set s true =
    ap (λ b. set (old s) || b) (one_there set (new s) (mask s.0).some)
at_site mask set s false = one_there set (new s) (mask s.0).none

pub by_origins : (mask : ℕ → Mask) (set : Labels) (l : Label)
    → renamed_labels mask set l ≡ list_any set (origins mask l)
by_origins mask set l = at_site mask set l.site l.old

-- where no object was made an old one was old, and where some was made the new one wasn't there
pub old_alone : (mask : ℕ → Mask) (s : Site) → (mask s.0).some ≡ false
    → origins mask (old s) ≡ old s ∷ []
old_alone mask s none = ap (λ b. old s ∷ (if b then new s ∷ [] else [])) none

pub none_new : (mask : ℕ → Mask) (s : Site) → (mask s.0).none ≡ false → origins mask (new s) ≡ []
none_new mask s made = ap (λ b. if b then new s ∷ [] else []) made
