-- The demands of a reading are those for its origins.
use Rattle.std.specs.Prelude.{◌≡◌, Bool, true, false, ◌&&◌, ◌||◌, List, [], ◌∷◌}
use Rattle.std.specs.List.{list_any}
use Rattle.std.proofs.Common.{refl, sym, ap, ◌∙◌}
use Rattle.ja_base.specs.declared.ids.Label.{Label}
use Rattle.ja_abstract.specs.declared.abstraction.Key.{Key}
use Rattle.ja_abstract.specs.AbstractValue.{Labels, same_label}
use Rattle.ja_abstract.specs.AbstractState.{AbstractState, same_key}
use Rattle.ja_abstract.specs.Resolved.{origins, demands_of}
use Rattle.ja_astate.specs.code.Pairs.{demands_for}

-- a test that is the same for all elements stands before the list
any_and : (p : Labels) (b : Bool) (ls : List Label)
    → list_any (λ (l : Label). p l && b) ls ≡ (b && list_any p ls)
any_and p true [] = refl
any_and p false [] = refl
any_and p true (l ∷ ls) =
    elim (p l) as (λ v. ((v && true) || list_any (λ (m : Label). p m && true) ls)
    ≡ (v || list_any p ls)) [ true ↦ refl | false ↦ any_and p true ls ]
any_and p false (l ∷ ls) =
    elim (p l) as (λ v. ((v && false) || list_any (λ (m : Label). p m && false) ls) ≡ false)
    [ true ↦ any_and p false ls | false ↦ any_and p false ls ]

-- where the property may be as at entry
pub demands_for_origins : (a : AbstractState) (l : Label) (k : Key)
    → (a.property l k).value.flags.entry ≡ true
    → demands_for k (origins a.mask l) ≡ demands_of a l k
demands_for_origins a l k e =
    λ i m j. (any_and (λ (o : Label). same_label o m) (same_key k j) (origins a.mask l)
    ∙ ap (λ (v : Bool). v && same_key k j
    && list_any (λ (o : Label). same_label o m) (origins a.mask l)) (sym e)) i
