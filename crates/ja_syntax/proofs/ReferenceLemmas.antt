-- The last suffix of a chain.
use Rattle.std.proofs.Common.{◌≡◌, suc, ◌-◌, ◌<◌, List, [], ◌∷◌, length, get_or, refl, sym, ap, ◌∙◌, arith}
use Rattle.ja_syntax.specs.References.{ends_in_property, names_property}
use Rattle.ja_syntax.specs.declared.tree.Suffix.{Suffix}
use Rattle.ja_syntax.specs.declared.tree.Expression.{Expression}

pub ends_at : (xs : List (Suffix Expression)) (d : Suffix Expression) → 0 < length xs
    → ends_in_property xs ≡ names_property (get_or xs (length xs - 1) d)
ends_at [] d h = absurd (omega arith)
ends_at (x ∷ []) d h = refl
ends_at (x ∷ (y ∷ ys)) d h =
    let e : length (x ∷ (y ∷ ys)) - 1 ≡ suc (length (y ∷ ys) - 1) = omega arith in
    ends_at (y ∷ ys) d (omega arith) ∙ ap (λ i. names_property (get_or (x ∷ (y ∷ ys)) i d)) (sym e)
