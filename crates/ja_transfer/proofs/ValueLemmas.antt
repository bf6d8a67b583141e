-- Values that are joined one after another.
use Rattle.std.proofs.Common.{◌≡◌, [], ◌∷◌, ap, ◌∙◌}
use Rattle.ja_abstract.specs.AbstractValue.{AbstractValue, join, no_value}
use Rattle.ja_abstract.specs.Resolved.{join_values}

-- each before what is there, from the last one on
pub joined_seven : (a b c d e f g : AbstractValue) (v0 v1 v2 v3 v4 v5 v6 r : AbstractValue)
    → v0 ≡ no_value → v1 ≡ join g v0 → v2 ≡ join f v1 → v3 ≡ join e v2 → v4 ≡ join d v3
    → v5 ≡ join c v4 → v6 ≡ join b v5 → r ≡ join a v6
    → r ≡ join_values (a ∷ b ∷ c ∷ d ∷ e ∷ f ∷ g ∷ [])
joined_seven a b c d e f g v0 v1 v2 v3 v4 v5 v6 r i0 i1 i2 i3 i4 i5 i6 i7 =
    i7 ∙ ap (join a) (i6 ∙ ap (join b) (i5 ∙ ap (join c) (i4 ∙ ap (join d) (i3
    ∙ ap (join e) (i2 ∙ ap (join f) (i1 ∙ ap (join g) i0))))))
