-- Without a key no row is read.
use Rattle.std.specs.Prelude.{◌≡◌, Bool, true, false, ◌&&◌, ◌||◌, List, [], ◌∷◌, map, if◌then◌else◌}
use Rattle.std.proofs.Common.{refl, ◌∙◌, ap}
use Rattle.ja_base.specs.declared.ids.Label.{Label}
use Rattle.ja_abstract.specs.AbstractValue.{Labels, AbstractProperty, absent_property, no_property, present_part}
use Rattle.ja_abstract.specs.AbstractState.{labels_of}
use Rattle.ja_abstract.specs.Reading.{View, ends_at, get_absent, has_present, own, present_property, prototype_walk}
use Rattle.ja_abstract.specs.Resolved.{join_all}
use Rattle.ja_rows.specs.Warning.{has_row}

-- what is joined of properties without a row has none
no_row_in : (f : Label → AbstractProperty) (ls : List Label)
    → ((l : Label) → (f l).value.flags.row ≡ false) → (join_all (map f ls)).value.flags.row ≡ false
no_row_in f [] none = refl
no_row_in f (l ∷ ls) none =
    ap (λ b. b || (join_all (map f ls)).value.flags.row) (none l) ∙ no_row_in f ls none

-- a property that is nothing has no row, and nor has one that is absent
nothing_present : (asked has : Bool)
    → (if asked then (if has then record no_property { value = present_part no_property.value }
    else no_property) else no_property).value.flags.row ≡ false
nothing_present false has = refl
nothing_present true false = refl
nothing_present true true = refl

only_absent : (asked : Bool)
    → (if asked then absent_property else no_property).value.flags.row ≡ false
only_absent false = refl
only_absent true = refl

pub no_row : (w : View) (start : Labels) → has_row w start [] ≡ false
no_row w start =
    let walk : Labels = prototype_walk w start [] in
    ap (λ b. b || (get_absent w start []).value.flags.row)
    (no_row_in (λ l. if walk l then present_property w (own w l []) else no_property)
    (labels_of w.program)
    (λ l. nothing_present (walk l) (has_present w no_property.value)))
    ∙ no_row_in (λ l. if (walk l && ends_at w [] l) then absent_property else no_property)
    (labels_of w.program) (λ l. only_absent (walk l && ends_at w [] l))
