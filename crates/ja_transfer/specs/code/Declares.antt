-- What the declaration of a variable comes to label by label.
use Rattle.std.specs.Prelude.{List, [], ◌∷◌}
use Rattle.std.specs.Option.{option_map_or}
use Rattle.ja_base.specs.declared.ids.Label.{Label}
use Rattle.ja_graph.specs.declared.attrs.TheConstants.{DONT_DELETE}
use Rattle.ja_abstract.specs.declared.abstraction.Key.{Key}
use Rattle.ja_abstract.specs.AbstractValue.{AbstractProperty, undefined_value, of_attrs}
use Rattle.ja_abstract.specs.AbstractState.{AbstractState}
use Rattle.ja_abstract.specs.Reading.{View}
use Rattle.ja_abstract.specs.Writes.{sets_at, strong_update, new_alone}
use Rattle.ja_transfer.specs.code.Members.{weakly_over}

-- a variable that is declared (10.1.3)
abbrev pub declared_property : AbstractProperty
declared_property = record { value = undefined_value; attrs = of_attrs DONT_DELETE }

-- at the one object of a label, or where it may be missing
abbrev pub declared_over : View → List Label → List Label → Key → AbstractState
declared_over w labels missing k =
    let writes = sets_at k declared_property ∷ [] in
    option_map_or (λ l. strong_update w.state l writes) (new_alone labels)
    (weakly_over w.program w.state missing (λ l. writes))

-- a property that is defined at the one object of a label, or joined in at each label
abbrev pub defined_over : View → List Label → Key → AbstractProperty → AbstractState
defined_over w labels k q =
    let writes = sets_at k q ∷ [] in
    option_map_or (λ l. strong_update w.state l writes) (new_alone labels)
    (weakly_over w.program w.state labels (λ l. writes))
