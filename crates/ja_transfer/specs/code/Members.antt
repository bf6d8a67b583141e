-- Where writes at some labels are strong, and what weak ones come to label by label.
use Rattle.std.specs.Prelude.{List, Option}
use Rattle.std.specs.List.{list_any}
use Rattle.std.specs.Option.{option_map, option_and_then}
use Rattle.ja_base.specs.declared.ids.Label.{Label}
use Rattle.ja_graph.specs.declared.program.Program.{Program}
use Rattle.ja_abstract.specs.declared.abstraction.Key.{Key}
use Rattle.ja_abstract.specs.AbstractValue.{same_label}
use Rattle.ja_abstract.specs.AbstractState.{AbstractState}
use Rattle.ja_abstract.specs.Resolved.{Demands}
use Rattle.ja_abstract.specs.Writes.{Write, weak_update, new_alone, one_name}

-- the one label and the one name of two lists
abbrev pub strong_spot : List Label → List Key → Option (Label × Key)
strong_spot labels keys =
    option_and_then (λ l. option_map (λ k. (l, k)) (one_name keys)) (new_alone labels)

-- writes at all objects of each label of a list
abbrev pub weakly_over : Program → AbstractState → List Label → (Label → List Write) → AbstractState
weakly_over p a labels = weak_update p a (λ m. list_any (λ (l : Label). same_label l m) labels)

-- what is demanded for each label of a list
abbrev pub demands_over : List Label → (Label → Demands) → Demands
demands_over labels d m j = list_any (λ (l : Label). d l m j) labels
