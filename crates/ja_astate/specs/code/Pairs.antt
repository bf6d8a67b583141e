-- The pairs that are demanded for a list of labels.
use Rattle.std.specs.Prelude.{◌&&◌, List}
use Rattle.std.specs.List.{list_any}
use Rattle.ja_base.specs.declared.ids.Label.{Label}
use Rattle.ja_abstract.specs.declared.abstraction.Key.{Key}
use Rattle.ja_abstract.specs.AbstractValue.{same_label}
use Rattle.ja_abstract.specs.AbstractState.{same_key}
use Rattle.ja_abstract.specs.Resolved.{Demands}

-- a key of each label of a list
abbrev pub demands_for : Key → List Label → Demands
demands_for k labels m j = list_any (λ (l : Label). same_label l m && same_key k j) labels

-- what is demanded for each label of a list
abbrev pub demands_over : List Label → (Label → Demands) → Demands
demands_over labels d m j = list_any (λ (l : Label). d l m j) labels
