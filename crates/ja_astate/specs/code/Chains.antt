-- What is met at the objects of a label that are asked for their prototypes.
use Rattle.std.specs.Prelude.{Bool, if◌then◌else◌, List}
use Rattle.std.specs.List.{list_any}
use Rattle.ja_base.specs.declared.ids.Label.{Label}
use Rattle.ja_abstract.specs.declared.abstraction.Key.{Key}
use Rattle.ja_abstract.specs.AbstractValue.{AbstractValue, no_value, bare, of_labels}
use Rattle.ja_abstract.specs.Reading.{View, slot, key_value, may_show}
use Rattle.ja_abstract.specs.Resolved.{demands_of, prototype}
use Rattle.ja_astate.specs.code.Walks.{Meeting}

-- their prototypes, which are also what is found
abbrev pub chain_met : View → Label → Meeting
chain_met w l = record {
  labels = (slot w l prototype).label;
  property = bare (of_labels (slot w l prototype).label);
  may_end = (slot w l prototype).flags.absent;
  demands = demands_of w.state l prototype;
}

-- some of these labels may show a key
abbrev pub some_show : View → List Label → Key → Bool
some_show w labels k = list_any (may_show w k) labels

-- the text of a key that they may show
abbrev pub shown_text : View → List Label → Key → AbstractValue
shown_text w labels k = if some_show w labels k then key_value w.program k else no_value
