-- What the analyser's sets of labels, values and properties stand for.
use Rattle.ja_value.specs.declared.label_set.LabelSet.{LabelSet}
use Rattle.ja_value.specs.declared.value.AValue.{AValue}
use Rattle.ja_value.specs.declared.property.AProp.{AProp}
use Rattle.ja_value.specs.Labels.{has}
use Rattle.ja_abstract.specs.AbstractValue.{Labels, AbstractValue, AbstractProperty}
use Rattle.ja_abstract.specs.AbstractState.{label_number}

abbrev pub labels_in : LabelSet → Labels
labels_in set l = has set.numbers (label_number l)

abbrev pub value_of : AValue → AbstractValue
value_of v =
    record { flags = v.flags; number = v.number; text = v.text; label = labels_in v.labels }

abbrev pub property_of : AProp → AbstractProperty
property_of q = record { value = value_of q.value; attrs = q.attrs }
