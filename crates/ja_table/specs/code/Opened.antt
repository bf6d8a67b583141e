-- What the objects of the opening heap have, by the program's description of it.
use Rattle.std.specs.Prelude.{find, ◌==◌, Option, Some, None}
use Rattle.ja_base.specs.declared.ids.NameId.{NameId}
use Rattle.ja_base.specs.declared.ids.Site.{Site}
use Rattle.ja_prim.specs.declared.primitive.Primitive.{Primitive}
use Rattle.ja_graph.specs.declared.program.ObjectSpec.{ObjectSpec}
use Rattle.ja_graph.specs.declared.program.PropertySpec.{PropertySpec}
use Rattle.ja_graph.specs.declared.program.SpecContent.{SpecContent}
use Rattle.ja_graph.specs.declared.program.SpecContent.TheVariants as spec_content
use Rattle.ja_abstract.specs.declared.abstraction.Slot.{Slot}
use Rattle.ja_abstract.specs.declared.abstraction.Slot.TheVariants as slot
use Rattle.ja_abstract.specs.declared.abstraction.Key.{Key}
use Rattle.ja_abstract.specs.declared.abstraction.Key.TheVariants as key
use Rattle.ja_abstract.specs.AbstractValue.{AbstractValue, AbstractProperty, row_value, absent_property, of_primitive, of_attrs, of_label, bare}
use Rattle.ja_abstract.specs.AbstractState.{new}

-- what an object of the opening heap has at a name, at a slot and at a key
abbrev pub value_given : SpecContent → AbstractValue
value_given (spec_content.Prim q) = of_primitive q
value_given (spec_content.Object s) = of_label (new s)
value_given spec_content.Row = row_value

abbrev pub property_given : Option PropertySpec → AbstractProperty
property_given None = absent_property
property_given (Some q) = record { value = value_given q.content; attrs = of_attrs q.attrs }

abbrev pub named_property : ObjectSpec → NameId → AbstractProperty
named_property o n = property_given (find (λ (q : PropertySpec). q.name.0 == n.0) o.properties)

abbrev pub object_given : Option Site → AbstractProperty
object_given None = absent_property
object_given (Some s) = bare (of_label (new s))

abbrev pub primitive_given : Option Primitive → AbstractProperty
primitive_given None = absent_property
primitive_given (Some q) = bare (of_primitive q)

abbrev pub slot_property : ObjectSpec → Slot → AbstractProperty
slot_property o slot.Prototype = object_given o.prototype
slot_property o slot.Outer = absent_property
slot_property o slot.Scope = object_given o.scope
slot_property o slot.Value = primitive_given o.value

abbrev pub opened_property : ObjectSpec → Key → AbstractProperty
opened_property o (key.Name n) = named_property o n
opened_property o (key.Slot s) = slot_property o s
opened_property o k = absent_property
