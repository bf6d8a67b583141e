-- The label of an object of a heap, what an object has at a text or a slot, and what the objects of
-- the opening heap have by label and key.
use Rattle.std.specs.Prelude.{◌+◌, not, if◌then◌else◌, ◌==◌, Option, Some, None}
use Rattle.std.specs.Option.{option_map_or}
use Rattle.ja_base.specs.declared.ids.Label.{Label}
use Rattle.ja_prim.specs.declared.primitive.Primitive.{Primitive}
use Rattle.ja_graph.specs.declared.attrs.Attrs.{Attrs}
use Rattle.ja_graph.specs.declared.program.Program.{Program}
use Rattle.ja_machine.specs.declared.machine.Addr.{Addr}
use Rattle.ja_machine.specs.declared.machine.Value.{Value}
use Rattle.ja_machine.specs.declared.machine.Value.TheVariants as value
use Rattle.ja_machine.specs.declared.machine.Content as property
use Rattle.ja_machine.specs.declared.machine.Content.TheVariants as contents
use Rattle.ja_machine.specs.declared.machine.Property.{Property}
use Rattle.ja_machine.specs.declared.machine.Object.{Object}
use Rattle.ja_machine.specs.declared.machine.Heap.{Heap}
use Rattle.ja_machine.specs.Heap.{count, object_at, property_of}
use Rattle.ja_machine.specs.Objects.{first_of}
use Rattle.ja_machine.specs.Nodes.{name_text}
use Rattle.ja_machine.specs.Machine.{opening_heap}
use Rattle.ja_abstract.specs.declared.abstraction.Slot.TheVariants as slot
use Rattle.ja_abstract.specs.declared.abstraction.Key.{Key}
use Rattle.ja_abstract.specs.declared.abstraction.Key.TheVariants as key
use Rattle.ja_abstract.specs.AbstractValue.{AbstractValue, AbstractProperty, of_label, of_primitive, of_attrs, row_value, absent_property, no_property, bare}
use Rattle.ja_abstract.specs.Keys.{internal, Spot, named}

-- ---- labels

-- the object that was made last at its site is new, and each other one old
abbrev pub label_of : Heap → Addr → Label
label_of h a = record { site = a.site; old = not (a.ordinal + 1 == count h a.site) }

pub data SpotContent : Type 0 where
  -- no property of the name, or an empty slot
  missing : SpotContent
  -- what a slot holds
  held : Value → SpotContent
  -- a property, and one that is out of the profile
  present : Value → Attrs → SpotContent
  present_row : Attrs → SpotContent

abbrev pub held_address : Option Addr → SpotContent
held_address None = missing
held_address (Some a) = held (value.Object a)

abbrev pub held_primitive : Option Primitive → SpotContent
held_primitive None = missing
held_primitive (Some q) = held (value.Primitive q)

abbrev pub content_of : property.Content → Attrs → SpotContent
content_of (contents.Value v) attrs = present v attrs
content_of contents.Row attrs = present_row attrs

abbrev pub property_content : Option Property → SpotContent
property_content None = missing
property_content (Some q) = content_of q.content q.attrs

abbrev pub object_content : Object → Spot → SpotContent
object_content o (named t) = property_content (property_of o t)
object_content o (internal slot.Prototype) = held_address o.slots.prototype
object_content o (internal slot.Outer) = held_address o.slots.outer
object_content o (internal slot.Scope) = held_address o.slots.scope
object_content o (internal slot.Value) = held_primitive o.slots.value

-- of an address that is no object of the heap nothing is there
abbrev pub content : Heap → Addr → Spot → SpotContent
content h a x = option_map_or (λ (o : Object). object_content o x) (object_at h a) missing

-- ---- the contents of the opening heap

-- exactly a content
abbrev pub of_value : Heap → Value → AbstractValue
of_value h (value.Primitive q) = of_primitive q
of_value h (value.Object a) = of_label (label_of h a)

abbrev pub of_content : Heap → SpotContent → AbstractProperty
of_content h missing = absent_property
of_content h (held v) = bare (of_value h v)
of_content h (present v attrs) = record { value = of_value h v; attrs = of_attrs attrs }
of_content h (present_row attrs) = record { value = row_value; attrs = of_attrs attrs }

-- what an object of the opening heap has at a key
abbrev pub key_content : Program → Addr → Key → SpotContent
key_content p a (key.Name n) = content (opening_heap p) a (named (name_text p n))
key_content p a key.OtherIndex = missing
key_content p a key.OtherName = missing
key_content p a (key.Slot s) = content (opening_heap p) a (internal s)

abbrev pub opened_at : Program → Key → Addr → AbstractProperty
opened_at p k a =
    option_map_or (λ (o : Object). of_content (opening_heap p) (key_content p a k))
    (object_at (opening_heap p) a) no_property

-- what the objects of a label have there: a site has one at most, whose label is new
abbrev pub opened : Program → Label → Key → AbstractProperty
opened p l k = if l.old then no_property else opened_at p k (first_of l.site)
