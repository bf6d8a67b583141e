-- What the analyser's objects, the objects to be made, writes and demands stand for.
use Rattle.std.specs.Prelude.{ℕ, ◌&&◌, Bool, List, map}
use Rattle.std.specs.Option.{option_map_or}
use Rattle.std.specs.List.{list_any}
use Rattle.std.specs.Ordering.{nat_cmp}
use Rattle.std.specs.declared.rc.Rc.{Rc}
use Rattle.std.specs.Global.{Global}
use Rattle.std.specs.BTreeMap.{get}
use Rattle.ja_base.specs.declared.ids.Label.{Label}
use Rattle.ja_abstract.specs.declared.abstraction.Key.{Key}
use Rattle.ja_abstract.specs.AbstractValue.{AbstractProperty, same_label}
use Rattle.ja_abstract.specs.AbstractState.{key_number, same_key}
use Rattle.ja_abstract.specs.Resolved.{Demands}
use Rattle.ja_abstract.specs.Made.{Own, own_of}
use Rattle.ja_abstract.specs.Writes as abstract
use Rattle.ja_value.specs.declared.property.AProp.{AProp}
use Rattle.ja_value.specs.Value.{property_of}
use Rattle.ja_aheap.specs.declared.demands.DemandList.{DemandList}
use Rattle.ja_aheap.specs.declared.made.Made.{Made}
use Rattle.ja_aheap.specs.declared.object.AObject.{AObject}
use Rattle.ja_aheap.specs.declared.writes.Write.{Write}
use Rattle.ja_aheap.specs.declared.writes.Writes.{Writes}

abbrev pub shared_property : Rc AProp Global → AbstractProperty
shared_property p = property_of p.value

-- the property of an object at the number of a key: the one that is listed, else the common one
abbrev pub at : AObject → ℕ → AbstractProperty
at o q = option_map_or shared_property (get nat_cmp o.listed q) (property_of o.common)

abbrev pub object_of : AObject → Own
object_of o k = at o (key_number k)

-- an object to be made
abbrev pub listed_of : Key × AProp → Key × AbstractProperty
listed_of q = (q.0, property_of q.1)

abbrev pub own_in : Made → Own
own_in m = own_of (map listed_of m.listed.items)

-- writes
abbrev pub write_of : Write → abstract.Write
write_of w = record { key = w.key; property = property_of w.property; joins = w.joins }

abbrev pub writes_of : Writes → List abstract.Write
writes_of w = map write_of w.list.items

-- the pairs of a list
abbrev pub is_pair : Label → Key → Label × Key → Bool
is_pair l k pair = same_label pair.0 l && same_key pair.1 k

abbrev pub demands_in : DemandList → Demands
demands_in d l k = list_any (is_pair l k) d.pairs.items
