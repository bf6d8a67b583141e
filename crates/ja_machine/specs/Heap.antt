-- The concrete heap (ES3 8.6.2): objects by site and ordinal, and their properties.
use Rattle.std.specs.Prelude.{ℕ, zero, suc, Bool, true, false, not, if◌then◌else◌, nat_eq, List, [], ◌∷◌, ◌++◌, length, drop, slice_get, slice_set, Option, Some, None, is_some, unwrap_or, find}
use Rattle.std.specs.Option.{option_and_then, option_map, option_map_or}
use Rattle.std.specs.List.{sum_by, list_any}
use Rattle.ja_base.specs.declared.ids.Site.{Site}
use Rattle.ja_graph.specs.declared.program.Class.{Class}
use Rattle.ja_prim.specs.Texts.{same_text}
use Rattle.ja_machine.specs.declared.machine.Addr.{Addr}
use Rattle.ja_machine.specs.declared.machine.Content.{Content}
use Rattle.ja_machine.specs.declared.machine.Property.{Property}
use Rattle.ja_machine.specs.declared.machine.Object.{Object}
use Rattle.ja_machine.specs.declared.machine.Heap.{Heap}

-- the objects that were made at a site, in order, and how many there are
abbrev pub objects_of : Heap → Site → List Object
objects_of h s = unwrap_or (slice_get h.objects s.0) []

abbrev pub count : Heap → Site → ℕ
count h s = length (objects_of h s)

-- how many objects there are in all
abbrev pub size : Heap → ℕ
size h = sum_by length h.objects

-- the object of an address, if it is one of the heap
abbrev pub object_at : Heap → Addr → Option Object
object_at h a = slice_get (objects_of h a.site) a.ordinal

-- the heap with one object more at a site, and the address of that object
abbrev pub with_new : Heap → Site → Object → Heap
with_new h s o = record { objects = slice_set h.objects s.0 (objects_of h s ++ o ∷ []) }

abbrev pub new_address : Heap → Site → Addr
new_address h s = record { site = s; ordinal = count h s }

-- the heap with another object at an address
abbrev pub with_object : Heap → Addr → Object → Heap
with_object h a o =
    record { objects = slice_set h.objects a.site.0 (slice_set (objects_of h a.site) a.ordinal o) }

-- an own property
abbrev pub property_of : Object → List ℕ → Option Property
property_of o name = find (λ (q : Property). same_text q.name name) o.properties

abbrev pub own : Heap → Addr → List ℕ → Option Property
own h a name = option_and_then (λ (o : Object). property_of o name) (object_at h a)

-- the objects that a link leads through, from an address on; of at most n objects
abbrev pub chain : (Object → Option Addr) → Heap → ℕ → Option Addr → List Addr
chain link h zero at = []
chain link h (suc n) None = []
chain link h (suc n) (Some a) = a ∷ chain link h n (option_and_then link (object_at h a))

-- an object and those that it inherits from (a chain meets no object twice, so it has at most as
-- many as there are)
abbrev pub prototype_of : Object → Option Addr
prototype_of o = o.slots.prototype

abbrev pub prototypes : Heap → Addr → List Addr
prototypes h a = chain prototype_of h (size h) (Some a)

-- the objects of a scope chain (10.1.4)
abbrev pub outer_of : Object → Option Addr
outer_of o = o.slots.outer

abbrev pub scopes : Heap → Addr → List Addr
scopes h a = chain outer_of h (size h) (Some a)

-- the first own property of the name among objects
abbrev pub or_else : Option Property → Option Property → Option Property
or_else None q = q
or_else (Some p) q = Some p

abbrev pub first_own : Heap → List ℕ → List Addr → Option Property
first_own h name [] = None
first_own h name (a ∷ rest) = or_else (own h a name) (first_own h name rest)

-- [[Get]] (8.6.2.1) with attributes, [[HasProperty]] (8.6.2.4) and [[CanPut]] (8.6.2.3)
abbrev pub get : Heap → Addr → List ℕ → Option Property
get h a name = first_own h name (prototypes h a)

abbrev pub content_at : Heap → Addr → List ℕ → Option Content
content_at h a name = option_map (λ (q : Property). q.content) (get h a name)

abbrev pub has : Heap → Addr → List ℕ → Bool
has h a name = is_some (get h a name)

abbrev pub can_put : Heap → Addr → List ℕ → Bool
can_put h a name = option_map_or (λ (q : Property). not q.attrs.read_only) (get h a name) true

-- whether the own property of the name is there, and shared by a parameter and `arguments` (10.1.8)
abbrev pub is_shared : Heap → Addr → List ℕ → Bool
is_shared h a name = option_map_or (λ (q : Property). q.shared) (own h a name) false

-- the class of an object
abbrev pub class_at : Heap → Addr → Option Class
class_at h a = option_map (λ (o : Object). o.class) (object_at h a)

abbrev pub same_address : Addr → Addr → Bool
same_address a b = if nat_eq a.site.0 b.site.0 then nat_eq a.ordinal b.ordinal else false

-- whether an object is among those that another inherits from
abbrev pub inherits_from : Heap → Addr → Addr → Bool
inherits_from h left prototype = list_any (same_address prototype) (drop 1 (prototypes h left))
