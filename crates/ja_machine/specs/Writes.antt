-- What changes a property (ES3 8.6.2.2, 8.6.2.5), and an array's length with it (15.4.5.1).
use Rattle.std.specs.Prelude.{ℕ, ◌+◌, ◌^◌, ℤ, pos, negsuc, int_lt, nat_le, nat_lt, Bool, true, false, not, ◌&&◌, if◌then◌else◌, List, [], ◌∷◌, filter, Option, Some, None, Result, Ok, Err}
use Rattle.std.specs.Option.{option_map_or}
use lib.Chars.{codes}
use Rattle.ja_graph.specs.declared.attrs.Attrs.{Attrs}
use Rattle.ja_graph.specs.declared.attrs.TheConstants.{NO_ATTRS}
use Rattle.ja_graph.specs.declared.program.Class.{Class}
use Rattle.ja_graph.specs.declared.program.Class.TheVariants as class
use Rattle.ja_prim.specs.declared.primitive.Num.{Num}
use Rattle.ja_prim.specs.declared.primitive.Num.TheVariants.{NaN, Whole}
use Rattle.ja_prim.specs.declared.primitive.Primitive.TheVariants.{Number}
use Rattle.ja_prim.specs.declared.stop.Stop.{Stop}
use Rattle.ja_prim.specs.Conversions.{to_number, index_of}
use Rattle.ja_prim.specs.Texts.{same_text}
use Rattle.ja_machine.specs.declared.machine.Addr.{Addr}
use Rattle.ja_machine.specs.declared.machine.Value.{Value}
use Rattle.ja_machine.specs.declared.machine.Value.TheVariants as value
use Rattle.ja_machine.specs.declared.machine.Content.{Content}
use Rattle.ja_machine.specs.declared.machine.Content.TheVariants as contents
use Rattle.ja_machine.specs.declared.machine.Property.{Property}
use Rattle.ja_machine.specs.declared.machine.Object.{Object}
use Rattle.ja_machine.specs.declared.machine.Heap.{Heap}
use Rattle.ja_machine.specs.declared.machine.Put.{Put}
use Rattle.ja_machine.specs.declared.machine.Put.TheVariants as put_ends
use Rattle.ja_machine.specs.Heap.{object_at, own, with_object, property_of, can_put, is_shared}

-- a property that is new: it comes last, and isn't shared
abbrev pub new_property : List ℕ → Content → Attrs → Property
new_property name content attrs =
    record { name = name; content = content; attrs = attrs; shared = false }

-- the properties after the value of a name is set: attributes stay, and a new property has none
abbrev pub with_value : List Property → List ℕ → Value → List Property
with_value [] name v = new_property name (contents.Value v) NO_ATTRS ∷ []
with_value (q ∷ qs) name v =
    if same_text q.name name then record q { content = contents.Value v } ∷ qs else q
    ∷ with_value qs name v

-- the properties after a name is defined, with content and attributes
abbrev pub with_definition : List Property → List ℕ → Content → Attrs → List Property
with_definition [] name content attrs = new_property name content attrs ∷ []
with_definition (q ∷ qs) name content attrs =
    if same_text q.name name then record q { content = content; attrs = attrs } ∷ qs
    else q ∷ with_definition qs name content attrs

abbrev pub without : List Property → List ℕ → List Property
without qs name = filter (λ (q : Property). not (same_text q.name name)) qs

abbrev pub object_with_value : Object → List ℕ → Value → Object
object_with_value o name v = record o { properties = with_value o.properties name v }

-- the heap in which an object is changed
abbrev pub changed : Heap → Addr → (Object → Object) → Heap
changed h a change = option_map_or (λ (o : Object). with_object h a (change o)) (object_at h a) h

-- a name is defined on an object
abbrev pub define : Heap → Addr → List ℕ → Content → Attrs → Heap
define h a name content attrs =
    changed h a (λ o. record o { properties = with_definition o.properties name content attrs })

-- [[Delete]] (8.6.2.5): whether it gives true, and the heap behind it
abbrev pub can_delete : Heap → Addr → List ℕ → Bool
can_delete h a name = option_map_or (λ (q : Property). not q.attrs.dont_delete) (own h a name) true

abbrev pub delete : Heap → Addr → List ℕ → Heap
delete h a name =
    if can_delete h a name then changed h a
    (λ o. record o { properties = without o.properties name }) else h

-- ---- arrays (15.4.5)

abbrev pub length_name : List ℕ
length_name = codes "length"

abbrev pub whole_number : ℕ → Value
whole_number n = value.Primitive (Number (Whole (pos n)))

-- the whole number that an array's length is, if it is one
abbrev pub number_held : Content → Option ℤ
number_held (contents.Value (value.Primitive (Number (Whole n)))) = Some n
number_held content = None

abbrev pub property_number : Option Property → Option ℤ
property_number None = None
property_number (Some q) = number_held q.content

abbrev pub length_of : Object → Option ℤ
length_of o = property_number (property_of o length_name)

-- an element is set: a length that isn't above its index becomes one more than the index (steps 8
-- to 10)
abbrev pub grown : ℕ → Option ℤ → Object → Object
grown index None o = o
grown index (Some n) o =
    if int_lt (pos index) n then o else object_with_value o length_name (whole_number (index + 1))

abbrev pub with_element : Object → List ℕ → Value → Option ℕ → Object
with_element o name v None = object_with_value o name v
with_element o name v (Some index) = grown index (length_of o) (object_with_value o name v)

-- the unsigned 32-bit number that a length is, if it is one (steps 12 and 13); a text whose number
-- leaves the profile is none
abbrev pub unsigned_number : Result Num Stop → Option ℕ
unsigned_number (Ok (Whole (pos n))) = if nat_lt n (2 ^ 32) then Some n else None
unsigned_number (Ok (Whole (negsuc n))) = None
unsigned_number (Ok NaN) = None
unsigned_number (Err stop) = None

-- an element from a new length on, below the old one
abbrev pub is_cut : ℕ → Option ℤ → Property → Bool
is_cut new None q = false
is_cut new (Some old) q =
    option_map_or (λ index. nat_le new index && int_lt (pos index) old) (index_of q.name) false

-- the length is set: elements that aren't below it are deleted (steps 14 and 15)
abbrev pub with_length : Object → ℕ → Object
with_length o n =
    object_with_value (record o {
      properties = filter
          (λ (q : Property). not (is_cut n (length_of o) q)) o.properties;
    }) length_name
    (whole_number n)

-- ---- [[Put]] (8.6.2.2, 15.4.5.1)

-- how a put ends, and the heap behind it
pub record PutOutcome : Type 0 where
  pub put : Put
  pub heap : Heap

abbrev pub written : Heap → Put → PutOutcome
written h end = record { put = end; heap = h }

abbrev pub put_length : Heap → Addr → Object → Option ℕ → PutOutcome
put_length h a o None = written h put_ends.RangeError
put_length h a o (Some n) = written (with_object h a (with_length o n)) put_ends.Done

abbrev pub put_length_value : Heap → Addr → Object → Value → PutOutcome
put_length_value h a o (value.Object b) = written h put_ends.LengthObject
put_length_value h a o (value.Primitive q) = put_length h a o (unsigned_number (to_number q))

abbrev pub put_array : Heap → Addr → Object → List ℕ → Value → PutOutcome
put_array h a o name v =
    if same_text name length_name then put_length_value h a o v
    else written (with_object h a (with_element o name v (index_of name))) put_ends.Done

abbrev pub is_array : Class → Bool
is_array class.Array = true
is_array class = false

abbrev pub put_own : Heap → Addr → Object → List ℕ → Value → PutOutcome
put_own h a o name v =
    if is_array o.class then put_array h a o name v
    else written (with_object h a (object_with_value o name v)) put_ends.Done

abbrev pub put : Heap → Addr → List ℕ → Value → PutOutcome
put h a name v =
    if not (can_put h a name) then written h put_ends.Ignored
    else if is_shared h a name then written h put_ends.SharedArgument
    else option_map_or (λ o. put_own h a o name v) (object_at h a) (written h put_ends.Done)
