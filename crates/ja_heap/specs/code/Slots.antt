-- Properties in slots, of which some are empty: which are there, and in which slot a name is.
use Rattle.std.specs.Prelude.{◌≡◌, ℕ, ℤ, suc, nat_eq, Bool, true, false, not, if◌then◌else◌}
use Rattle.std.specs.Prelude.{List, [], ◌∷◌, slice_get, slice_set, slice_index_or, map, filter}
use Rattle.std.specs.Prelude.{Option, Some, None, unwrap_or, Box}
use Rattle.std.specs.Global.{Global}
use Rattle.std.specs.Cmp.Lexicographic.{pointwise}
use Rattle.std.specs.HashMap.{HashMap, get}
use Rattle.std.specs.Option.{option_map}
use Rattle.ja_prim.specs.Texts.{same_text}
use Rattle.ja_machine.specs.declared.machine.Property.{Property}
use Rattle.ja_machine.specs.Enumeration.{is_enumerable}
use Rattle.ja_machine.specs.Writes.{is_cut}

-- the properties that are there, in order
abbrev pub live : List (Option Property) → List Property
live [] = []
live (None ∷ slots) = live slots
live (Some q ∷ slots) = q ∷ live slots

-- whether a slot has the property of a name
abbrev pub has_name : List ℕ → Option Property → Bool
has_name name None = false
has_name name (Some q) = same_text q.name name

-- the first slot that has the property of a name
abbrev pub slot_of : List ℕ → List (Option Property) → Option ℕ
slot_of name [] = None
slot_of name (slot ∷ slots) =
    if has_name name slot then Some 0 else option_map suc (slot_of name slots)

-- what is in a slot
abbrev pub slot_at : List (Option Property) → ℕ → Option Property
slot_at slots i = unwrap_or (slice_get slots i) None

-- no two slots have the property of one name
abbrev pub IsApart : List (Option Property) → Type 0
IsApart [] = Unit {0}
IsApart (slot ∷ slots) =
    ((name : List ℕ) → has_name name slot ≡ true → slot_of name slots ≡ None) × IsApart slots

-- a table has the slot of each name, and no other name
abbrev pub HasPlaces : {S : Type 0} → HashMap (List ℕ) ℕ S → List (Option Property) → Type 0
HasPlaces table slots = (name : List ℕ) → get (pointwise nat_eq) table name ≡ slot_of name slots

-- .. where there is a table
abbrev pub IsPlaced : {S : Type 0} → Option (Box (HashMap (List ℕ) ℕ S) Global)
    → List (Option Property) → Type 0
IsPlaced None slots = Unit {0}
IsPlaced (Some table) slots = HasPlaces table.value slots

-- whether what is in a slot isn't cut by a new length
abbrev pub stays : ℕ → ℤ → Option Property → Bool
stays new old None = false
stays new old (Some q) = not (is_cut new (Some old) q)

-- the slots with the property of one changed
abbrev pub changed_at : List (Option Property) → ℕ → (Property → Property) → List (Option Property)
changed_at slots i change = slice_set slots i (option_map change (slice_index_or slots i None))

-- a table has what another one has, and the name that is in a slot
abbrev pub HasSlot : {S : Type 0} → HashMap (List ℕ) ℕ S → HashMap (List ℕ) ℕ S → Option Property
    → ℕ → Type 0
HasSlot old new slot i =
    (key : List ℕ)
    → get (pointwise nat_eq) new key
    ≡ (if has_name key slot then Some i else get (pointwise nat_eq) old key)

-- a table, where there is one, is another one without a name
abbrev pub IsWithout : {S : Type 0} → Option (Box (HashMap (List ℕ) ℕ S) Global) → List ℕ
    → Option (Box (HashMap (List ℕ) ℕ S) Global) → Type 0
IsWithout places name None = Unit {0}
IsWithout None name (Some after) = ⊥
IsWithout (Some table) name (Some after) =
    (key : List ℕ)
    → get (pointwise nat_eq) after.value key
    ≡ (if pointwise nat_eq name key then None else get (pointwise nat_eq) table.value key)

-- the names that are enumerable and pass a test
abbrev pub shown : (List ℕ → Bool) → List (Option Property) → List (List ℕ)
shown test slots = filter test (map (λ (q : Property). q.name) (filter is_enumerable (live slots)))
