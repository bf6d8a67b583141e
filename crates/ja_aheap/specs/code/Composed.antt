-- Objects read through later ones, by the numbers of keys.
use Rattle.std.specs.Prelude.{◌≡◌, ◌<◌, ◌≤◌, ◌⊎◌, IsTrue, ℕ, Bool, true, false, is_some, if◌then◌else◌, List, [], ◌∷◌, ◌++◌, map, length, Option, Some, slice_get}
use Rattle.std.specs.Option.{option_map_or}
use Rattle.std.specs.Ordering.{nat_cmp}
use Rattle.std.specs.declared.rc.Rc.{Rc}
use Rattle.std.specs.Global.{Global}
use Rattle.std.specs.BTreeMap.{BTreeMap, get}
use denote.Ref.{Bor}
use Rattle.ja_base.specs.declared.ids.Label.{Label}
use Rattle.ja_base.specs.declared.ids.Site.{Site}
use Rattle.ja_abstract.specs.declared.abstraction.Key.{Key}
use Rattle.ja_abstract.specs.declared.abstraction.Mask.{Mask}
use Rattle.ja_abstract.specs.AbstractValue.{Labels, AbstractProperty, join_properties, no_property}
use Rattle.ja_abstract.specs.AbstractState.{label_number, key_number, new, exactly_none}
use Rattle.ja_abstract.specs.Made.{Own}
use Rattle.ja_abstract.specs.Resolved.{renamed, known_part, join_all, origins}
use Rattle.ja_value.specs.declared.property.AProp.{AProp}
use Rattle.ja_value.specs.Labels.{label_at, mask_in}
use Rattle.ja_aheap.specs.declared.object.AObject.{AObject}
use Rattle.ja_aheap.specs.declared.sources.Sources.{Sources}
use Rattle.ja_aheap.specs.KeysBelow.{is_key_below}
use Rattle.ja_aheap.specs.Objects.{at, object_of, shared_property}

-- a property, with what some objects had at the first moment in the place of `entry`
abbrev pub composed_property : (ℕ → Mask) → AbstractProperty → List AbstractProperty
    → AbstractProperty
composed_property mask q firsts =
    if q.value.flags.entry
    then join_properties (known_part q) (join_all (map (renamed mask) firsts)) else q

-- what is read of one that may be there
abbrev pub property_list : {X : Type 0} → (X → AbstractProperty) → Option (Bor X)
    → List AbstractProperty
property_list f o = option_map_or (λ (x : Bor _). f x.now ∷ []) o []

-- what is listed at a number is the property there
abbrev pub AreAt : (ℕ → AbstractProperty) → BTreeMap ℕ (Rc AProp Global) → Type 0
AreAt f m = (q : ℕ) (p : Rc AProp Global) → get nat_cmp m q ≡ Some p → shared_property p ≡ f q

-- an object, by what is read of the objects that it is composed of
abbrev pub composed_by : Sources → (AObject → AbstractProperty) → AbstractProperty
composed_by s f =
    composed_property (mask_in s.masks.now) (f s.later.now)
    (property_list f s.first ++ property_list f s.second)

abbrev pub composed_at : Sources → ℕ → AbstractProperty
composed_at s q = composed_by s (λ (o : AObject). at o q)

-- whether an object that may be there lists a number
abbrev pub lists : Option (Bor AObject) → ℕ → Bool
lists o q = option_map_or (λ (x : Bor AObject). is_some (get nat_cmp x.now.listed q)) o false

-- the new label of each site at which something may be made is among these
abbrev pub HasMoved : ℕ → (ℕ → Mask) → Labels → Type 0
HasMoved sites mask moved =
    (s : Site) → s.0 < sites → (mask s.0 ≡ exactly_none) ⊎ (moved (new s) ≡ true)

-- no object of the labels has another label
abbrev pub AreUnmoved : (ℕ → Mask) → Labels → Type 0
AreUnmoved mask set = (s : Site) → (mask s.0 ≡ exactly_none) ⊎ (set (new s) ≡ false)

-- what is read of the object of a label
abbrev pub read_at : (AObject → AbstractProperty) → List AObject → Label → AbstractProperty
read_at f objects l = option_map_or f (slice_get objects (label_number l)) no_property

abbrev pub origins_at : (AObject → AbstractProperty) → List AObject → (ℕ → Mask) → Label
    → List AbstractProperty
origins_at f objects mask l = map (read_at f objects) (origins mask l)

-- the composed object of a label
abbrev pub composed_of : List AObject → List AObject → (ℕ → Mask) → Label → Own
composed_of first later mask l k =
    let f : AObject → AbstractProperty = λ o. object_of o k in
    composed_property mask (read_at f later l) (origins_at f first mask l)

-- the first object stays as it is, at the keys of the first names
abbrev pub IsKept : ℕ → Sources → Type 0
IsKept names s =
    (o : Bor AObject) × (s.first ≡ Some o) × ((k : Key) → IsTrue (is_key_below names k)
    → composed_at s (key_number k) ≡ object_of o.now k)

-- an object, or else the one that is there, is the composed one of a label
abbrev pub IsComposed : ℕ → List AObject → List AObject → (ℕ → Mask) → Label → Option AObject
    → Type 0
IsComposed names first later mask l x =
    (k : Key) → IsTrue (is_key_below names k) → option_map_or (λ (o : AObject). object_of o k) x
    (read_at (λ (o : AObject). object_of o k) first l) ≡ composed_of first later mask l k

-- what an object of a list has at a key
abbrev pub at_place : List AObject → ℕ → Own
at_place objects n k =
    option_map_or (λ (o : AObject). object_of o k) (slice_get objects n) no_property

-- the objects of the labels below a number are composed, and the others are as they were
pub record Composing (names : ℕ) (first later : List AObject) (mask : ℕ → Mask)
    (objects : List AObject) (n : ℕ) : Type 0 where
  pub passed : (m : ℕ) → m < n → (k : Key) → IsTrue (is_key_below names k)
      → at_place objects m k ≡ composed_of first later mask (label_at m) k
  pub ahead : (m : ℕ) → n ≤ m → slice_get objects m ≡ slice_get first m
  pub long : length objects ≡ length first
