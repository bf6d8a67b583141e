-- Properties read through later ones.
use Rattle.std.proofs.Common.{◌≡◌, ◌||◌, ℕ, if◌then◌else◌, List, [], ◌∷◌, ◌++◌, map, length, get_or, ◌<◌, Bool, true, false, Option, Some, None, is_some, refl, ap, sym, subst, ◌∙◌}
use Rattle.std.proofs.lemmas.Option.{slice_get_read}
use Rattle.std.specs.Prelude.{IsTrue}
use Rattle.std.specs.Option.{option_map_or, IfSome}
use Rattle.std.specs.Ordering.{nat_cmp}
use Rattle.std.specs.declared.rc.Rc.{Rc}
use Rattle.std.specs.Global.{Global}
use Rattle.std.specs.BTreeMap.{BTreeMap, get}
use denote.Ref.{Bor}
use Rattle.ja_base.specs.declared.ids.Label.{Label}
use Rattle.ja_base.proofs.Options.{none_not_some}
use Rattle.ja_base.proofs.Tests.{or_left_false, or_right_false}
use Rattle.ja_abstract.specs.declared.abstraction.Key.{Key}
use Rattle.ja_abstract.specs.declared.abstraction.Mask.{Mask}
use Rattle.ja_abstract.specs.AbstractValue.{AbstractProperty, join_properties, no_property, entry_property}
use Rattle.ja_abstract.specs.AbstractState.{label_number, key_number}
use Rattle.ja_abstract.proofs.Least.{with_nothing}
use Rattle.ja_abstract.specs.Resolved.{renamed, known_part, join_all}
use Rattle.ja_value.specs.declared.property.AProp.{AProp}
use Rattle.ja_value.specs.Labels.{mask_in}
use Rattle.ja_value.specs.Value.{property_of}
use Rattle.ja_aheap.specs.declared.object.AObject.{AObject}
use Rattle.ja_aheap.specs.declared.sources.Sources.{Sources}
use Rattle.ja_aheap.specs.KeysBelow.{is_key_below}
use Rattle.ja_aheap.specs.Objects.{at, object_of, shared_property}
use Rattle.ja_aheap.specs.code.Own.{own_below}
use Rattle.ja_aheap.specs.code.Composed.{composed_property, property_list, AreAt, composed_by, composed_at, lists, IsKept, read_at, origins_at, composed_of}
use Rattle.ja_aheap.proofs.MapLemmas.{found}

-- an earlier property, if there is one, joined to the rest
abbrev pub with_one : (ℕ → Mask) → Option (Bor AProp) → AbstractProperty → AbstractProperty
with_one mask o rest =
    option_map_or (λ (p : Bor AProp). join_properties (renamed mask (property_of p.now)) rest) o
    rest

pub both_joined : (mask : ℕ → Mask) (first second : Option (Bor AProp))
    → with_one mask first (with_one mask second no_property)
    ≡ join_all (map (renamed mask) (property_list property_of first
    ++ property_list property_of second))
both_joined mask None None = refl
both_joined mask None (Some q) = refl
both_joined mask (Some p) None = refl
both_joined mask (Some p) (Some q) = refl

-- where a property may be as at entry
pub composed_entry : (mask : ℕ → Mask) (q known : AbstractProperty) (firsts : List AbstractProperty)
    → known ≡ q → known.value.flags.entry ≡ true
    → join_properties (known_part known) (join_all (map (renamed mask) firsts))
    ≡ composed_property mask q firsts
composed_entry mask q known firsts is entry =
    ap (λ (p : AbstractProperty). join_properties (known_part p)
    (join_all (map (renamed mask) firsts))) is
    ∙ ap (λ (b : Bool). if b
    then join_properties (known_part q) (join_all (map (renamed mask) firsts)) else q)
    (sym (sym (ap (λ (p : AbstractProperty). p.value.flags.entry) is) ∙ entry))

-- ---- objects

-- what an object has at a number that it doesn't list
pub at_unlisted : (o : AObject) (q : ℕ) → is_some (get nat_cmp o.listed q) ≡ false
    → at o q ≡ property_of o.common
at_unlisted o q none = pick (get nat_cmp o.listed q) none
  where
    pick : (x : Option (Rc AProp Global)) → is_some x ≡ false
        → option_map_or shared_property x (property_of o.common) ≡ property_of o.common
    pick None none = refl
    pick (Some p) none = absurd (cc)

abbrev pub common_in : AObject → AbstractProperty
common_in o = property_of o.common

pub list_unlisted : (o : Option (Bor AObject)) (q : ℕ) → lists o q ≡ false
    → property_list common_in o ≡ property_list (λ (x : AObject). at x q) o
list_unlisted None q none = refl
list_unlisted (Some x) q none =
    ap (λ (p : AbstractProperty). p ∷ []) (sym (at_unlisted x.now q none))

-- the composed properties at all numbers that an object lists, and the common one
pub object_composed : (s : Sources) (o : AObject) → AreAt (composed_at s) o.listed
    → ((q : ℕ) → is_some (get nat_cmp o.listed q) ≡ false
    → is_some (get nat_cmp s.later.now.listed q) ≡ false × (lists s.first q ≡ false)
    × (lists s.second q ≡ false))
    → common_in o ≡ composed_by s common_in → (q : ℕ) → at o q ≡ composed_at s q
object_composed s o right none common q = pick (get nat_cmp o.listed q) refl
  where
    pick : (x : Option (Rc AProp Global)) → get nat_cmp o.listed q ≡ x
        → option_map_or shared_property x (property_of o.common) ≡ composed_at s q
    pick (Some p) is = right q p is
    pick None is =
        let unlisted = none q (ap is_some is) in
        common
        ∙ ap (λ (p : AbstractProperty). composed_property (mask_in s.masks.now) p
        (property_list common_in s.first ++ property_list common_in s.second))
        (sym (at_unlisted s.later.now q unlisted.0))
        ∙ (λ i. composed_property (mask_in s.masks.now) (at s.later.now q)
        ((list_unlisted s.first q unlisted.1) i ++ (list_unlisted s.second q unlisted.2) i))

pub none_of_four : (a b c d r : Bool) → r ≡ (c || (b || (a || d))) → r ≡ false
    → (a ≡ false) × (b ≡ false) × (c ≡ false)
none_of_four a b c d r is none =
    let all : (c || (b || (a || d))) ≡ false = sym is ∙ none in
    let rest = or_right_false c _ all in
    (or_left_false a d (or_right_false b _ rest), or_left_false b _ rest, or_left_false c _ all)

-- nothing is listed in an empty map
pub nothing_at : (m : BTreeMap ℕ (Rc AProp Global))
    (f : ℕ → AbstractProperty) → m.entries ≡ [] → AreAt f m
nothing_at m f empty q p is =
    absurd (none_not_some (sym (ap (λ (es : List (ℕ × Rc AProp Global)). found es q) empty) ∙ is))

-- ---- what stays

-- nothing is known later but that all is as at entry
pub all_entry : (mask : ℕ → Mask) (q : AbstractProperty) → renamed mask q ≡ q
    → composed_property mask entry_property (q ∷ []) ≡ q
all_entry mask q same = with_nothing (renamed mask q) ∙ same

pub kept_whole : (names : ℕ) (s : Sources) (o : Bor AObject) → s.first ≡ Some o → s.second ≡ None
    → ((k : Key) → own_below names s.later.now k ≡ entry_property)
    → ((q : ℕ) → renamed (mask_in s.masks.now) (at o.now q) ≡ at o.now q) → IsKept names s
kept_whole names s o first second entry same =
    let mask = mask_in s.masks.now in
    let each = λ (k : Key) (below : is_key_below names k ≡ true). let q = key_number k in
    let f : AObject → AbstractProperty = λ x. at x q in
    let here : at s.later.now q ≡ entry_property = sym (ap (λ (b : Bool).
    if b then at s.later.now q else entry_property) below) ∙ entry k in
    (λ i. composed_property mask (here i) (property_list f (first i)
    ++ property_list f (second i))) ∙ all_entry mask (at o.now q) (same q) in
    (o, first, each)

-- ---- labels

pub read_here : (f : AObject → AbstractProperty) (objects : List AObject) (label : Label)
    (o : AObject) → label_number label < length objects
    → o ≡ get_or objects (label_number label) o → read_at f objects label ≡ f o
read_here f objects label o within is =
    ap (λ (x : Option AObject). option_map_or f x no_property)
    (slice_get_read objects (length objects) (label_number label) o refl within is)

pub sources_composed : (s : Sources) (first later : List AObject) (masks : BTreeMap ℕ Mask)
    (label : Label) (k : Key) → label_number label < length later
    → s.later.now ≡ get_or later (label_number label) s.later.now → s.masks.now ≡ masks
    → let f : AObject → AbstractProperty = λ o. object_of o k in
    property_list f s.first ++ property_list f s.second
    ≡ origins_at f first (mask_in masks) label
    → composed_at s (key_number k) ≡ composed_of first later (mask_in masks) label k
sources_composed s first later masks label k within is same origins =
    let f : AObject → AbstractProperty = λ o. object_of o k in
    let here : f s.later.now ≡ read_at f later label = sym (read_here f later label s.later.now
    within is) in
    λ i. composed_property (mask_in (same i)) (here i) (origins i)

-- the object that is kept is that of the label
pub read_kept : (names : ℕ) (s : Sources) (first : List AObject) (label : Label) (k : Key)
    → IsTrue (is_key_below names k) → label_number label < length first
    → IfSome s.first (λ o. o.now ≡ get_or first (label_number label) o.now) → IsKept names s
    → read_at (λ (o : AObject). object_of o k) first label ≡ composed_at s (key_number k)
read_kept names s first label k below within own kept =
    let o = kept.0 in
    let is : o.now ≡ get_or first (label_number label) o.now =
    subst (λ (x : Option (Bor AObject)). IfSome x (λ o. o.now
    ≡ get_or first (label_number label) o.now)) kept.1 own in
    read_here (λ (o : AObject). object_of o k) first label o.now within is ∙ sym (kept.2 k below)
