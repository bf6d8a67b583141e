-- An object of a heap replaced.
use Rattle.std.proofs.Common.{◌≡◌, ◌≢◌, ◌==◌, ◌+◌, ◌*◌, ◌<◌, ◌≤◌, nat_lt, ℕ, suc, List, [], ◌∷◌, Bool, true, false, Option, if◌then◌else◌, map, length, get_or, refl, ap, sym, ◌∙◌, arith}
use borrow.Author.Tests.{ltb-true}
use Rattle.std.specs.Prelude.{IsTrue, All, slice_set, slice_get}
use Rattle.std.specs.Option.{option_map_or}
use Rattle.std.proofs.lemmas.Option.{slice_get_read}
use Rattle.ja_machine.proofs.Lists.{slice_get-set_same, slice_get-set_other}
use Rattle.ja_base.specs.declared.ids.Label.{Label}
use Rattle.ja_abstract.specs.declared.abstraction.Key.{Key}
use Rattle.ja_abstract.specs.AbstractValue.{AbstractProperty, same_label, join_properties, entry_property}
use Rattle.ja_abstract.specs.AbstractState.{label_number, same_key}
use Rattle.ja_abstract.specs.Made.{Own}
use Rattle.ja_abstract.specs.Writes.{joined_at, replaced_at}
use Rattle.ja_abstract.proofs.Keys.{same_key-true}
use Rattle.ja_aheap.specs.declared.object.AObject.{AObject}
use Rattle.ja_aheap.specs.declared.writes.Write.{Write}
use Rattle.ja_aheap.specs.KeysBelow.{is_key_below, at_keys_below}
use Rattle.ja_aheap.specs.Heap.{property_at}
use Rattle.ja_aheap.specs.Objects.{object_of, write_of}
use Rattle.ja_aheap.proofs.LabelLemmas.{same_label_is}
use Rattle.ja_aheap.proofs.MapLemmas.{equal_from_test, same_number}
use Rattle.ja_aheap.proofs.WriteLemmas.{replaced_in, joined_in}

-- what a heap has at a label whose object is known
abbrev pub own_at : ℕ → Option AObject → Own
own_at names o k =
    option_map_or (λ (o : AObject). at_keys_below names (object_of o) k) o entry_property

pub test_of_other : (a b : ℕ) → (a == b) ≡ false → b ≢ a
test_of_other a b apart same = let clash : true ≡ false = sym (same_number a)
    ∙ ap (λ (n : ℕ). a == n) (sym same) ∙ apart in absurd (cc)

pub object_set : (objects : List AObject) (names : ℕ) (label : Label) (o : AObject) (own : Own)
    → label_number label < length objects → at_keys_below names (object_of o) ≡ own
    → (l : Label) (k : Key) → property_at (slice_set objects (label_number label) o) names l k
    ≡ (if same_label label l then own k else property_at objects names l k)
object_set objects names label o own within is l k =
    pick (label_number label == label_number l)
    (equal_from_test (label_number label) (label_number l))
    (test_of_other (label_number label) (label_number l))
    ∙ ap (λ (b : Bool). if b then own k else property_at objects names l k)
    (sym (same_label_is label l))
  where
    pick : (b : Bool) → (b ≡ true → label_number label ≡ label_number l)
        → (b ≡ false → label_number l ≢ label_number label)
        → property_at (slice_set objects (label_number label) o) names l k
        ≡ (if b then own k else property_at objects names l k)
    pick true same other =
        ap (λ (n : ℕ). own_at names (slice_get (slice_set objects (label_number label) o) n) k)
        (sym (same refl))
        ∙ ap (λ (x : Option AObject). own_at names x k)
        (slice_get-set_same objects (label_number label) o within)
        ∙ ap (λ (p : Own). p k) is
    pick false same other =
        ap (λ (x : Option AObject). own_at names x k)
        (slice_get-set_other objects (label_number label) (label_number l) o (other refl))

-- writes at keys of the program leave all other keys as they were
pub other_key : (names : ℕ) (j k : Key) → IsTrue (is_key_below names j)
    → is_key_below names k ≡ false → same_key j k ≡ false
other_key names j k below beyond = pick (same_key j k) refl
  where
    pick : (b : Bool) → same_key j k ≡ b → b ≡ false
    pick true same =
        let clash : true ≡ false = sym below ∙ ap (is_key_below names) (same_key-true j k same)
        ∙ beyond in absurd (cc)
    pick false same = refl

abbrev pub AreBelow : ℕ → List Write → Type 0
AreBelow names writes = All (λ (w : Write). IsTrue (is_key_below names w.key)) writes

pub rest_below : (names : ℕ) (w : Write) (ws : List Write) → AreBelow names (w ∷ ws)
    → AreBelow names ws
rest_below names w ws below = λ k d l. below (suc k) d (omega arith)

pub first_below : (names : ℕ) (w : Write) (ws : List Write) → AreBelow names (w ∷ ws)
    → IsTrue (is_key_below names w.key)
first_below names w ws below = below 0 w (omega arith)

replaced_beyond : (names : ℕ) (ws : List Write) (q : AbstractProperty) (k : Key)
    → AreBelow names ws → is_key_below names k ≡ false → replaced_at (map write_of ws) q k ≡ q
replaced_beyond names [] q k below beyond = refl
replaced_beyond names (w ∷ ws) q k below beyond =
    let before = replaced_at (map write_of ws) q k in
    let x = write_of w in
    ap (λ (b : Bool). if b then (if x.joins then join_properties before x.property else x.property)
    else before) (other_key names w.key k (first_below names w ws below) beyond)
    ∙ replaced_beyond names ws q k (rest_below names w ws below) beyond

joined_beyond : (names : ℕ) (ws : List Write) (q : AbstractProperty) (k : Key)
    → AreBelow names ws → is_key_below names k ≡ false → joined_at (map write_of ws) q k ≡ q
joined_beyond names [] q k below beyond = refl
joined_beyond names (w ∷ ws) q k below beyond =
    let before = joined_at (map write_of ws) q k in
    let x = write_of w in
    ap (λ (b : Bool). if b then join_properties before x.property else before)
    (other_key names w.key k (first_below names w ws below) beyond)
    ∙ joined_beyond names ws q k (rest_below names w ws below) beyond

-- an object with writes, as a heap shows it
pub replaced_shown : (names : ℕ) (ws : List Write) (own : Own) → AreBelow names ws
    → at_keys_below names (replaced_in (map write_of ws) own)
    ≡ replaced_in (map write_of ws) (at_keys_below names own)
replaced_shown names ws own below = λ i k. (pick k (is_key_below names k) refl) i
  where
    pick : (k : Key) (b : Bool) → is_key_below names k ≡ b
        → (if b then replaced_at (map write_of ws) (own k) k else entry_property)
        ≡ replaced_at (map write_of ws) (if b then own k else entry_property) k
    pick k true is = refl
    pick k false is = sym (replaced_beyond names ws entry_property k below is)

pub joined_shown : (names : ℕ) (ws : List Write) (own : Own) → AreBelow names ws
    → at_keys_below names (joined_in (map write_of ws) own)
    ≡ joined_in (map write_of ws) (at_keys_below names own)
joined_shown names ws own below = λ i k. (pick k (is_key_below names k) refl) i
  where
    pick : (k : Key) (b : Bool) → is_key_below names k ≡ b
        → (if b then joined_at (map write_of ws) (own k) k else entry_property)
        ≡ joined_at (map write_of ws) (if b then own k else entry_property) k
    pick k true is = refl
    pick k false is = sym (joined_beyond names ws entry_property k below is)

-- what a heap has at a label of the program
pub object_shown : (objects : List AObject) (names : ℕ) (label : Label) (o : AObject)
    → label_number label < length objects → o ≡ get_or objects (label_number label) o → (l : Label)
    → (same_label label l) ≡ true → (k : Key)
    → at_keys_below names (object_of o) k ≡ property_at objects names l k
object_shown objects names label o within is l same k =
    sym (ap (λ (x : Option AObject). own_at names x k)
    (slice_get_read objects (length objects) (label_number label) o refl within is))
    ∙ ap (λ (n : ℕ). own_at names (slice_get objects n) k)
    (equal_from_test (label_number label) (label_number l) (sym (same_label_is label l) ∙ same))

-- an object changed by a function of it alone, key by key
pub object_changed : (objects : List AObject) (names : ℕ) (label : Label) (o new : AObject)
    (change : AbstractProperty → Key → AbstractProperty)
    → label_number label < length objects → o ≡ get_or objects (label_number label) o
    → at_keys_below names (object_of new) ≡ (λ k. change (at_keys_below names (object_of o) k) k)
    → (l : Label) (k : Key) → property_at (slice_set objects (label_number label) new) names l k
    ≡ (if same_label label l then change (property_at objects names l k) k
    else property_at objects names l k)
object_changed objects names label o new change within is changed l k =
    object_set objects names label new (λ k. change (at_keys_below names (object_of o) k) k) within
    changed l k
    ∙ pick (same_label label l) refl
  where
    pick : (b : Bool) → same_label label l ≡ b
        → (if b then change (at_keys_below names (object_of o) k) k
        else property_at objects names l k)
        ≡ (if b then change (property_at objects names l k) k else property_at objects names l k)
    pick true same = ap (λ (q : AbstractProperty). change q k)
        (object_shown objects names label o within is l same k)
    pick false same = refl

-- the number of a label of the program, and of any other
pub number_within : (l : Label) (sites n : ℕ) → l.site.0 < sites → n ≡ 2 * sites
    → label_number l < n
number_within l sites n below is = pick l.old
  where
    pick : (b : Bool) → 2 * l.site.0 + (if b then 1 else 0) < n
    pick true = omega arith
    pick false = omega arith

pub number_beyond : (l : Label) (sites n : ℕ) → sites ≤ l.site.0 → n ≡ 2 * sites
    → n ≤ label_number l
number_beyond l sites n above is = pick l.old
  where
    pick : (b : Bool) → n ≤ 2 * l.site.0 + (if b then 1 else 0)
    pick true = omega arith
    pick false = omega arith

pub label_within : (l : Label) (sites n : ℕ) → IsTrue (nat_lt l.site.0 sites) → n ≡ 2 * sites
    → label_number l < n
label_within l sites n among is = number_within l sites n (ltb-true l.site.0 sites among) is
