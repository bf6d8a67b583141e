-- Demanded values at entry, by the numbers of labels and keys.
use Rattle.std.proofs.Common.{◌≡◌, ◌≢◌, ◌==◌, ◌&&◌, ℕ, Bool, true, false, Option, Some, None, if◌then◌else◌, refl, ap, sym, ◌∙◌}
use Rattle.std.specs.Option.{option_and_then}
use Rattle.std.specs.Ordering.{nat_cmp}
use Rattle.std.specs.BTreeMap.{BTreeMap, get}
use Rattle.ja_base.specs.declared.ids.Label.{Label}
use Rattle.ja_abstract.specs.declared.abstraction.Key.{Key}
use Rattle.ja_abstract.specs.AbstractValue.{AbstractProperty, same_label}
use Rattle.ja_abstract.specs.AbstractState.{label_number, key_number, same_key}
use Rattle.ja_abstract.specs.Resolved.{Entries}
use Rattle.ja_value.specs.declared.property.AProp.{AProp}
use Rattle.ja_aheap.specs.Numbers.{property_in, entry_in}
use Rattle.ja_aheap.specs.code.Maps.{IsFilled}
use Rattle.ja_aheap.proofs.MapLemmas.{equal_from_test, same_number}
use Rattle.ja_aheap.proofs.LabelLemmas.{same_label_is}

-- One label's properties are taken out, changed and put back.
pub record Exchanged (old between new : BTreeMap ℕ (BTreeMap ℕ AProp))
    (mine next : BTreeMap ℕ AProp) (n : ℕ) : Type 0 where
  pub taken : (q : ℕ) → property_in mine q ≡ entry_in old n q
  pub out : (q : ℕ) → (n == q) ≡ false → get nat_cmp between q ≡ get nat_cmp old q
  pub back : (q : ℕ) → get nat_cmp new q ≡ (if n == q then Some next else get nat_cmp between q)

abbrev pub read : Option (BTreeMap ℕ AProp) → ℕ → Option AbstractProperty
read o q = option_and_then (λ (properties : BTreeMap ℕ AProp). property_in properties q) o

-- at one pair of numbers, b says that the label is the one, and c that the key is
pub at_pair : (b c : Bool) (F : Option AbstractProperty → Option AbstractProperty)
    (next : BTreeMap ℕ AProp) (between old : Option (BTreeMap ℕ AProp))
    (mine : Option AbstractProperty) (q : ℕ)
    → property_in next q ≡ (if c then F mine else mine) → (b ≡ true → mine ≡ read old q)
    → (b ≡ false → between ≡ old) → read (if b then Some next else between) q
    ≡ (if b && c then F (read old q) else read old q)
at_pair true c F next between old mine q step here there =
    step ∙ ap (λ (o : Option AbstractProperty). if c then F o else o) (here refl)
at_pair false c F next between old mine q step here there =
    ap (λ (o : Option (BTreeMap ℕ AProp)). read o q) (there refl)

pub exchanged : (F : Option AbstractProperty → Option AbstractProperty)
    (old between new : BTreeMap ℕ (BTreeMap ℕ AProp)) (mine next : BTreeMap ℕ AProp) (n k : ℕ)
    → Exchanged old between new mine next n
    → ((q : ℕ) → property_in next q ≡ (if k == q then F (property_in mine q)
    else property_in mine q))
    → (p q : ℕ) → entry_in new p q ≡ (if (n == p) && (k == q) then F (entry_in old p q)
    else entry_in old p q)
exchanged F old between new mine next n k h step p q =
    ap (λ (o : Option (BTreeMap ℕ AProp)). read o q) (h.back p)
    ∙ at_pair (n == p) (k == q) F next (get nat_cmp between p) (get nat_cmp old p)
    (property_in mine q) q (step q) (λ same. h.taken q
    ∙ ap (λ (m : ℕ). entry_in old m q) (equal_from_test n p same)) (h.out p)

at_kept : (b : Bool) (next : BTreeMap ℕ AProp) (between old : Option (BTreeMap ℕ AProp))
    (mine : Option AbstractProperty) (q : ℕ)
    → property_in next q ≡ mine → (b ≡ true → mine ≡ read old q) → (b ≡ false → between ≡ old)
    → read (if b then Some next else between) q ≡ read old q
at_kept true next between old mine q same here there = same ∙ here refl
at_kept false next between old mine q same here there =
    ap (λ (o : Option (BTreeMap ℕ AProp)). read o q) (there refl)

-- what is put back as it was
pub exchanged_kept : (old between new : BTreeMap ℕ (BTreeMap ℕ AProp))
    (mine next : BTreeMap ℕ AProp) (n : ℕ)
    → Exchanged old between new mine next n → ((q : ℕ) → property_in next q ≡ property_in mine q)
    → (p q : ℕ) → entry_in new p q ≡ entry_in old p q
exchanged_kept old between new mine next n h same p q =
    ap (λ (o : Option (BTreeMap ℕ AProp)). read o q) (h.back p)
    ∙ at_kept (n == p) next (get nat_cmp between p) (get nat_cmp old p) (property_in mine q) q
    (same q) (λ is. h.taken q ∙ ap (λ (m : ℕ). entry_in old m q) (equal_from_test n p is))
    (h.out p)

pub exchanged_whole : (F : Option AbstractProperty → Option AbstractProperty)
    (old between new : BTreeMap ℕ (BTreeMap ℕ AProp)) (mine next : BTreeMap ℕ AProp) (n m : ℕ)
    (label : Label) (key : Key)
    → Exchanged old between new mine next n
    → ((q : ℕ) → property_in next q ≡ (if m == q then F (property_in mine q)
    else property_in mine q)) → n ≡ label_number label → m ≡ key_number key
    → (l : Label) (k : Key) → entry_in new (label_number l) (key_number k)
    ≡ (if same_label label l && same_key key k
    then F (entry_in old (label_number l) (key_number k))
    else entry_in old (label_number l) (key_number k))
exchanged_whole F old between new mine next n m label key h step is_label is_key l k =
    let was = entry_in old (label_number l) (key_number k) in
    exchanged F old between new mine next n m h step (label_number l) (key_number k)
    ∙ (λ i. if (is_label i == label_number l) && (is_key i == key_number k) then F was else was)
    ∙ ap (λ (b : Bool). if b && same_key key k then F was else was) (sym (same_label_is label l))

-- all that is demanded, by labels and keys
abbrev pub whole : BTreeMap ℕ (BTreeMap ℕ AProp) → Entries
whole objects l k = entry_in objects (label_number l) (key_number k)

-- a difference at the pair is one of the whole
pub exchanged_differs : (old between new : BTreeMap ℕ (BTreeMap ℕ AProp))
    (mine next : BTreeMap ℕ AProp) (n m : ℕ) (label : Label) (key : Key)
    → Exchanged old between new mine next n → n ≡ label_number label → m ≡ key_number key
    → property_in next m ≢ property_in mine m
    → whole new ≢ whole old
exchanged_differs old between new mine next n m label key h is_label is_key apart same =
    let here : entry_in new n m ≡ property_in next m = ap
    (λ (o : Option (BTreeMap ℕ AProp)). read o m)
    (h.back n ∙ ap (λ (b : Bool). if b then Some next else get nat_cmp between n)
    (same_number n)) in
    let there : entry_in new n m ≡ entry_in old n m = (λ i. entry_in new (is_label i) (is_key i))
    ∙ ap (λ (e : Entries). e label key) same
    ∙ sym (λ i. entry_in old (is_label i) (is_key i)) in
    apart (sym here ∙ there ∙ sym (h.taken m))

-- a map that was filled from another, each value with one that reads alike
pub copied : {X Z : Type 0} (Makes : X → X → Type 0) (g : X → Option Z) (a start new : Option X)
    → start ≡ None → IsFilled Makes start a new
    → ((v w : X) → a ≡ Some v → Makes v w → g w ≡ g v)
    → option_and_then g new ≡ option_and_then g a
copied Makes g (Some v) start new none h same =
    let w = h.made v none refl in
    ap (λ o. option_and_then g o) w.2 ∙ same v w.0 refl w.1
copied Makes g None start new none h same =
    ap (λ o. option_and_then g o) (h.nothing none refl)
