-- Objects by the numbers of keys, and at the keys of the first names.
use Rattle.std.proofs.Common.{◌≡◌, ◌+◌, ◌<◌, ℕ, zero, suc, Bool, true, false, Option, Some, None, if◌then◌else◌, is_some, ◌⊎◌, inl, inr, refl, ap, sym, subst, arith}
use Rattle.std.specs.Prelude.{IsSome}
use Rattle.std.specs.Option.{option_map_or}
use Rattle.std.specs.Ordering.{nat_cmp}
use Rattle.std.specs.declared.rc.Rc.{Rc}
use Rattle.std.specs.Global.{Global}
use Rattle.std.specs.BTreeMap.{get}
use Rattle.std.proofs.lemmas.Bool.Decides.{nat_tests}
use Rattle.ja_abstract.specs.declared.abstraction.Slot.TheVariants as slot
use Rattle.ja_abstract.specs.declared.abstraction.Key.{Key}
use Rattle.ja_abstract.specs.declared.abstraction.Key.TheVariants as key
use Rattle.ja_abstract.specs.AbstractValue.{AbstractProperty, entry_property, join_properties}
use Rattle.ja_abstract.specs.AbstractState.{key_number}
use Rattle.ja_abstract.specs.Made.{Own}
use Rattle.ja_abstract.specs.Order.{LeqProperty}
use Rattle.ja_abstract.proofs.Order.{property_same, property-join, property_equal}
use Rattle.ja_abstract.proofs.Least.{property_by_join, property-join_right, property_least}
use Rattle.ja_value.specs.declared.property.AProp.{AProp}
use Rattle.ja_value.specs.Value.{property_of}
use Rattle.ja_aheap.specs.declared.object.AObject.{AObject}
use Rattle.ja_aheap.specs.KeysBelow.{is_key_below, at_keys_below}
use Rattle.ja_aheap.specs.Objects.{at, shared_property}
use Rattle.ja_aheap.specs.code.Own.{own_below, join_owns, LeqOwn}

-- what holds of each value that may stand there, and of the one that stands for none
pub either : {X Z : Type 0} (f : X → Z) (P : Z → Type 0) (o : Option X) (d : Z)
    → ((x : X) → o ≡ Some x → P (f x)) → (o ≡ None → P d) → P (option_map_or f o d)
either f P (Some x) d there other = there x refl
either f P None d there other = other refl

-- ---- numbers and keys

-- each number is a key's
pub numbered : (q : ℕ) → (k : Key) × (key_number k ≡ q)
numbered zero = (key.Slot slot.Prototype, refl)
numbered (suc zero) = (key.Slot slot.Outer, refl)
numbered (suc (suc zero)) = (key.Slot slot.Scope, refl)
numbered (suc (suc (suc zero))) = (key.Slot slot.Value, refl)
numbered (suc (suc (suc (suc zero)))) = (key.OtherIndex, refl)
numbered (suc (suc (suc (suc (suc zero))))) = (key.OtherName, refl)
numbered (suc (suc (suc (suc (suc (suc n)))))) = (key.Name (record { 0 = n }), omega arith)

pub number_of_key : (names : ℕ) (k : Key) → is_key_below names k ≡ true → key_number k < 6 + names
number_of_key names (key.Slot slot.Prototype) below = omega arith
number_of_key names (key.Slot slot.Outer) below = omega arith
number_of_key names (key.Slot slot.Scope) below = omega arith
number_of_key names (key.Slot slot.Value) below = omega arith
number_of_key names key.OtherIndex below = omega arith
number_of_key names key.OtherName below = omega arith
number_of_key names (key.Name n) below = grind (arith, nat_tests)

pub key_of_number : (names : ℕ) (k : Key) → key_number k < 6 + names → is_key_below names k ≡ true
key_of_number names (key.Slot s) below = refl
key_of_number names key.OtherIndex below = refl
key_of_number names key.OtherName below = refl
key_of_number names (key.Name n) below = grind (arith, nat_tests)

-- what numbers have, by the keys of the first names
abbrev pub by_key : ℕ → (ℕ → AbstractProperty) → Own
by_key names f = at_keys_below names (λ k. f (key_number k))

-- what holds of two at each number of a key of the first names holds at each key, and the other way
-- round
pub at_each_key : (names : ℕ) (R : AbstractProperty → AbstractProperty → Type 0)
    → R entry_property entry_property → (f g : ℕ → AbstractProperty)
    → ((q : ℕ) → q < 6 + names → R (f q) (g q)) → (k : Key) → R (by_key names f k)
    (by_key names g k)
at_each_key names R rest f g each k = pick (is_key_below names k) refl
  where
    pick : (b : Bool) → is_key_below names k ≡ b
        → R (if b then f (key_number k) else entry_property)
        (if b then g (key_number k) else entry_property)
    pick true below = each (key_number k) (number_of_key names k below)
    pick false above = rest

pub at_each_number : (names : ℕ) (R : AbstractProperty → AbstractProperty → Type 0)
    → (f g : ℕ → AbstractProperty) → ((k : Key) → R (by_key names f k) (by_key names g k))
    → (q : ℕ) → q < 6 + names → R (f q) (g q)
at_each_number names R f g each q below =
    let k = numbered q in
    let there : is_key_below names k.0 ≡ true =
    key_of_number names k.0 (subst (λ n. n < 6 + names) (sym k.1) below) in
    subst (λ n. R (f n) (g n)) k.1
    (subst (λ b. R (if b then f (key_number k.0) else entry_property)
    (if b then g (key_number k.0) else entry_property)) there (each k.0))

-- ---- one object below another

pub leq_from_numbers : (a b : AObject) (names end : ℕ) → end ≡ 6 + names
    → ((q : ℕ) → IsSome (get nat_cmp a.listed q) ⊎ IsSome (get nat_cmp b.listed q) → q < end
    → LeqProperty (at a q) (at b q))
    → ((q : ℕ) → get nat_cmp a.listed q ≡ None → get nat_cmp b.listed q ≡ None → q < end
    → LeqProperty (property_of a.common) (property_of b.common))
    → LeqOwn (own_below names a) (own_below names b)
leq_from_numbers a b names end is_end listed rest =
    at_each_key names LeqProperty (property_same entry_property) (at a) (at b)
    (λ q below. at_number q (omega arith) (get nat_cmp a.listed q) refl
    (get nat_cmp b.listed q) refl)
  where
    at_number : (q : ℕ) → q < end → (o : Option (Rc AProp Global)) → get nat_cmp a.listed q ≡ o
        → (p : Option (Rc AProp Global)) → get nat_cmp b.listed q ≡ p → LeqProperty (at a q)
        (at b q)
    at_number q below (Some x) is p is_p = listed q (inl (ap is_some is)) below
    at_number q below None is (Some y) is_p = listed q (inr (ap is_some is_p)) below
    at_number q below None none None none' =
        subst (λ o. LeqProperty (option_map_or shared_property o (property_of a.common)) (at b q))
        (sym none)
        (subst (λ o. LeqProperty (property_of a.common)
        (option_map_or shared_property o (property_of b.common))) (sym none')
        (rest q none none' below))

pub leq_at_number : (a b : AObject) (names end : ℕ) → end ≡ 6 + names
    → LeqOwn (own_below names a) (own_below names b) → (q : ℕ) → q < end
    → LeqProperty (at a q) (at b q)
leq_at_number a b names end is_end each q below =
    at_each_number names LeqProperty (at a) (at b) each q (omega arith)

pub leq_at_rest : (a b : AObject) (names end : ℕ) → end ≡ 6 + names
    → LeqOwn (own_below names a) (own_below names b) → (q : ℕ)
    → get nat_cmp a.listed q ≡ None → get nat_cmp b.listed q ≡ None → q < end
    → LeqProperty (property_of a.common) (property_of b.common)
leq_at_rest a b names end is_end each q none none' below =
    subst (λ o. LeqProperty (property_of a.common)
    (option_map_or shared_property o (property_of b.common))) none'
    (subst (λ o. LeqProperty (option_map_or shared_property o (property_of a.common)) (at b q)) none
    (leq_at_number a b names end is_end each q below))

-- ---- objects as at entry

pub entry_from_numbers : (a : AObject) (names end : ℕ) → end ≡ 6 + names
    → ((q : ℕ) → IsSome (get nat_cmp a.listed q) → q < end → at a q ≡ entry_property)
    → ((q : ℕ) → get nat_cmp a.listed q ≡ None → q < end → property_of a.common ≡ entry_property)
    → (k : Key) → own_below names a k ≡ entry_property
entry_from_numbers a names end is_end listed rest =
    at_each_key names (λ p q. p ≡ entry_property) refl (at a) (at a)
    (λ q below. either shared_property (λ p. p ≡ entry_property) (get nat_cmp a.listed q)
    (property_of a.common)
    (λ p is. subst (λ o. option_map_or shared_property o (property_of a.common) ≡ entry_property) is
    (listed q (ap is_some is) (omega arith)))
    (λ none. rest q none (omega arith)))

pub entry_at_number : (a : AObject) (names end : ℕ) → end ≡ 6 + names
    → ((k : Key) → own_below names a k ≡ entry_property) → (q : ℕ) → q < end
    → at a q ≡ entry_property
entry_at_number a names end is_end each q below =
    at_each_number names (λ p q. p ≡ entry_property) (at a) (at a) each q (omega arith)

pub entry_at_rest : (a : AObject) (names end : ℕ) → end ≡ 6 + names
    → ((k : Key) → own_below names a k ≡ entry_property) → (q : ℕ)
    → get nat_cmp a.listed q ≡ None → q < end → property_of a.common ≡ entry_property
entry_at_rest a names end is_end each q none below =
    subst (λ o. option_map_or shared_property o (property_of a.common) ≡ entry_property) none
    (entry_at_number a names end is_end each q below)

-- ---- objects joined

-- what isn't a key of the first names stays as it is
pub joined_owns : (a b new : AObject) (names : ℕ)
    → ((q : ℕ) → at new q ≡ join_properties (at a q) (at b q))
    → own_below names new ≡ join_owns (own_below names a) (own_below names b)
joined_owns a b new names each = λ i k. pick k (is_key_below names k) i
  where
    pick : (k : Key) (here : Bool)
        → (if here then at new (key_number k) else entry_property)
        ≡ join_properties (if here then at a (key_number k) else entry_property)
        (if here then at b (key_number k) else entry_property)
    pick k true = each (key_number k)
    pick k false = refl

-- a join changes nothing exactly where the other is below
pub joined_below : (a b : AObject) (names : ℕ) → LeqOwn (own_below names b) (own_below names a)
    → own_below names a ≡ join_owns (own_below names a) (own_below names b)
joined_below a b names each = λ i k. sym ((property_by_join _ _).0 (each k)) i

pub below_joined : (a b : AObject) (names : ℕ)
    → own_below names a ≡ join_owns (own_below names a) (own_below names b)
    → LeqOwn (own_below names b) (own_below names a)
below_joined a b names same k =
    (property_by_join _ _).1 (sym (ap (λ (o : Own). o k) same))

-- the other way round
pub properties_turned : (a b : AbstractProperty) → join_properties a b ≡ join_properties b a
properties_turned a b =
    let below : (p q : AbstractProperty) → LeqProperty (join_properties p q) (join_properties q p) =
    λ p q. property_least p q (join_properties q p) (property-join_right q p)
    (property-join q p) in
    property_equal (join_properties a b) (join_properties b a) (below a b) (below b a)
