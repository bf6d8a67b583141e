-- Writes at the keys of an object, made from the last of a list to the first.
use Rattle.std.proofs.Common.{◌≡◌, ℕ, List, [], ◌∷◌, ◌++◌, Bool, true, false, if◌then◌else◌, map, refl, ap, sym, ◌∙◌}
use Rattle.std.proofs.lemmas.List.{map-append}
use Rattle.ja_abstract.specs.declared.abstraction.Key.{Key}
use Rattle.ja_abstract.specs.AbstractValue.{AbstractProperty, join_properties, absent_property}
use Rattle.ja_abstract.specs.AbstractState.{key_number, same_key}
use Rattle.ja_abstract.specs.Made.{Own, own_of}
use Rattle.ja_abstract.specs.Writes.{Write, sets_at, joined_at, replaced_at}
use Rattle.ja_value.specs.declared.property.AProp.{AProp}
use Rattle.ja_aheap.specs.declared.object.AObject.{AObject}
use Rattle.ja_aheap.specs.Objects.{at, object_of, listed_of}
use Rattle.ja_aheap.proofs.MapLemmas.{equal_from_test}

-- what has been joined at a key is what is joined there
pub joined_here : (o : AObject) (key : Key) (p q : AbstractProperty)
    → p ≡ join_properties (object_of o key) q → (k : Key)
    → (if same_key key k then p else object_of o k)
    ≡ (if same_key key k then join_properties (object_of o k) q else object_of o k)
joined_here o key p q is k = pick (same_key key k) (equal_from_test (key_number key) (key_number k))
  where
    pick : (b : Bool) → (b ≡ true → key_number key ≡ key_number k)
        → (if b then p else object_of o k)
        ≡ (if b then join_properties (object_of o k) q else object_of o k)
    pick true same = is ∙ ap (λ (n : ℕ). join_properties (at o n) q) (same refl)
    pick false same = refl

-- all of two lists are those of the second and then those of the first
pub replaced_both : (xs ys : List Write) (q : AbstractProperty) (k : Key)
    → replaced_at (xs ++ ys) q k ≡ replaced_at xs (replaced_at ys q k) k
replaced_both [] ys q k = refl
replaced_both (x ∷ xs) ys q k =
    ap (λ (before : AbstractProperty). if same_key x.key k
    then (if x.joins then join_properties before x.property else x.property) else before)
    (replaced_both xs ys q k)

pub joined_both : (xs ys : List Write) (q : AbstractProperty) (k : Key)
    → joined_at (xs ++ ys) q k ≡ joined_at xs (joined_at ys q k) k
joined_both [] ys q k = refl
joined_both (x ∷ xs) ys q k =
    ap (λ (before : AbstractProperty). if same_key x.key k
    then join_properties before x.property else before)
    (joined_both xs ys q k)

-- an object after writes
abbrev pub replaced_in : List Write → Own → Own
replaced_in writes own k = replaced_at writes (own k) k

abbrev pub joined_in : List Write → Own → Own
joined_in writes own k = joined_at writes (own k) k

-- One turn of a loop that takes out the last write and makes it.
pub replaced_turn : {X : Type 0} (f : X → Write) (all rest : List X) (x : X) (own next : Own)
    → all ≡ rest ++ x ∷ [] → next ≡ replaced_in (f x ∷ []) own
    → replaced_in (map f rest) next ≡ replaced_in (map f all) own
replaced_turn f all rest x own next last step =
    ap (replaced_in (map f rest)) step
    ∙ (λ i k. (sym (replaced_both (map f rest) (f x ∷ []) (own k) k)) i)
    ∙ ap (λ (ws : List Write). replaced_in ws own) (sym (map-append f rest (x ∷ [])))
    ∙ ap (λ (xs : List _). replaced_in (map f xs) own) (sym last)

pub joined_turn : {X : Type 0} (f : X → Write) (all rest : List X) (x : X) (own next : Own)
    → all ≡ rest ++ x ∷ [] → next ≡ joined_in (f x ∷ []) own
    → joined_in (map f rest) next ≡ joined_in (map f all) own
joined_turn f all rest x own next last step =
    ap (joined_in (map f rest)) step
    ∙ (λ i k. (sym (joined_both (map f rest) (f x ∷ []) (own k) k)) i)
    ∙ ap (λ (ws : List Write). joined_in ws own) (sym (map-append f rest (x ∷ [])))
    ∙ ap (λ (xs : List _). joined_in (map f xs) own) (sym last)

-- an object that is made has what is set in one that has nothing
abbrev pub set_by : Key × AProp → Write
set_by q = sets_at (listed_of q).0 (listed_of q).1

pub made_by_sets : (listed : List (Key × AProp)) (k : Key)
    → replaced_at (map set_by listed) absent_property k ≡ own_of (map listed_of listed) k
made_by_sets [] k = refl
made_by_sets (q ∷ qs) k =
    ap (λ (before : AbstractProperty). if same_key q.0 k then (listed_of q).1 else before)
    (made_by_sets qs k)
