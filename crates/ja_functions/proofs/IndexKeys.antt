-- What an arguments object has at any key: at those of indices what is listed of them.
use Rattle.std.specs.Prelude.{◌≡◌, ◌<◌, ◌++◌, ℕ, Bool, true, false, cond, ◌||◌, List, [], ◌∷◌, length, map, Option, Some, None, is_some, unwrap_or, slice_get, IsTrue}
use Rattle.std.specs.List.{range_with_len}
use Rattle.std.specs.Option.{option_map, option_map_or}
use Rattle.std.proofs.Common.{refl, sym, ap, ◌∙◌, arith}
use Rattle.std.proofs.lemmas.Option.{slice_get_within}
use Rattle.ja_prim.specs.Conversions.{index_of}
use Rattle.ja_base.specs.declared.ids.FnId.{FnId}
use Rattle.ja_graph.specs.declared.program.Program.{Program}
use Rattle.ja_abstract.specs.declared.abstraction.Key.{Key}
use Rattle.ja_abstract.specs.declared.abstraction.Key.TheVariants as key
use Rattle.ja_abstract.specs.AbstractValue.{AbstractProperty}
use Rattle.ja_abstract.specs.AbstractState.{AbstractState, same_key, name_key, keys_of}
use Rattle.ja_abstract.specs.Keys.{index_of_key, is_index_key, index_keys, is_among_keys}
use Rattle.ja_abstract.specs.Made.{argument_property, own_of, index_property}
use Rattle.ja_abstract.proofs.Among.{among-filter, among-append_left, among-append_right, among-names}
use Rattle.ja_abstract.proofs.Keys.{same_key-true}
use Rattle.ja_functions.specs.code.Aged.{listed_at, index_properties}

abbrev pub Properties : Type 0
Properties = List (Key × AbstractProperty)

cond_same : (b : Bool) (q : AbstractProperty) → cond b q q ≡ q
cond_same true q = refl
cond_same false q = refl

-- one key before others
one_key : (s : Bool) (o here : Option AbstractProperty) (below : AbstractProperty) (among : Bool)
    (other : AbstractProperty) → (s ≡ true → o ≡ here)
    → below ≡ cond among (unwrap_or here other) other
    → option_map_or (λ (q : AbstractProperty). cond s q below) o below
    ≡ cond (s || among) (unwrap_or here other) other
one_key true None here below among other same is =
    let e = same refl in
    is ∙ ap (λ o. cond among (unwrap_or o other) other) (sym e) ∙ cond_same among other
    ∙ ap (λ o. unwrap_or o other) e
one_key true (Some q) here below among other same is = ap (λ o. unwrap_or o other) (same refl)
one_key false None here below among other same is = is
one_key false (Some q) here below among other same is = is

some_of_map : {A B : Type 0} (g : A → B) (o : Option A) (q : B) → option_map g o ≡ Some q
    → is_some o ≡ true
some_of_map g None q e = absurd (cc)
some_of_map g (Some x) q e = refl

module _ (p : Program) (f : FnId) (a : AbstractState) where
  abbrev property_at : Key → Option AbstractProperty
  property_at = index_property p f a

  split : (j k : Key) (o : Option AbstractProperty) (more rest : Properties)
      → own_of ((listed_at j o ++ more) ++ rest) k
      ≡ option_map_or (λ (q : AbstractProperty). cond (same_key j k) q (own_of (more ++ rest) k)) o
      (own_of (more ++ rest) k)
  split j k None more rest = refl
  split j k (Some q) more rest = refl

  -- at a key of those that are listed, and at any other
  listed_is : (rest : Properties) (keys : List Key) (k : Key)
      → own_of (index_properties p f a keys ++ rest) k
      ≡ cond (is_among_keys keys k) (unwrap_or (property_at k) (own_of rest k)) (own_of rest k)
  listed_is rest [] k = refl
  listed_is rest (j ∷ js) k =
      split j k (property_at j) (index_properties p f a js) rest
      ∙ one_key (same_key j k) (property_at j) (property_at k) _ (is_among_keys js k)
      (own_of rest k) (λ e. ap property_at (same_key-true j k e)) (listed_is rest js k)

  -- what has a property as that of an index is a key of one
  among_names_of : (o : Option (List ℕ)) (k : Key) (i : ℕ) → k ≡ name_key i
      → slice_get p.names i ≡ o → (q : AbstractProperty)
      → option_map (argument_property p f a) (index_of (unwrap_or o [])) ≡ Some q
      → IsTrue (is_among_keys (keys_of p) k)
  among_names_of None k i is at q e = absurd (cc)
  among_names_of (Some t) k i is at q e =
      let within : i < length p.names = slice_get_within p.names i t at in
      ap (is_among_keys (keys_of p)) is
      ∙ among-append_left (map name_key (range_with_len 0 (length p.names))) _ (name_key i)
      (among-names 0 (length p.names) i (omega arith) (omega (arith, within)))

  among_indices : (k : Key) (q : AbstractProperty) → property_at k ≡ Some q
      → IsTrue (is_among_keys (index_keys p) k)
  among_indices (key.Name n) q e =
      among-filter (is_index_key p) (keys_of p) (key.Name n)
      (among_names_of (slice_get p.names n.0) (key.Name n) n.0 refl refl q e)
      (some_of_map (argument_property p f a) (index_of_key p (key.Name n)) q e)
  among_indices key.OtherIndex q e =
      among-filter (is_index_key p) (keys_of p) key.OtherIndex
      (among-append_right (map name_key (range_with_len 0 (length p.names))) _ key.OtherIndex refl)
      refl
  among_indices key.OtherName q e = absurd (cc)
  among_indices (key.Slot s) q e = absurd (cc)

  pub own_is : (rest : Properties)
      → own_of (index_properties p f a (index_keys p) ++ rest)
      ≡ (λ k. unwrap_or (property_at k) (own_of rest k))
  own_is rest = λ n k. (listed_is rest (index_keys p) k ∙ by k (property_at k) refl) n
    where
      by : (k : Key) (o : Option AbstractProperty) → property_at k ≡ o
          → cond (is_among_keys (index_keys p) k) (unwrap_or (property_at k) (own_of rest k))
          (own_of rest k) ≡ unwrap_or (property_at k) (own_of rest k)
      by k None is =
          ap (λ o. cond (is_among_keys (index_keys p) k) (unwrap_or o (own_of rest k))
          (own_of rest k)) is ∙ cond_same (is_among_keys (index_keys p) k) (own_of rest k)
          ∙ sym (ap (λ o. unwrap_or o (own_of rest k)) is)
      by k (Some q) is =
          ap (λ b. cond b (unwrap_or (property_at k) (own_of rest k)) (own_of rest k))
          (among_indices k q is)
