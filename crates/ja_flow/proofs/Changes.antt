-- Values at entry that others are joined into, as they are listed and set.
use Rattle.std.proofs.Common.{◌≡◌, ◌≢◌, ◌+◌, ◌<◌, ℕ, Bool, true, false, ◌&&◌, ◌||◌, if◌then◌else◌, List, [], ◌∷◌, ◌++◌, length, take, get_or, Option, Some, None, refl, sym, subst, ap, ◌∙◌, append-nil, inl, inr}
use Rattle.std.specs.Prelude.{IsTrue}
use Rattle.std.specs.List.{list_any, AllByRecursion}
use Rattle.std.specs.Option.{is_some, option_map, option_to_list}
use Rattle.std.proofs.lemmas.Bool.{and_parts, or_cases, or_parts, false≢true}
use Rattle.std.proofs.lemmas.List.Folds.{list_any-append, list_any_more}
use Rattle.ja_base.specs.declared.ids.Label.{Label}
use Rattle.std.proofs.lemmas.Option.{same_Some}
use Rattle.ja_base.proofs.Lists.{all_append}
use Rattle.ja_abstract.specs.declared.abstraction.Key.{Key}
use Rattle.ja_abstract.specs.AbstractState.{same_key}
use Rattle.ja_abstract.specs.AbstractValue.{AbstractProperty, same_label, join_properties}
use Rattle.ja_abstract.specs.Resolved.{Entries}
use Rattle.ja_abstract.proofs.Keys.{same_key-true}
use Rattle.ja_abstract.proofs.Labels.{same_label-true}
use Rattle.ja_value.specs.Value.{property_of}
use Rattle.ja_flow.specs.declared.values.EntryValue.{EntryValue}
use Rattle.ja_flow.specs.code.Pairs.{filled, with_set, AreDemanded, IsChange}

-- ---- values that are set

abbrev sets_at : Label → Key → EntryValue → Bool
sets_at l k v = same_label v.label l && same_key v.key k

-- of two lists, the second is set first
pub with_set-append : (entries : Entries) (xs ys : List EntryValue)
    → with_set entries (xs ++ ys) ≡ with_set (with_set entries ys) xs
with_set-append entries [] ys = refl
with_set-append entries (x ∷ xs) ys =
    λ i l k.
    if sets_at l k x then Some (property_of x.value) else with_set-append entries xs ys i l k

-- the last value of a list is set
pub set_turn : (entries next : Entries) (all rest : List EntryValue) (v : EntryValue)
    → all ≡ rest ++ v ∷ [] → next ≡ with_set entries (v ∷ [])
    → with_set next rest ≡ with_set entries all
set_turn entries next all rest v last step =
    ap (λ (e : Entries). with_set e rest) step ∙ sym (with_set-append entries rest (v ∷ []))
    ∙ ap (with_set entries) (sym last)

-- ---- values that change

abbrev pub Values : Type 0
Values = Label → Key → AbstractProperty

-- the value of one pair
filled_at : (entries : Entries) (value : Values) (l : Label) (k : Key)
    → (o : Option AbstractProperty) → entries l k ≡ o
    → filled entries value l k
    ≡ option_map (λ (q : AbstractProperty). join_properties q (value l k)) o
filled_at entries value l k o is =
    ap (option_map (λ (q : AbstractProperty). join_properties q (value l k))) is

pub change_none : (entries : Entries) (value : Values) (l : Label) (k : Key) → entries l k ≡ None
    → IsChange entries value l k None
change_none entries value l k none = filled_at entries value l k None none ∙ sym none

module _ (entries : Entries) (value : Values) (l : Label) (k : Key) (q more : AbstractProperty)
    (is : entries l k ≡ Some q) (more_is : more ≡ value l k) where
  joined_at : filled entries value l k ≡ Some (join_properties q more)
  joined_at =
      filled_at entries value l k (Some q) is
      ∙ ap (λ (r : AbstractProperty). Some (join_properties q r)) (sym more_is)

  pub change_kept : join_properties q more ≡ q → IsChange entries value l k None
  change_kept kept = joined_at ∙ ap (λ (r : AbstractProperty). Some r) kept ∙ sym is

  pub change_joined : (v : EntryValue) → v.label ≡ l → v.key ≡ k
      → property_of v.value ≡ join_properties q more → (join_properties q more ≡ q → ⊥)
      → IsChange entries value l k (Some v)
  change_joined v label key joined other =
      record {
        label = label;
        key = key;
        joined = ap (λ (r : AbstractProperty). Some r) joined ∙ sym joined_at;
        changed = λ same. other (same_Some _ _ (sym joined_at ∙ same ∙ is));
      }

-- the values of some pairs that change are listed
pub record AreChanges (entries : Entries) (value : Values) (pairs : List (Label × Key))
    (listed : List EntryValue) : Type 0 where
  pub each : AllByRecursion (λ (v : EntryValue).
      Some (property_of v.value) ≡ filled entries value v.label v.key) listed
  pub others : (l : Label) (k : Key)
      → IsTrue (list_any (λ (p : Label × Key). same_label p.0 l && same_key p.1 k) pairs)
      → list_any (sets_at l k) listed ≡ false → filled entries value l k ≡ entries l k
  pub changed : listed ≢ [] → filled entries value ≢ entries

module _ (entries : Entries) (value : Values) where
  abbrev all : Entries
  all = filled entries value

  pub changes_none : AreChanges entries value [] []
  changes_none =
      record {
        each = tt;
        others = λ l k there none. absurd (false≢true there);
        changed = λ some. absurd (some refl);
      }

  set_as : (vs : List EntryValue) → AllByRecursion (λ (v : EntryValue).
      Some (property_of v.value) ≡ all v.label v.key) vs → (l : Label) (k : Key)
      → with_set entries vs l k ≡ (if list_any (sets_at l k) vs then all l k else entries l k)
  set_as [] each l k = refl
  set_as (v ∷ vs) each l k = pick (set_as vs each.1 l k) (sets_at l k v) refl
    where
      pick : with_set entries vs l k
          ≡ (if list_any (sets_at l k) vs then all l k else entries l k)
          → (b : Bool) → sets_at l k v ≡ b
          → (if b then Some (property_of v.value) else with_set entries vs l k)
          ≡ (if b || list_any (sets_at l k) vs then all l k else entries l k)
      pick rest true same =
          let (a, b) = and_parts (same_label v.label l) (same_key v.key k) same in
          each.0 ∙ (λ i. all (same_label-true v.label l a i) (same_key-true v.key k b i))
      pick rest false other = rest

  -- where all pairs that are demanded were seen, all values are joined
  pub changes_all : (pairs : List (Label × Key)) (vs : List EntryValue)
      → AreDemanded entries pairs → AreChanges entries value pairs vs → with_set entries vs ≡ all
  changes_all pairs vs demanded are = λ i l k. at l k i
    where
      same : (l : Label) (k : Key) → list_any (sets_at l k) vs ≡ false
          → (o : Option AbstractProperty) → entries l k ≡ o → all l k ≡ entries l k
      same l k none None is =
          ap (option_map (λ (q : AbstractProperty). join_properties q (value l k))) is ∙ sym is
      same l k none (Some q) is = are.others l k (demanded l k (ap is_some is)) none

      either : (l : Label) (k : Key) (b : Bool) → list_any (sets_at l k) vs ≡ b
          → (if b then all l k else entries l k) ≡ all l k
      either l k true some = refl
      either l k false none = sym (same l k none (entries l k) refl)

      at : (l : Label) (k : Key) → with_set entries vs l k ≡ all l k
      at l k = set_as vs are.each l k ∙ either l k (list_any (sets_at l k) vs) refl

  module _ (pairs : List (Label × Key)) (n : ℕ) (d : Label × Key) (within : n < length pairs)
      (vs : List EntryValue) (before : AreChanges entries value (take n pairs) vs) where
    abbrev pair : Label × Key
    pair = get_or pairs n d

    abbrev is_at : Label → Key → Label × Key → Bool
    is_at l k p = same_label p.0 l && same_key p.1 k

    -- a pair of the first ones is one of those before or the next
    seen : (l : Label) (k : Key) → IsTrue (list_any (is_at l k) (take (n + 1) pairs))
        → IsTrue (list_any (is_at l k) (take n pairs) || is_at l k pair)
    seen l k there = sym (list_any_more (is_at l k) pairs n d within) ∙ there

    unchanged : all pair.0 pair.1 ≡ entries pair.0 pair.1 → (l : Label) (k : Key)
        → IsTrue (is_at l k pair) → all l k ≡ entries l k
    unchanged stays l k same =
        let (a, b) = and_parts (same_label pair.0 l) (same_key pair.1 k) same in
        sym (λ i. all (same_label-true pair.0 l a i) (same_key-true pair.1 k b i))
        ∙ stays ∙ (λ i. entries (same_label-true pair.0 l a i) (same_key-true pair.1 k b i))

    -- the next pair
    pub changes_more : (v : Option EntryValue) (after : List EntryValue)
        → IsChange entries value pair.0 pair.1 v → after ≡ vs ++ option_to_list v
        → AreChanges entries value (take (n + 1) pairs) after
    changes_more None after stays after_is =
        subst (AreChanges entries value (take (n + 1) pairs)) (sym (after_is ∙ append-nil vs))
        (record {
          each = before.each;
          others = λ l k there none. elim (or_cases (list_any (is_at l k) (take n pairs))
              (is_at l k pair) (seen l k there)) [
                | inl a ↦ before.others l k a none
                | inr s ↦ unchanged stays l k s
              ];
          changed = before.changed;
        })
    changes_more (Some v) after change after_is =
        subst (AreChanges entries value (take (n + 1) pairs)) (sym after_is)
        (record {
          each =
              all_append (λ (v : EntryValue). Some (property_of v.value) ≡ all v.label v.key) vs
              (v ∷ []) before.each
              (change.joined ∙ (λ i. all (sym change.label i) (sym change.key i)), tt);
          others = λ l k there none.
              let parts = or_parts (list_any (sets_at l k) vs) (sets_at l k v || false)
              (sym (list_any-append (sets_at l k) vs (v ∷ [])) ∙ none) in
              let here = (or_parts (sets_at l k v) false parts.1).0 in
              elim (or_cases (list_any (is_at l k) (take n pairs)) (is_at l k pair)
              (seen l k there)) [
                | inl a ↦ before.others l k a parts.0
                | inr s ↦ absurd (false≢true (sym here
                    ∙ (λ i. is_at l k (change.label i, change.key i)) ∙ s))
              ];
          changed = λ some same. change.changed (λ i. same i pair.0 pair.1);
        })
