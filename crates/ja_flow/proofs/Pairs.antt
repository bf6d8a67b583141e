-- The pairs of an entry that are demanded, in a list.
use Rattle.std.proofs.Common.{arith, ◌≡◌, ◌<◌, Bool, true, false, ◌&&◌, ◌||◌, cond, List, [], ◌∷◌, map, length, refl, subst, ap, ◌∙◌, inl, inr}
use Rattle.std.specs.Prelude.{IsTrue, IsSome}
use Rattle.std.specs.Cmp.{both_ways}
use Rattle.std.specs.List.{filter, list_any, range_with_len}
use Rattle.std.specs.Option.{is_some}
use Rattle.std.proofs.lemmas.Bool.{and_parts, and_from, or_cases, false≢true, ltb-true}
use Rattle.std.proofs.lemmas.List.Folds.{list_any-append}
use Rattle.ja_base.specs.declared.ids.Label.{Label}
use Rattle.ja_graph.specs.declared.program.Program.{Program}
use Rattle.ja_abstract.specs.declared.abstraction.Key.{Key}
use Rattle.ja_abstract.specs.declared.abstraction.Key.TheVariants as key
use Rattle.ja_abstract.specs.declared.abstraction.Slot.TheVariants as slot
use Rattle.ja_abstract.specs.AbstractState.{AbstractState, is_key, is_label, keys_of, labels_of, name_key, same_key}
use Rattle.ja_abstract.specs.AbstractValue.{same_label}
use Rattle.ja_abstract.specs.Keys.{is_among_keys}
use Rattle.ja_abstract.specs.Resolved.{Entries, demands_of, origins}
use Rattle.ja_abstract.proofs.Among.{some_key, among-append_left, among-append_right, among-names}
use Rattle.ja_abstract.proofs.Keys.{same_key-true, same_key_from}
use Rattle.ja_abstract.proofs.Labels.{same_label-self, some_among, labels_of-has}
use Rattle.ja_aheap.specs.Entries.{pairs_of}
use Rattle.ja_flow.specs.code.Pairs.{demands_at_pairs, AreDemanded}

-- a key of a program is among its keys
all_keys : (p : Program) (k : Key) → IsTrue (is_key p k) → IsTrue (is_among_keys (keys_of p) k)
all_keys p (key.Name n) within =
    among-append_left (map name_key (range_with_len 0 (length p.names))) _ (name_key n.0)
    (among-names 0 (length p.names) n.0 (omega arith)
    (let low : n.0 < length p.names = ltb-true n.0 (length p.names) within in omega arith))
all_keys p key.OtherIndex within =
    among-append_right (map name_key (range_with_len 0 (length p.names))) _ key.OtherIndex refl
all_keys p key.OtherName within =
    among-append_right (map name_key (range_with_len 0 (length p.names))) _ key.OtherName refl
all_keys p (key.Slot slot.Prototype) within =
    among-append_right (map name_key (range_with_len 0 (length p.names))) _
    (key.Slot slot.Prototype) refl
all_keys p (key.Slot slot.Outer) within =
    among-append_right (map name_key (range_with_len 0 (length p.names))) _ (key.Slot slot.Outer)
    refl
all_keys p (key.Slot slot.Scope) within =
    among-append_right (map name_key (range_with_len 0 (length p.names))) _ (key.Slot slot.Scope)
    refl
all_keys p (key.Slot slot.Value) within =
    among-append_right (map name_key (range_with_len 0 (length p.names))) _ (key.Slot slot.Value)
    refl

-- a test that some key passes
key_some : (test : Key → Bool) (ks : List Key) → IsTrue (list_any test ks)
    → (k : Key) × IsTrue (test k)
key_some test [] e = absurd (false≢true e)
key_some test (k ∷ ks) e =
    elim (or_cases (test k) (list_any test ks) e) [
      | inl here ↦ (k, here)
      | inr behind ↦ key_some test ks behind
    ]

module _ (test : Label × Key → Bool) (entries : Entries) (keys : List Key) where
  -- a test of the pairs, label by label
  any_row : (l : Label) (ks : List Key)
      → list_any test (map (λ (k : Key). (l, k)) (filter (λ (k : Key). is_some (entries l k)) ks))
      ≡ list_any (λ (k : Key). is_some (entries l k) && test (l, k)) ks
  any_row l [] = refl
  any_row l (k ∷ ks) =
      let rest = filter (λ (j : Key). is_some (entries l j)) ks in
      elim (is_some (entries l k)) as (λ v. list_any test (map (λ (j : Key). (l, j))
      (cond v (k ∷ rest) rest)) ≡ ((v && test (l, k))
      || list_any (λ (j : Key). is_some (entries l j) && test (l, j)) ks)) [
        | true ↦ ap (λ (b : Bool). test (l, k) || b) (any_row l ks)
        | false ↦ any_row l ks
      ]

  any_pairs : (ls : List Label) → list_any test (pairs_of entries ls keys)
      ≡ list_any (λ (l : Label).
      list_any (λ (k : Key). is_some (entries l k) && test (l, k)) keys) ls
  any_pairs [] = refl
  any_pairs (l ∷ ls) =
      list_any-append test (map (λ (k : Key). (l, k))
      (filter (λ (k : Key). is_some (entries l k)) keys)) (pairs_of entries ls keys)
      ∙ (λ i. any_row l keys i || any_pairs ls i)

module _ (p : Program) (entries : Entries)
    (keyed : (l : Label) (k : Key) → IsSome (entries l k) → IsTrue (is_key p k)) where
  -- what the pairs demand is what the pairs of each label do
  pub pairs_demand : (a : AbstractState)
      → demands_at_pairs a (pairs_of entries (labels_of p) (keys_of p))
      ≡ (λ m j. list_any (λ (l : Label). is_some (entries l j) && demands_of a l j m j)
      (labels_of p))
  pairs_demand a =
      λ i m j. (any_pairs (λ (q : Label × Key). demands_of a q.0 q.1 m j) entries (keys_of p)
      (labels_of p)
      ∙ ap (λ (f : Label → Bool). list_any f (labels_of p)) (λ n l. row l m j n)) i
    where
      row : (l m : Label) (j : Key)
          → list_any (λ (k : Key). is_some (entries l k) && demands_of a l k m j) (keys_of p)
          ≡ (is_some (entries l j) && demands_of a l j m j)
      row l m j =
          let test : Key → Bool = λ k. is_some (entries l k) && demands_of a l k m j in
          both_ways (list_any test (keys_of p)) (test j)
          (λ e. let (k, passes) = key_some test (keys_of p) e in
          let (there, asked) = and_parts (is_some (entries l k)) (demands_of a l k m j) passes in
          let (first, of) = and_parts ((a.property l k).value.flags.entry && same_key k j)
          (list_any (λ (o : Label). same_label o m) (origins a.mask l)) asked in
          let (flag, same) = and_parts (a.property l k).value.flags.entry (same_key k j) first in
          subst (λ x. IsTrue (test x)) (same_key-true k j same) passes)
          (λ e. some_key test (keys_of p) j (all_keys p j (keyed l j
          (and_parts (is_some (entries l j)) (demands_of a l j m j) e).0)) e)

  -- each pair that is demanded is listed
  pub pairs_demanded : ((l : Label) (k : Key) → IsSome (entries l k) → IsTrue (is_label p l))
      → AreDemanded entries (pairs_of entries (labels_of p) (keys_of p))
  pairs_demanded labelled l k some =
      let test : Label × Key → Bool = λ q. same_label q.0 l && same_key q.1 k in
      any_pairs test entries (keys_of p) (labels_of p)
      ∙ some_among (λ (m : Label).
      list_any (λ (j : Key). is_some (entries m j) && test (m, j)) (keys_of p)) (labels_of p) l
      (labels_of-has p l (ltb-true l.site.0 (length p.sites) (labelled l k some)))
      (some_key (λ (j : Key). is_some (entries l j) && test (l, j)) (keys_of p) k
      (all_keys p k (keyed l k some))
      (and_from (is_some (entries l k)) (test (l, k)) some (and_from (same_label l l) (same_key k k)
      (same_label-self l) (same_key_from k k refl))))
