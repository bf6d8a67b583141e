-- The objects on the chains of some labels: what inherits from what, and the names that are shown.
use Rattle.std.specs.Prelude.{◌≡◌, ◌&&◌, not, ℕ, zero, suc, Bool, true, false, if◌then◌else◌, IsTrue, List, [], ◌∷◌, map, drop, nat_eq, Option, Some, None}
use Rattle.std.specs.List.{list_any}
use Rattle.std.specs.Option.{option_map_or}
use Rattle.std.proofs.Common.{refl, sym, subst, ap, ◌∙◌, inl, inr}
use Rattle.std.proofs.lemmas.Bool.{false≢true, cases_Bool, cond-true, cond-false, or_cases, and_from, eqb-true}
use Rattle.ja_prim.specs.declared.primitive.Primitive.TheVariants as primitive
use Rattle.ja_prim.specs.Index.{is_index_text}
use Rattle.ja_graph.specs.declared.program.Program.{Program}
use Rattle.ja_machine.specs.declared.machine.Addr.{Addr}
use Rattle.ja_machine.specs.declared.machine.Value.{Value}
use Rattle.ja_machine.specs.declared.machine.Value.TheVariants as value
use Rattle.ja_machine.specs.declared.machine.Heap.{Heap}
use Rattle.ja_machine.specs.Heap.{same_address, inherits_from}
use Rattle.ja_machine.specs.Heap as heap
use Rattle.ja_machine.specs.Nodes.{name_text}
use Rattle.ja_machine.specs.State.{IsObjectOf}
use Rattle.ja_machine.proofs.Heaps
use Rattle.ja_abstract.specs.declared.abstraction.Key.{Key}
use Rattle.ja_abstract.specs.declared.abstraction.Key.TheVariants as key
use Rattle.ja_abstract.specs.declared.abstraction.Slot.TheVariants as slots
use Rattle.ja_abstract.specs.AbstractValue.{Labels, AbstractValue}
use Rattle.ja_abstract.specs.AbstractState.{labels_of, same_key, name_key, keys_of}
use Rattle.ja_abstract.specs.Resolved.{resolved, demands_of, prototype, join_values, IsFilled}
use Rattle.ja_abstract.specs.Keys.{named, internal, key_of, name_of, rest_key, is_among_keys, is_text_key, text_keys}
use Rattle.ja_abstract.specs.Contents.{held_address, label_of}
use Rattle.ja_abstract.specs.Reading.{View, slot, ancestors, proper_ancestors, demands_of_ancestors, key_value}
use Rattle.ja_abstract.proofs.Texts.{same_text_refl}
use Rattle.ja_abstract.proofs.Keys.{text_of_key, same_key-true, same_key-self}
use Rattle.ja_abstract.proofs.Rounds.{reached-start, reached-next}
use Rattle.ja_abstract.proofs.Among.{text_among, among-filter}
use Rattle.ja_meaning.specs.Meaning.{has_value, knows}
use Rattle.ja_meaning.proofs.Resolved.{own-knows}
use Rattle.ja_meaning.proofs.Values.{has_value-join_left, has_value-join_right}
use Rattle.ja_meaning.proofs.Walks.{link_of, prototype_before, content-prototype}
use Rattle.ja_meaning.proofs.Moments.{Reads}
use Rattle.ja_meaning.proofs.Gets.{label-among, some_label-object}

same_parts : (a b : Addr) → same_address a b ≡ true → a ≡ b
same_parts a b s =
    elim (cases_Bool (nat_eq a.site.0 b.site.0)) [
      | inl e ↦
          Heaps.same_address a b (eqb-true a.site.0 b.site.0 e)
          (eqb-true a.ordinal b.ordinal (sym (cond-true (nat_eq a.site.0 b.site.0)
          (nat_eq a.ordinal b.ordinal) false e) ∙ s))
      | inr e ↦
          absurd (false≢true (sym (cond-false (nat_eq a.site.0 b.site.0)
          (nat_eq a.ordinal b.ordinal) false e) ∙ s))
    ]

module _ (e c : Heap) (w : View) (r : Reads e c w) (start : Labels)
    (filled : IsFilled w.entries (demands_of_ancestors w start)) where
  abbrev p : Program
  p = w.program

  abbrev set : Labels
  set = ancestors w start

  -- the prototype's label is in the slot
  slot_label : (a b : Addr) → IsObjectOf c a → IsTrue (set (label_of c a))
      → link_of heap.prototype_of c a ≡ Some b → IsTrue
      ((slot w (label_of c a) prototype).label (label_of c b))
  slot_label a b o s link =
      subst (λ u. IsTrue (knows c (resolved w.state w.entries (label_of c a) prototype) u))
      (content-prototype c a ∙ ap held_address link)
      (own-knows e c w r a (internal slots.Prototype) prototype (same_key-self prototype) o
      (λ m j d. filled m j (some_label-object e c w r
      (λ l. set l && demands_of w.state l prototype m j) a o (and_from _ _ s d))))

  pub next_reached : (a b : Addr) → IsObjectOf c a → IsTrue (set (label_of c a))
      → link_of heap.prototype_of c a ≡ Some b → IsTrue (set (label_of c b))
  next_reached a b o s link =
      reached-next (λ l. (slot w l prototype).label) (labels_of p) start (label_of c a)
      (label_of c b) (label-among e c w r a o) (label-among e c w r b
      (prototype_before p c r.heap_now a b link).0) s (slot_label a b o s link)

  -- ---- what an object inherits from

  on_chain : (b : Addr) (n : ℕ) (a : Addr) → IsObjectOf c a → IsTrue (set (label_of c a))
      → (o : Option Addr) → link_of heap.prototype_of c a ≡ o
      → list_any (same_address b) (heap.chain heap.prototype_of c n o) ≡ true
      → IsTrue (proper_ancestors w start (label_of c b))
  on_chain b zero a o s link is found = absurd (false≢true found)
  on_chain b (suc n) a o s None is found = absurd (false≢true found)
  on_chain b (suc n) a o s (Some d) is found =
      elim (or_cases (same_address b d) (list_any (same_address b)
      (heap.chain heap.prototype_of c n (link_of heap.prototype_of c d))) found) [
        | inl here ↦
            some_label-object e c w r (λ l. set l && (slot w l prototype).label (label_of c b)) a o
            (and_from _ _ s (slot_label a b o s (is ∙ ap Some (sym (same_parts b d here)))))
        | inr later ↦
            on_chain b n d (prototype_before p c r.heap_now a d is).0 (next_reached a d o s is)
            (link_of heap.prototype_of c d) refl later
      ]

  inherits_by : (b : Addr) (n : ℕ) (a : Addr) → IsObjectOf c a → IsTrue (set (label_of c a))
      → list_any (same_address b) (drop 1 (heap.chain heap.prototype_of c n (Some a))) ≡ true
      → IsTrue (proper_ancestors w start (label_of c b))
  inherits_by b zero a o s found = absurd (false≢true found)
  inherits_by b (suc n) a o s found = on_chain b n a o s (link_of heap.prototype_of c a) refl found

  -- an object that another inherits from is one of its ancestors
  pub inherits-known : (a b : Addr) → IsObjectOf c a → IsTrue (start (label_of c a))
      → inherits_from c a b ≡ true → IsTrue (proper_ancestors w start (label_of c b))
  inherits-known a b o s found =
      inherits_by b (heap.size c) a o (reached-start (λ l. (slot w l prototype).label)
      (labels_of p) start (label_of c a) s) found

-- ---- names shown

-- the value of a text's key has the text
module _ (p : Program) (h : Heap) (t : List ℕ) where
  abbrev Has : Key → Type 0
  Has k = IsTrue (has_value h (key_value p k) (value.Primitive (primitive.Text t)))

  rest_by : (b : Bool) → is_index_text t ≡ b → Has (if b then key.OtherIndex else key.OtherName)
  rest_by true is = is
  rest_by false is = ap not is

  text_by : (o : Option ℕ) → name_of p t ≡ o → Has (key_of p (named t))
  text_by (Some n) is =
      let k : key_of p (named t) ≡ name_key n =
      ap (λ o. option_map_or name_key o (rest_key t)) is in
      subst Has (sym k) (subst (λ u. IsTrue (has_value h (key_value p (name_key n))
      (value.Primitive (primitive.Text u)))) (text_of_key p t (record { 0 = n }) k)
      (same_text_refl (name_text p (record { 0 = n }))))
  text_by None is =
      let k : key_of p (named t) ≡ rest_key t =
      ap (λ o. option_map_or name_key o (rest_key t)) is in
      subst Has (sym k) (rest_by (is_index_text t) refl)

  pub key-has_text : Has (key_of p (named t))
  key-has_text = text_by (name_of p t) refl

-- a text isn't a slot's
text_key_by : (p : Program) (t : List ℕ) (o : Option ℕ) → name_of p t ≡ o
    → IsTrue (is_text_key (key_of p (named t)))
text_key_by p t (Some n) is =
    subst (λ k. IsTrue (is_text_key k)) (sym (ap (λ o. option_map_or name_key o (rest_key t)) is))
    refl
text_key_by p t None is =
    subst (λ k. IsTrue (is_text_key k)) (sym (ap (λ o. option_map_or name_key o (rest_key t)) is))
    (by (is_index_text t))
  where
    by : (b : Bool) → IsTrue (is_text_key (if b then key.OtherIndex else key.OtherName))
    by true = refl
    by false = refl

pub among_texts : (p : Program) (t : List ℕ) → IsTrue
    (is_among_keys (text_keys p) (key_of p (named t)))
among_texts p t =
    among-filter is_text_key (keys_of p) (key_of p (named t)) (text_among p t)
    (text_key_by p t (name_of p t) refl)

-- what is had at one key of a list is in the join
pub join-keys : (h : Heap) (f : Key → AbstractValue) (keys : List Key) (k : Key) (v : Value)
    → IsTrue (is_among_keys keys k) → IsTrue (has_value h (f k) v)
    → IsTrue (has_value h (join_values (map f keys)) v)
join-keys h f [] k v a e = absurd (false≢true a)
join-keys h f (j ∷ js) k v a e =
    elim (or_cases (same_key j k) (list_any (λ i. same_key i k) js) a) [
      | inl s ↦
          has_value-join_left h (f j) (join_values (map f js)) v
          (subst (λ i. IsTrue (has_value h (f i) v)) (sym (same_key-true j k s)) e)
      | inr m ↦ has_value-join_right h (f j) (join_values (map f js)) v (join-keys h f js k v m e)
    ]
