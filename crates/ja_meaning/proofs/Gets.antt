-- What [[Get]] finds in the heap is known to what the abstract walk gives: for a list of keys, and
-- from a set of labels.
use Rattle.std.specs.Prelude.{◌≡◌, ◌&&◌, ℕ, false, if◌then◌else◌, IsTrue, List, [], ◌∷◌, map, Option, Some, None}
use Rattle.std.specs.List.{list_any}
use Rattle.std.proofs.Common.{refl, sym, subst, ap, inl, inr}
use Rattle.std.proofs.lemmas.Bool.{or_left, or_right, or_cases, and_parts, and_from, false≢true, cond-true}
use Rattle.ja_base.specs.declared.ids.Label.{Label}
use Rattle.ja_graph.specs.declared.program.Program.{Program}
use Rattle.ja_graph.specs.declared.attrs.Attrs.{Attrs}
use Rattle.ja_machine.specs.declared.machine.Addr.{Addr}
use Rattle.ja_machine.specs.declared.machine.Content.{Content}
use Rattle.ja_machine.specs.declared.machine.Content.TheVariants as contents
use Rattle.ja_machine.specs.declared.machine.Property.{Property}
use Rattle.ja_machine.specs.declared.machine.Heap.{Heap}
use Rattle.ja_machine.specs.Heap as heap
use Rattle.ja_machine.specs.State.{IsObjectOf}
use Rattle.ja_abstract.specs.declared.abstraction.Slot.TheVariants as slots
use Rattle.ja_abstract.specs.declared.abstraction.Key.{Key}
use Rattle.ja_abstract.specs.AbstractValue.{Labels, AbstractProperty, present_part, no_property, absent_property}
use Rattle.ja_abstract.specs.AbstractState.{labels_of, is_label, same_key}
use Rattle.ja_abstract.specs.Resolved.{resolved, demands_of, join_all, prototype, IsFilled}
use Rattle.ja_abstract.specs.Contents.{label_of, SpotContent, missing, content, content_of, property_content, held_address}
use Rattle.ja_abstract.specs.Keys.{Spot, named, internal, key_of, is_among_keys}
use Rattle.ja_abstract.specs.Reading.{View, some_label, at_labels, both, demands_if, own, demands_of_own, slot, has_present, present_property, may_be_absent, next_prototype, prototype_walk, ends_at, get_present, get_absent, get, demands_of_get}
use Rattle.ja_abstract.proofs.Keys.{same_key-true, same_key-self}
use Rattle.ja_abstract.proofs.Labels.{IsAmong, some_among}
use Rattle.ja_abstract.proofs.Rounds.{reached-start, reached-next}
use Rattle.ja_abstract.proofs.Among.{some_key}
use Rattle.ja_meaning.specs.Meaning.{knows}
use Rattle.ja_meaning.proofs.Moments.{Reads}
use Rattle.ja_meaning.proofs.Parts.{label_of-among, label_of-is_label, is_present-known, has_value-flags, knows-join_all}
use Rattle.ja_meaning.proofs.Values.{knows-join_left, knows-join_right}
use Rattle.ja_meaning.proofs.Resolved.{own-knows}
use Rattle.ja_meaning.proofs.Walks.{LeadsOn, Walked, IsHolder, IsLast, get_walked, link_of, prototype_before, content-named, content-prototype, own-content}

-- a content that is known at one of the keys is known to their join
pub knows-join_keys : (h : Heap) (f : Key → AbstractProperty) (keys : List Key) (k : Key)
    (c : SpotContent) → IsTrue (is_among_keys keys k) → IsTrue (knows h (f k) c)
    → IsTrue (knows h (join_all (map f keys)) c)
knows-join_keys h f [] k c a e = absurd (false≢true a)
knows-join_keys h f (j ∷ js) k c a e =
    elim (or_cases (same_key j k) (list_any (λ i. same_key i k) js) a) [
      | inl s ↦
          knows-join_left h (f j) (join_all (map f js)) c
          (subst (λ i. IsTrue (knows h (f i) c)) (sym (same_key-true j k s)) e)
      | inr r ↦ knows-join_right h (f j) (join_all (map f js)) c (knows-join_keys h f js k c r e)
    ]

-- ---- present parts

knows-present_part : (h : Heap) (q : AbstractProperty) (x : Content) (attrs : Attrs)
    → IsTrue (knows h q (content_of x attrs)) → IsTrue
    (knows h (record q { value = present_part q.value }) (content_of x attrs))
knows-present_part h q (contents.Value v) attrs e =
    let (a, b) = and_parts _ _ e in
    and_from _ _ (has_value-flags h q.value false false v a) b
knows-present_part h q contents.Row attrs e = e

module _ (e c : Heap) (w : View) (r : Reads e c w) where
  abbrev p : Program
  p = w.program

  pub label-among : (a : Addr) → IsObjectOf c a → IsAmong (label_of c a) (labels_of p)
  label-among a o = label_of-among p c r.heap_now a o

  pub label-of_program : (a : Addr) → IsObjectOf c a → IsTrue (is_label p (label_of c a))
  label-of_program a o = label_of-is_label p c r.heap_now a o

  -- where some object passes a test by its label, some label does
  pub some_label-object : (test : Labels) (a : Addr) → IsObjectOf c a → IsTrue (test (label_of c a))
      → IsTrue (some_label w test)
  some_label-object test a o h = some_among test (labels_of p) (label_of c a) (label-among a o) h

  -- .. and a join over a set of labels knows what it knows at that label
  pub at_labels-knows : (set : Labels) (f : Label → AbstractProperty) (a : Addr) (x : SpotContent)
      → IsObjectOf c a → IsTrue (set (label_of c a)) → IsTrue (knows c (f (label_of c a)) x)
      → IsTrue (knows c (at_labels w set f) x)
  at_labels-knows set f a x o among known =
      let l = label_of c a in
      knows-join_all c (λ (m : Label). if set m then f m else no_property) (labels_of p) l x
      (label-among a o)
      (subst (λ q. IsTrue (knows c q x)) (sym (cond-true (set l) (f l) no_property among)) known)

  -- ---- own readings at some keys

  pub own_known : (keys : List Key) (a : Addr) (x : Spot) → IsTrue (is_among_keys keys (key_of p x))
      → IsObjectOf c a → IsFilled w.entries (demands_of_own w (label_of c a) keys)
      → IsTrue (knows c (own w (label_of c a) keys) (content c a x))
  own_known keys a x among o filled =
      let l = label_of c a in
      let k = key_of p x in
      knows-join_keys c (resolved w.state w.entries l) keys k (content c a x) among
      (own-knows e c w r a x k (same_key-self k) o
      (λ m j d. filled m j (some_key (λ i. demands_of w.state l i m j) keys k among d)))

  -- the prototype's slot
  slot_known : (a : Addr) → IsObjectOf c a → IsFilled w.entries
      (demands_of w.state (label_of c a) prototype)
      → IsTrue (knows c (resolved w.state w.entries (label_of c a) prototype)
      (held_address (link_of heap.prototype_of c a)))
  slot_known a o filled =
      subst (λ u. IsTrue (knows c (resolved w.state w.entries (label_of c a) prototype) u))
      (content-prototype c a)
      (own-knows e c w r a (internal slots.Prototype) prototype (same_key-self prototype) o filled)

  -- ---- the walk

  module _ (start : Labels) (keys : List Key) (filled : IsFilled w.entries
      (demands_of_get w start keys)) where
    abbrev set : Labels
    set = prototype_walk w start keys

    filled_at : (a : Addr) → IsObjectOf c a → IsTrue (set (label_of c a))
        → IsFilled w.entries (both (demands_of_own w (label_of c a) keys)
        (demands_if (may_be_absent w (label_of c a) keys)
        (demands_of w.state (label_of c a) prototype)))
    filled_at a o s m j d =
        filled m j (some_label-object (λ l. set l
        && both (demands_of_own w l keys) (demands_if (may_be_absent w l keys)
        (demands_of w.state l prototype)) m j) a o (and_from _ _ s d))

    filled_own : (a : Addr) → IsObjectOf c a → IsTrue (set (label_of c a))
        → IsFilled w.entries (demands_of_own w (label_of c a) keys)
    filled_own a o s m j d = filled_at a o s m j (or_left _ _ d)

    filled_prototype : (a : Addr) → IsObjectOf c a → IsTrue (set (label_of c a))
        → IsTrue (may_be_absent w (label_of c a) keys)
        → IsFilled w.entries (demands_of w.state (label_of c a) prototype)
    filled_prototype a o s absent m j d = filled_at a o s m j (or_right _ _ (and_from _ _ absent d))

    module _ (t : List ℕ) (among : IsTrue (is_among_keys keys (key_of p (named t)))) where
      -- what an object has of its own
      own_content : (a : Addr) → IsObjectOf c a → IsTrue (set (label_of c a))
          → IsTrue (knows c (own w (label_of c a) keys) (property_content (heap.own c a t)))
      own_content a o s =
          subst (λ u. IsTrue (knows c (own w (label_of c a) keys) u)) (content-named c a t)
          (own_known keys a (named t) among o (filled_own a o s))

      lacks_own : (a : Addr) → IsObjectOf c a → IsTrue (set (label_of c a)) → heap.own c a t ≡ None
          → IsTrue (may_be_absent w (label_of c a) keys)
      lacks_own a o s none =
          subst (λ q. IsTrue (knows c (own w (label_of c a) keys) (property_content q))) none
          (own_content a o s)

      leads : LeadsOn c set t
      leads a b o s none link =
          let absent = lacks_own a o s none in
          let label : IsTrue ((slot w (label_of c a) prototype).label (label_of c b)) =
          subst (λ u. IsTrue (knows c (resolved w.state w.entries (label_of c a) prototype) u))
          (ap held_address link) (slot_known a o (filled_prototype a o s absent)) in
          reached-next (next_prototype w keys) (labels_of p) start (label_of c a) (label_of c b)
          (label-among a o) (label-among b (prototype_before p c r.heap_now a b link).0) s
          (and_from _ _ absent label)

      holder_known : (q : Property) (d : Addr) → IsHolder c set t q d
          → IsTrue (knows c (get w start keys) (content_of q.content q.attrs))
      holder_known q d h =
          let l = label_of c d in
          let mine = own w l keys in
          let known : IsTrue (knows c mine (content_of q.content q.attrs)) =
          subst (λ u. IsTrue (knows c mine (property_content u))) h.has_own
          (own_content d h.is_object h.is_reached) in
          let there : IsTrue (has_present w mine.value) =
          is_present-known p c r.heap_now mine q.content q.attrs
          (own-content p c r.heap_now d t q h.has_own) known in
          knows-join_left c (get_present w start keys) (get_absent w start keys)
          (content_of q.content q.attrs)
          (at_labels-knows set (λ m. present_property w (own w m keys)) d
          (content_of q.content q.attrs) h.is_object h.is_reached
          (subst (λ u. IsTrue (knows c u (content_of q.content q.attrs)))
          (sym (cond-true (has_present w mine.value)
          (record mine { value = present_part mine.value }) no_property there))
          (knows-present_part c mine q.content q.attrs known)))

      last_known : (d : Addr) → IsLast c set t d → IsTrue (knows c (get w start keys) missing)
      last_known d h =
          let absent = lacks_own d h.is_object h.is_reached h.has_none in
          let ends : IsTrue (slot w (label_of c d) prototype).flags.absent =
          subst (λ u. IsTrue (knows c (resolved w.state w.entries (label_of c d) prototype) u))
          (ap held_address h.ends) (slot_known d h.is_object
          (filled_prototype d h.is_object h.is_reached absent)) in
          knows-join_right c (get_present w start keys) (get_absent w start keys) missing
          (at_labels-knows (λ m. set m && ends_at w keys m)
          (λ m. absent_property) d missing h.is_object
          (and_from _ _ h.is_reached (and_from _ _ absent ends)) refl)

      walked : (g : Option Property) → Walked c set t g
          → IsTrue (knows c (get w start keys) (property_content g))
      walked None (d, h) = last_known d h
      walked (Some q) (d, h) = holder_known q d h

      -- what [[Get]] finds from an object on is known
      pub get_known : (a : Addr) → IsObjectOf c a → IsTrue (start (label_of c a))
          → IsTrue (knows c (get w start keys) (property_content (heap.get c a t)))
      get_known a o s =
          walked (heap.get c a t) (get_walked p c r.heap_now set t leads a o
          (reached-start (next_prototype w keys) (labels_of p) start (label_of c a) s))
