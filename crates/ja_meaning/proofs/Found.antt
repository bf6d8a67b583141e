-- The search of a scope chain: what is found in the heap is in what the abstract search gives.
use Rattle.std.specs.Prelude.{◌≡◌, ◌&&◌, ℕ, true, false, if◌then◌else◌, IsTrue, List, Option, Some, None, find, is_some}
use Rattle.std.proofs.Common.{refl, sym, subst, ap}
use Rattle.std.proofs.lemmas.Bool.{or_left, or_right, and_from, false≢true, true≢false, cond-true}
use Rattle.ja_graph.specs.declared.program.Program.{Program}
use Rattle.ja_machine.specs.declared.machine.Addr.{Addr}
use Rattle.ja_machine.specs.declared.machine.Property.{Property}
use Rattle.ja_machine.specs.declared.machine.Heap.{Heap}
use Rattle.ja_machine.specs.Heap as heap
use Rattle.ja_machine.specs.Nodes.{object_or_null, find_name}
use Rattle.ja_machine.specs.State.{IsObjectOf}
use Rattle.ja_abstract.specs.declared.abstraction.Slot.TheVariants as slots
use Rattle.ja_abstract.specs.declared.abstraction.Key.{Key}
use Rattle.ja_abstract.specs.AbstractValue.{Labels, AbstractValue, null_value, no_value, of_labels}
use Rattle.ja_abstract.specs.AbstractState.{labels_of}
use Rattle.ja_abstract.specs.Resolved.{resolved, demands_of, outer, IsFilled}
use Rattle.ja_abstract.specs.Contents.{label_of, content_of, property_content, held_address}
use Rattle.ja_abstract.specs.Keys.{named, internal, key_of, is_among_keys}
use Rattle.ja_abstract.specs.Reading.{View, some_label, both, demands_if, slot, one_label, get, demands_of_get, may_have, may_lack, next_scope, scope_walk, found, demands_of_found}
use Rattle.ja_abstract.proofs.Keys.{same_key-self}
use Rattle.ja_abstract.proofs.Labels.{same_label-self}
use Rattle.ja_abstract.proofs.Rounds.{reached-start, reached-next}
use Rattle.ja_meaning.specs.Meaning.{knows, has_value}
use Rattle.ja_meaning.proofs.Parts.{is_present-known}
use Rattle.ja_meaning.proofs.Resolved.{own-knows}
use Rattle.ja_meaning.proofs.Values.{has_value-join_left, has_value-join_right}
use Rattle.ja_meaning.proofs.Walks.{LeadsOut, Searched, IsScope, find_searched, link_of, outer_before, content-outer, own-content, Walked, get_walked}
use Rattle.ja_meaning.proofs.Moments.{Reads}
use Rattle.ja_meaning.proofs.Gets.{label-among, some_label-object, get_known}

-- ---- what is had and lacked, by what is known

has_parts : (g : Option Property) → is_some g ≡ true → (q : Property) × (g ≡ Some q)
has_parts None e = absurd (false≢true e)
has_parts (Some q) e = (q, refl)

lacks_parts : (g : Option Property) → is_some g ≡ false → g ≡ None
lacks_parts None e = refl
lacks_parts (Some q) e = absurd (true≢false e)

module _ (e c : Heap) (w : View) (r : Reads e c w) (start : Labels) (keys : List Key)
    (filled : IsFilled w.entries (demands_of_found w start keys)) (t : List ℕ)
    (among : IsTrue (is_among_keys keys (key_of w.program (named t)))) where
  abbrev p : Program
  p = w.program

  abbrev set : Labels
  set = scope_walk w start keys

  filled_at : (a : Addr) → IsObjectOf c a → IsTrue (set (label_of c a))
      → IsFilled w.entries (both (demands_of_get w (one_label (label_of c a)) keys)
      (demands_if (may_lack (get w (one_label (label_of c a)) keys))
      (demands_of w.state (label_of c a) outer)))
  filled_at a o s m j d =
      filled m j (some_label-object e c w r (λ l. set l
      && both (demands_of_get w (one_label l) keys)
      (demands_if (may_lack (get w (one_label l) keys)) (demands_of w.state l outer)) m j) a o
      (and_from _ _ s d))

  known_at : (a : Addr) → IsObjectOf c a → IsTrue (set (label_of c a))
      → IsTrue (knows c (get w (one_label (label_of c a)) keys) (property_content (heap.get c a t)))
  known_at a o s =
      get_known e c w r (one_label (label_of c a)) keys
      (λ m j d. filled_at a o s m j (or_left _ _ d)) t among a o (same_label-self (label_of c a))

  lacked_at : (a : Addr) → IsObjectOf c a → IsTrue (set (label_of c a)) → heap.has c a t ≡ false
      → IsTrue (may_lack (get w (one_label (label_of c a)) keys))
  lacked_at a o s none =
      subst (λ g. IsTrue (knows c (get w (one_label (label_of c a)) keys) (property_content g)))
      (lacks_parts (heap.get c a t) none) (known_at a o s)

  outer_known : (a : Addr) → IsObjectOf c a → IsTrue (set (label_of c a))
      → IsTrue (may_lack (get w (one_label (label_of c a)) keys))
      → IsTrue (knows c (resolved w.state w.entries (label_of c a) outer)
      (held_address (link_of heap.outer_of c a)))
  outer_known a o s lack =
      subst (λ u. IsTrue (knows c (resolved w.state w.entries (label_of c a) outer) u))
      (content-outer c a)
      (own-knows e c w r a (internal slots.Outer) outer (same_key-self outer) o
      (λ m j d. filled_at a o s m j (or_right (demands_of_get w (one_label (label_of c a)) keys m j)
      _ (and_from _ _ lack d))))

  leads : LeadsOut c set t
  leads a b o s none link =
      let lack = lacked_at a o s none in
      let label : IsTrue ((slot w (label_of c a) outer).label (label_of c b)) =
      subst (λ u. IsTrue (knows c (resolved w.state w.entries (label_of c a) outer) u))
      (ap held_address link) (outer_known a o s lack) in
      reached-next (next_scope w keys) (labels_of p) start (label_of c a) (label_of c b)
      (label-among e c w r a o) (label-among e c w r b (outer_before p c r.heap_now a b link).0) s
      (and_from _ _ lack label)

  abbrev nothing : AbstractValue
  nothing =
      if some_label w (λ l. set l && (may_lack (get w (one_label l) keys)
      && (slot w l outer).flags.absent)) then null_value else no_value

  abbrev objects : AbstractValue
  objects = of_labels (λ l. set l && may_have w (get w (one_label l) keys))

  -- an object that has the name may have it
  had_at : (d : Addr) → IsScope c set t d → (q : Property) → heap.get c d t ≡ Some q
      → IsTrue (may_have w (get w (one_label (label_of c d)) keys))
  had_at d s q is =
      let known : IsTrue (knows c (get w (one_label (label_of c d)) keys)
      (content_of q.content q.attrs)) = subst (λ g. IsTrue
      (knows c (get w (one_label (label_of c d)) keys) (property_content g))) is
      (known_at d s.is_object s.is_reached) in
      is_present-known p c r.heap_now (get w (one_label (label_of c d)) keys) q.content q.attrs
      (got_inside q is) known
    where
      got_inside : (x : Property) → heap.get c d t ≡ Some x
          → Rattle.ja_meaning.specs.Meaning.IsOfHeap c (content_of x.content x.attrs)
      got_inside x eq =
          let (b, h) =
          subst (Walked c (λ l. true) t) eq (get_walked p c r.heap_now (λ l. true) t
          (λ a b o s none link. refl) d s.is_object refl) in
          own-content p c r.heap_now b t x h.has_own

  search_has : (o : Option Addr) → Searched c set t o
      → IsTrue (has_value c (found w start keys) (object_or_null o))
  search_has None (d, h) =
      let lack = lacked_at d h.is_object h.is_reached h.has_none in
      let absent : IsTrue (slot w (label_of c d) outer).flags.absent =
      subst (λ u. IsTrue (knows c (resolved w.state w.entries (label_of c d) outer) u))
      (ap held_address h.ends) (outer_known d h.is_object h.is_reached lack) in
      let some : IsTrue (some_label w (λ l. set l
      && (may_lack (get w (one_label l) keys) && (slot w l outer).flags.absent))) =
      some_label-object e c w r (λ l. set l && (may_lack (get w (one_label l) keys)
      && (slot w l outer).flags.absent)) d h.is_object
      (and_from _ _ h.is_reached (and_from _ _ lack absent)) in
      has_value-join_left c nothing objects (object_or_null None)
      (subst (λ v. IsTrue (has_value c v (object_or_null None)))
      (sym (cond-true (some_label w (λ l. set l && (may_lack (get w (one_label l) keys)
      && (slot w l outer).flags.absent))) null_value no_value some)) refl)
  search_has (Some d) h =
      let (q, is) = has_parts (heap.get c d t) h.has_one in
      has_value-join_right c nothing objects (object_or_null (Some d))
      (and_from _ _ h.is_reached (had_at d h q is))

  -- what a name is found on is in what the search gives
  pub found_known : (a : Addr) → IsObjectOf c a → IsTrue (start (label_of c a))
      → IsTrue (has_value c (found w start keys) (find_name c a t))
  found_known a o s =
      search_has (find (λ (b : Addr). heap.has c b t) (heap.scopes c a))
      (find_searched p c r.heap_now set t leads a o
      (reached-start (next_scope w keys) (labels_of p) start (label_of c a) s))
