-- The names that an object shows are among those that are shown of its label.
use Rattle.std.specs.Prelude.{◌≡◌, ◌&&◌, ◌||◌, ℕ, Bool, true, false, if◌then◌else◌, IsTrue, List, [], ◌∷◌, Option, Some, None}
use Rattle.std.specs.Option.{option_map_or}
use Rattle.std.proofs.Common.{refl, sym, subst, ap, ◌∙◌}
use Rattle.std.proofs.lemmas.Bool.{false≢true, cond-true, or_left, or_right, and_from, not-true}
use Rattle.ja_prim.specs.declared.primitive.Primitive.TheVariants as primitive
use Rattle.ja_graph.specs.declared.program.Program.{Program}
use Rattle.ja_machine.specs.declared.machine.Addr.{Addr}
use Rattle.ja_machine.specs.declared.machine.Value.TheVariants as value
use Rattle.ja_machine.specs.declared.machine.Property.{Property}
use Rattle.ja_machine.specs.declared.machine.Heap.{Heap}
use Rattle.ja_machine.specs.Enumeration.{shows, is_enumerable}
use Rattle.ja_machine.specs.Heap as heap
use Rattle.ja_machine.specs.State.{IsObjectOf}
use Rattle.ja_abstract.specs.declared.abstraction.Key.{Key}
use Rattle.ja_abstract.specs.AbstractValue.{Labels, no_value}
use Rattle.ja_abstract.specs.AbstractState.{labels_of}
use Rattle.ja_abstract.specs.Resolved.{demands_of, prototype, IsFilled}
use Rattle.ja_abstract.specs.Keys.{named, key_of, text_keys}
use Rattle.ja_abstract.specs.Contents.{content_of, property_content, label_of}
use Rattle.ja_abstract.specs.Parts.{allows}
use Rattle.ja_abstract.specs.Reading.{View, some_label, own, slot, demands_of_own, ancestors, demands_of_ancestors, key_value, may_show, names_shown, demands_of_shown}
use Rattle.ja_abstract.proofs.Keys.{same_key-self}
use Rattle.ja_abstract.proofs.Rounds.{reached-start}
use Rattle.ja_abstract.proofs.Joins.{and_three_parts}
use Rattle.ja_abstract.proofs.Among.{some_key}
use Rattle.ja_meaning.specs.Meaning.{has_value, knows}
use Rattle.ja_meaning.proofs.Parts.{is_present-known, allows_attrs-known}
use Rattle.ja_meaning.proofs.Walks.{Walked, IsHolder, get_walked, content-named, own-content}
use Rattle.ja_meaning.proofs.Moments.{Reads}
use Rattle.ja_meaning.proofs.Gets.{own_known, some_label-object}
use Rattle.ja_meaning.proofs.Ancestors.{next_reached, key-has_text, among_texts, join-keys}

module _ (e c : Heap) (w : View) (r : Reads e c w) (start : Labels)
    (filled : IsFilled w.entries (demands_of_shown w start)) (t : List ℕ) where
  abbrev p : Program
  p = w.program

  abbrev set : Labels
  set = ancestors w start

  abbrev k : Key
  k = key_of p (named t)

  filled_chain : IsFilled w.entries (demands_of_ancestors w start)
  filled_chain m j d = filled m j (or_left _ _ d)

  filled_own : (d : Addr) → IsObjectOf c d → IsTrue (set (label_of c d))
      → IsFilled w.entries (demands_of w.state (label_of c d) k)
  filled_own d o s m j h =
      filled m j (or_right (demands_of_ancestors w start m j) _
      (some_label-object e c w r (λ l. set l && demands_of_own w l (text_keys p) m j) d o
      (and_from _ _ s (some_key (λ i. demands_of w.state (label_of c d) i m j) (text_keys p) k
      (among_texts p t) h))))

  alone : (b : Bool) → IsTrue (b || false) → IsTrue b
  alone true h = refl
  alone false h = h

  show_by : (q : Property) (d : Addr) → IsHolder c set t q d → is_enumerable q ≡ true
      → IsTrue (may_show w k (label_of c d))
  show_by q d h shown_ =
      let u = own w (label_of c d) (k ∷ []) in
      let known : IsTrue (knows c u (content_of q.content q.attrs)) =
      subst (λ z. IsTrue (knows c u z)) (content-named c d t ∙ ap property_content h.has_own)
      (own_known e c w r (k ∷ []) d (named t) (or_left _ _ (same_key-self k)) h.is_object
      (λ m j f. filled_own d h.is_object h.is_reached m j (alone _ f))) in
      and_from _ _ (is_present-known p c r.heap_now u q.content q.attrs
      (own-content p c r.heap_now d t q h.has_own) known)
      (subst (λ b. IsTrue (allows u.attrs.dont_enum b)) (not-true q.attrs.dont_enum shown_)
      (and_three_parts (allows u.attrs.read_only q.attrs.read_only)
      (allows u.attrs.dont_enum q.attrs.dont_enum) (allows u.attrs.dont_delete q.attrs.dont_delete)
      (allows_attrs-known c u q.content q.attrs known)).1.0)

  walked : (g : Option Property) → Walked c set t g → option_map_or is_enumerable g false ≡ true
      → IsTrue (has_value c (names_shown w start) (value.Primitive (primitive.Text t)))
  walked None h is = absurd (false≢true is)
  walked (Some q) (d, h) is =
      let some : IsTrue (some_label w (λ l. set l && may_show w k l)) =
      some_label-object e c w r (λ l. set l && may_show w k l) d h.is_object
      (and_from _ _ h.is_reached (show_by q d h is)) in
      join-keys c (λ (j : Key). if some_label w (λ l. set l && may_show w j l) then key_value p j
      else no_value) (text_keys p) k (value.Primitive (primitive.Text t)) (among_texts p t)
      (subst (λ v. IsTrue (has_value c v (value.Primitive (primitive.Text t))))
      (sym (cond-true (some_label w (λ l. set l && may_show w k l)) (key_value p k) no_value some))
      (key-has_text p c t))

  -- a name that an object shows is among those that are shown
  pub shown-known : (a : Addr) → IsObjectOf c a → IsTrue (start (label_of c a)) → shows c a t ≡ true
      → IsTrue (has_value c (names_shown w start) (value.Primitive (primitive.Text t)))
  shown-known a o s is =
      walked (heap.get c a t) (get_walked p c r.heap_now set t
      (λ a b o s none link. next_reached e c w r start filled_chain a b o s link) a o
      (reached-start (λ l. (slot w l prototype).label) (labels_of p) start (label_of c a) s)) is
