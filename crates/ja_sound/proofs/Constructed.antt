-- A construction: the calling state holds of the heap with the new object.
use Rattle.std.specs.Prelude.{◌≡◌, ◌<◌, ℕ, false, IsTrue, List, length, Option, Some, None}
use Rattle.std.specs.Option.{option_map}
use Rattle.std.proofs.Common.{refl, sym, subst}
use Rattle.std.proofs.lemmas.Bool.{cond-true, cond-false, or_left, or_right, and_parts, false_from_ne_true}
use lib.Chars.{codes}
use Rattle.ja_base.specs.declared.ids.Reg.{Reg}
use Rattle.ja_base.specs.declared.ids.Site.{Site}
use Rattle.ja_graph.specs.declared.attrs.Attrs.{Attrs}
use Rattle.ja_graph.specs.declared.builtins.TheConstants as builtins
use Rattle.ja_graph.specs.declared.node.Node.{Node}
use Rattle.ja_graph.specs.declared.node.Node.TheVariants as node
use Rattle.ja_graph.specs.declared.program.Program.{Program}
use Rattle.ja_machine.specs.declared.machine.Addr.{Addr}
use Rattle.ja_machine.specs.declared.machine.Value.TheVariants as value
use Rattle.ja_machine.specs.declared.machine.Content.{Content}
use Rattle.ja_machine.specs.declared.machine.Content.TheVariants as contents
use Rattle.ja_machine.specs.declared.machine.Property.{Property}
use Rattle.ja_machine.specs.declared.machine.Heap.{Heap}
use Rattle.ja_machine.specs.declared.machine.Frame.{Frame}
use Rattle.ja_machine.specs.declared.machine.Conf.{Conf}
use Rattle.ja_machine.specs.Calls.{prototype_for, prototype_of_callee}
use Rattle.ja_machine.specs.Heap.{with_new}
use Rattle.ja_machine.specs.Heap as heap
use Rattle.ja_machine.specs.Objects.{first_of, constructed_object}
use Rattle.ja_machine.specs.State.{IsFrame, IsObjectOf}
use Rattle.ja_abstract.specs.declared.abstraction.Slot.TheVariants as slots
use Rattle.ja_abstract.specs.AbstractValue.{Labels, AbstractValue, AbstractProperty, join, no_value, of_label, of_labels, bare, absent_property}
use Rattle.ja_abstract.specs.AbstractState.{new, same_key, aged}
use Rattle.ja_abstract.specs.Resolved.{prototype, IsFilled}
use Rattle.ja_abstract.specs.Keys.{Spot, named, internal, key_of, is_among_keys}
use Rattle.ja_abstract.specs.Contents.{missing, object_content, property_content, label_of}
use Rattle.ja_abstract.specs.Parts.{has_primitive}
use Rattle.ja_abstract.specs.Made.{constructed_own}
use Rattle.ja_abstract.specs.Reading.{View, get}
use Rattle.ja_abstract.specs.Values.{has_non_object, value_if}
use Rattle.ja_abstract.proofs.Keys.{no_slot_of_text, same_key-true, same_key-self}
use Rattle.ja_abstract.proofs.Labels.{same_label_from}
use Rattle.ja_abstract.proofs.Atoms.{has_atoms-from}
use Rattle.ja_meaning.specs.Meaning.{has_value, knows, Holds}
use Rattle.ja_meaning.proofs.Held.{all_of, frame_of, holding}
use Rattle.ja_meaning.proofs.Inside.{inside}
use Rattle.ja_meaning.proofs.Aged.{aged_has}
use Rattle.ja_meaning.proofs.Values.{has_value-join_left, has_value-join_right}
use Rattle.ja_meaning.proofs.Allocated.{IsMade, with_object_holds, frame_aged}
use Rattle.ja_meaning.proofs.Gets.{get_known}
use Rattle.ja_rows.specs.Out.{Point}
use Rattle.ja_rows.specs.Properties.{prototype_keys}
use Rattle.ja_rows.specs.Calls.{callees, prototype_value, calling_state, demands_of_calling}
use Rattle.ja_sound.specs.Statements.{IsAt}
use Rattle.ja_sound.proofs.Steps.{read_at, frame}

-- ---- the object that is constructed

module _ (p : Program) (now : Heap) (v : AbstractValue) (proto : Addr)
    (has : IsTrue (has_value now v (value.Object proto))) where
  by_spot : (x : Spot) → IsTrue (knows now (constructed_own v (key_of p x))
      (object_content (constructed_object proto) x))
  by_spot (internal slots.Prototype) = has
  by_spot (internal slots.Outer) = refl
  by_spot (internal slots.Scope) = refl
  by_spot (internal slots.Value) = refl
  by_spot (named t) =
      let other : same_key prototype (key_of p (named t)) ≡ false =
      false_from_ne_true (same_key prototype (key_of p (named t)))
      (λ e. no_slot_of_text p t slots.Prototype
      (sym (same_key-true prototype (key_of p (named t)) e))) in
      subst (λ q. IsTrue (knows now q missing)) (sym
      (cond-false (same_key prototype (key_of p (named t))) (bare v) absent_property other)) refl

  pub constructed_made : IsMade p now (constructed_object proto) (constructed_own v)
  constructed_made = by_spot

-- ---- its prototype

module _ (h : Heap) (default_is : label_of h (first_of builtins.OBJECT_PROTOTYPE)
    ≡ new builtins.OBJECT_PROTOTYPE) (q : AbstractProperty) where
  abbrev other : AbstractValue
  other = value_if (has_non_object q.value) (of_label (new builtins.OBJECT_PROTOTYPE))

  abbrev whole : AbstractValue
  whole = join other (of_labels q.value.label)

  default_has : IsTrue (has_non_object q.value)
      → IsTrue (has_value h whole (value.Object (first_of builtins.OBJECT_PROTOTYPE)))
  default_has e =
      has_value-join_left h other (of_labels q.value.label)
      (value.Object (first_of builtins.OBJECT_PROTOTYPE))
      (subst (λ v. IsTrue (has_value h v (value.Object (first_of builtins.OBJECT_PROTOTYPE))))
      (sym (cond-true (has_non_object q.value) (of_label (new builtins.OBJECT_PROTOTYPE)) no_value
      e)) (same_label_from (new builtins.OBJECT_PROTOTYPE)
      (label_of h (first_of builtins.OBJECT_PROTOTYPE)) (sym default_is)))

  by_content : (x : Content) (attrs : Attrs) → IsTrue
      (knows h q (Rattle.ja_abstract.specs.Contents.content_of x attrs))
      → IsTrue (has_value h whole (value.Object (prototype_for (Some x))))
  by_content (contents.Value (value.Object b)) attrs e =
      has_value-join_right h other (of_labels q.value.label) (value.Object b)
      (and_parts (q.value.label (label_of h b)) _ e).0
  by_content (contents.Value (value.Primitive r)) attrs e =
      default_has (or_right q.value.flags.absent _
      (or_right q.value.flags.row _ (has_atoms-from q.value r
      (and_parts (has_primitive q.value r) _ e).0)))
  by_content contents.Row attrs e =
      default_has (or_right q.value.flags.absent _
      (or_left _ _ (and_parts q.value.flags.row _ e).0))

  pub prototype-has : (g : Option Property) → IsTrue (knows h q (property_content g))
      → IsTrue (has_value h whole (value.Object (prototype_for
      (option_map (λ (r : Property). r.content) g))))
  prototype-has None e = default_has (or_left _ _ e)
  prototype-has (Some r) e = by_content r.content r.attrs e

-- ---- the calling state

module _ (e : Heap) (c : Conf) (top : Frame) (below : List Frame) (x : Point) (w : View)
    (at : IsAt w.program e c top below x w) (default_is : label_of c.heap
    (first_of builtins.OBJECT_PROTOTYPE) ≡ new builtins.OBJECT_PROTOTYPE) (dst callee : Reg)
    (args : List Reg) (site error : Site) (f : ℕ) (row : site.0 < length c.heap.objects) (a : Addr)
    (there : IsObjectOf c.heap a) (in_callees : IsTrue
    (callees w.program w.state (node.New dst callee args site error) f (label_of c.heap a))) where
  abbrev n : Node
  n = node.New dst callee args site error

  abbrev proto : Addr
  proto = prototype_of_callee c.heap (Some a)

  abbrev now : Heap
  now = with_new c.heap site (constructed_object proto)

  proto_has : IsFilled w.entries (demands_of_calling w n f)
      → IsTrue (has_value c.heap (prototype_value w n f) (value.Object proto))
  proto_has filled =
      let set : Labels = callees w.program w.state n f in
      let one : IsTrue (is_among_keys (prototype_keys w.program)
      (key_of w.program (named (codes "prototype")))) = or_left _ _
      (same_key-self (key_of w.program (named (codes "prototype")))) in
      prototype-has c.heap default_is (get w set (prototype_keys w.program))
      (heap.get c.heap a (codes "prototype")) (get_known e c.heap w
      (read_at e c top below x w at) set (prototype_keys w.program) filled
      (codes "prototype") one a there in_callees)

  pub calling_holds : IsObjectOf c.heap proto → IsFilled w.entries (demands_of_calling w n f)
      → Holds w.program e now top (calling_state w n f)
  calling_holds proto_there filled =
      let v : AbstractValue = aged site (prototype_value w n f) in
      let has : IsTrue (has_value now v (value.Object proto)) =
      aged_has c.heap site (constructed_object proto) row (prototype_value w n f)
      (value.Object proto) proto_there (proto_has filled) in
      let fr : IsFrame w.program c.heap top = frame e c top below x w at in
      holding
      (with_object_holds w.program e c.heap site (constructed_object proto) row w.state at.grows
      (λ b y o. inside w.program c.heap at.known.heap b y) (all_of at.holds.heap)
      (λ s. constructed_own v) (constructed_made w.program now v proto has))
      (frame_aged w.program c.heap site (constructed_object proto) row top w.state fr.values
      fr.arguments (frame_of at.holds))
