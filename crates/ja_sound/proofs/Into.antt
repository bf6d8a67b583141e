-- A step into a function: from what its node gives, all that is asked of an entry.
use Rattle.std.specs.Prelude.{◌≡◌, ◌&&◌, ℕ, IsTrue, List, unwrap_or, Option, Some, None, IsSome}
use Rattle.std.specs.Option.{option_and_then}
use Rattle.std.proofs.Common.{refl, sym, subst, ap, ◌∙◌}
use Rattle.std.proofs.lemmas.Bool.{false≢true, or_left, or_right, and_from}
use Rattle.ja_base.specs.declared.ids.FnId.{FnId}
use Rattle.ja_graph.specs.declared.node.Node.{Node}
use Rattle.ja_graph.specs.declared.program.Program.{Program}
use Rattle.ja_graph.specs.Program.{global}
use Rattle.ja_machine.specs.declared.machine.Addr.{Addr}
use Rattle.ja_machine.specs.declared.machine.Value.{Value}
use Rattle.ja_machine.specs.declared.machine.Value.TheVariants as value
use Rattle.ja_machine.specs.declared.machine.Object.{Object}
use Rattle.ja_machine.specs.declared.machine.Heap.{Heap}
use Rattle.ja_machine.specs.declared.machine.Frame.{Frame}
use Rattle.ja_machine.specs.Calls.{chain_of}
use Rattle.ja_machine.specs.Heap.{object_at}
use Rattle.ja_machine.specs.Objects.{first_of}
use Rattle.ja_machine.specs.Frames.{entered, parameters_of, object_or_undefined}
use Rattle.ja_machine.specs.State.{IsHeap, IsObjectOf}
use Rattle.ja_abstract.specs.declared.abstraction.Slot.TheVariants as slots
use Rattle.ja_abstract.specs.AbstractValue.{Labels, AbstractValue, of_label, of_labels}
use Rattle.ja_abstract.specs.AbstractState.{labels_of}
use Rattle.ja_abstract.specs.Resolved.{resolved, demands_of, IsFilled}
use Rattle.ja_abstract.specs.Keys.{internal, key_of}
use Rattle.ja_abstract.specs.Contents.{content, held_address, label_of}
use Rattle.ja_abstract.specs.Made.{scope_key}
use Rattle.ja_abstract.specs.Reading.{View, some_label, slot}
use Rattle.ja_abstract.proofs.Keys.{same_key-self}
use Rattle.ja_abstract.proofs.Labels.{same_label-self, some_among}
use Rattle.ja_abstract.proofs.Lists.{Member}
use Rattle.ja_meaning.specs.Meaning.{has_value, knows, EntriesHold, Grows, Holds}
use Rattle.ja_meaning.proofs.Contents
use Rattle.ja_meaning.proofs.Parts.{label_of-among}
use Rattle.ja_meaning.proofs.Resolved.{own-knows}
use Rattle.ja_meaning.proofs.Moments.{Reads}
use Rattle.ja_rows.specs.Out.{Point, at}
use Rattle.ja_rows.specs.Transfer.{transfer_node}
use Rattle.ja_rows.specs.Calls as calls
use Rattle.ja_rows.specs.Calls.{calling, calling_state, callees, demands_of_calling, chain_value, callee_value, demands_of_chain}
use Rattle.ja_sound.specs.Statements.{edge_into, IsEntered}
use Rattle.ja_sound.proofs.Entered.{AreGiven, entry_holds}

-- ---- from an entry's parts

module _ (e h : Heap) (top : Frame) (x : Point) (w : View) (f : FnId) (receiver : Addr)
    (callee : Option Addr) (chain : Addr) (arguments : List Value) (steps : ℕ) where
  abbrev p : Program
  p = w.program

  abbrev frame : Frame
  frame = entered p steps f receiver callee chain arguments

  -- what is known of a step that enters from a node, with a heap
  pub record EntersFrom (n : Node) : Type 0 where
    pub entry_heap : IsHeap p e
    pub heap : IsHeap p h
    pub grows : Grows e h
    pub entries : EntriesHold p e w.entries
    pub edge : Member (edge_into x h frame) (transfer_node w x x.info n).edges
    pub calling_holds : IsFilled w.entries (demands_of_calling w n f.0)
        → Holds p e h top (calling_state w n f.0)
    pub chain_has : IsFilled w.entries (demands_of_calling w n f.0)
        → IsFilled w.entries (demands_of_chain (calling w n f.0) n f.0)
        → IsTrue (has_value h (chain_value (calling w n f.0) n f.0) (value.Object chain))
    pub callee_has : IsFilled w.entries (demands_of_calling w n f.0)
        → IsTrue (has_value h (callee_value (calling w n f.0) n f.0) (object_or_undefined callee))
    pub given : IsFilled w.entries (demands_of_calling w n f.0)
        → IsFilled w.entries (calls.given (calling w n f.0) x.context.function
        (parameters_of p f) n).demands → AreGiven h (parameters_of p f) arguments
        (calls.given (calling w n f.0) x.context.function (parameters_of p f) n)

  abbrev n : Node
  n = x.info.node

  abbrev c : View
  c = calling w n f.0

  module _ (enters : EntersFrom x.info.node) where
    read_calling : IsFilled w.entries (demands_of_calling w n f.0) → Reads e h c
    read_calling filled = let holds = enters.calling_holds filled in record {
      heap_at_entry = enters.entry_heap;
      heap_now = enters.heap;
      grows = enters.grows;
      holds = holds.heap;
      entries = enters.entries;
    }

    pub is_entered : (frames : List Frame) (count : ℕ)
        → IsEntered p e (record { heap = h; frames = frames; steps = count }) top frame x w
    is_entered frames count = record {
      edge = enters.edge;
      state = λ filled.
          let first : IsFilled w.entries (demands_of_calling w n f.0) =
          λ l k d. filled l k (or_left _ _ d) in
          let second : IsFilled w.entries (demands_of_chain c n f.0) =
          λ l k d. filled l k (or_right (demands_of_calling w n f.0 l k) _ (or_left _ _ d)) in
          let third : IsFilled w.entries (calls.given c x.context.function
          (parameters_of p f) n).demands = λ l k d. filled l k
          (or_right (demands_of_calling w n f.0 l k) _
          (or_right (demands_of_chain c n f.0 l k) _ d)) in
          entry_holds h p steps f receiver callee chain arguments
          (of_label (label_of h receiver)) (chain_value c n f.0) (callee_value c n f.0)
          (calls.given c x.context.function (parameters_of p f) n)
          (same_label-self (label_of h receiver)) (enters.chain_has first second)
          (enters.callee_has first) (enters.given first third);
      calling = enters.calling_holds;
      values =
          λ a y there filled pair. own-knows e h c (read_calling filled) a y (key_of p y)
          (same_key-self (key_of p y)) there pair;
    }

-- ---- the chain of a callee

module _ (e h : Heap) (c : View) (read : Reads e h c) (n : Node) (f : ℕ) where
  abbrev set : Labels
  set = callees c.program c.state n f

  abbrev chains : AbstractValue
  chains = of_labels (λ m. some_label c (λ l. set l && (slot c l scope_key).label m))

  some-object : (test : Labels) (a : Addr) → IsObjectOf h a → IsTrue (test (label_of h a))
      → IsTrue (some_label c test)
  some-object test a there k =
      some_among test (labels_of c.program) (label_of h a)
      (label_of-among c.program h read.heap_now a there) k

  slot_known : (a : Addr) → IsObjectOf h a → IsFilled c.entries
      (demands_of c.state (label_of h a) scope_key)
      → IsTrue (knows h (resolved c.state c.entries (label_of h a) scope_key)
      (content h a (internal slots.Scope)))
  slot_known a there filled =
      own-knows e h c read a (internal slots.Scope) scope_key (same_key-self scope_key) there filled

  by_slot : (a : Addr) (o : Object) → object_at h a ≡ Some o → IsTrue (set (label_of h a))
      → IsFilled c.entries (demands_of c.state (label_of h a) scope_key) → (r : Option Addr)
      → o.slots.scope ≡ r → IsSome r → IsTrue (has_value h chains
      (value.Object (unwrap_or r (first_of global))))
  by_slot a o at has filled None is scoped = absurd (false≢true scoped)
  by_slot a o at has filled (Some b) is scoped =
      let there : IsObjectOf h a = subst (λ z. IsSome z) (sym at) refl in
      let label : IsTrue ((slot c (label_of h a) scope_key).label (label_of h b)) =
      subst (λ u. IsTrue (knows h (resolved c.state c.entries (label_of h a) scope_key) u))
      (Contents.content-at h a o (internal slots.Scope) at ∙ ap held_address is)
      (slot_known a there filled) in
      some-object (λ l. set l && (slot c l scope_key).label (label_of h b)) a there
      (and_from _ _ has label)

  -- the chain of a callee, which has one, is in what the state gives
  pub chain-has : (a : Addr) (o : Object) → object_at h a ≡ Some o → IsSome o.slots.scope
      → IsTrue (set (label_of h a)) → IsFilled c.entries (demands_of_chain c n f)
      → IsTrue (has_value h chains (value.Object (chain_of h (Some a))))
  chain-has a o at scoped has filled =
      let there : IsObjectOf h a = subst (λ z. IsSome z) (sym at) refl in
      let here : IsFilled c.entries (demands_of c.state (label_of h a) scope_key) =
      λ m j k. filled m j (some-object (λ l. set l && demands_of c.state l scope_key m j) a
      there (and_from _ _ has k)) in
      subst (λ r. IsTrue (has_value h chains (value.Object (unwrap_or r (first_of global)))))
      (sym (ap (λ r. option_and_then (λ (q : Object). q.slots.scope) r) at))
      (by_slot a o at has here o.slots.scope refl scoped)
