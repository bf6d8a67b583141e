-- A function that is left gives back a state that holds of its caller's frame.
use Rattle.std.specs.Prelude.{◌≡◌, ◌<◌, ◌⊎◌, ℕ, suc, IsTrue, List, [], ◌∷◌, length, Option, Some}
use Rattle.std.specs.Option.{option_and_then, option_map}
use Rattle.std.proofs.Common.{refl, sym, subst, ap, ◌∙◌, inl, inr, arith}
use Rattle.std.proofs.lemmas.Bool.{cond-true}
use Rattle.std.proofs.lemmas.Option.{none-some, same_Some}
use Rattle.ja_base.specs.declared.ids.NodeId.{NodeId}
use Rattle.ja_base.specs.declared.ids.Reg.{Reg}
use Rattle.ja_graph.specs.declared.node.Node.{Node}
use Rattle.ja_graph.specs.declared.node.Node.TheVariants as node
use Rattle.ja_graph.specs.declared.node.NodeInfo.{NodeInfo}
use Rattle.ja_graph.specs.declared.program.Program.{Program}
use Rattle.ja_graph.specs.Program.{node_at}
use Rattle.ja_machine.specs.declared.machine.Value.{Value}
use Rattle.ja_machine.specs.declared.machine.Value.TheVariants as value
use Rattle.ja_machine.specs.declared.machine.Heap.{Heap}
use Rattle.ja_machine.specs.declared.machine.Frame.{Frame}
use Rattle.ja_machine.specs.declared.machine.Conf.{Conf}
use Rattle.ja_machine.specs.declared.machine.Answer.{Answer}
use Rattle.ja_machine.specs.declared.machine.Event.{Event}
use Rattle.ja_machine.specs.declared.machine.Event.TheVariants as event
use Rattle.ja_machine.specs.Events.{Standing, next_state}
use Rattle.ja_machine.specs.Frames.{parameters_of, register_of, thrown, with_result}
use Rattle.ja_machine.specs.Calls.{constructed, returns, return_step, escape_step}
use Rattle.ja_machine.specs.Machine.{step}
use Rattle.ja_machine.specs.State.{IsFrame, IsValueOf, AreFrames}
use Rattle.ja_machine.specs.Runs.{AreSteps, ReturnsTo}
use Rattle.ja_machine.specs.Nodes.{node_step}
use Rattle.ja_abstract.specs.AbstractValue.{AbstractValue, of_label, of_labels, is_present, no_value}
use Rattle.ja_abstract.specs.AbstractState.{AbstractState, labels_of, with_register}
use Rattle.ja_abstract.specs.Contents.{label_of}
use Rattle.ja_abstract.specs.Reading.{View, has_present}
use Rattle.ja_abstract.specs.Made.{rest_register}
use Rattle.ja_abstract.specs.Values.{has_atoms, value_if}
use Rattle.ja_abstract.specs.Composed.{composed, renamed_value}
use Rattle.ja_abstract.proofs.Labels.{same_label-self}
use Rattle.ja_abstract.proofs.Lists.{Member}
use Rattle.ja_abstract.proofs.Atoms.{has_atoms-from}
use Rattle.ja_meaning.specs.Meaning.{has_value, Holds}
use Rattle.ja_meaning.proofs.Held.{HoldsOfAll, all_of, frame_of, holding}
use Rattle.ja_meaning.proofs.Parts.{is_present-has_value}
use Rattle.ja_meaning.proofs.Values.{has_value-join_left, has_value-join_right}
use Rattle.ja_meaning.proofs.Frames.{register_of_heap, register_held}
use Rattle.ja_meaning.proofs.Resolved.{IsAged}
use Rattle.ja_meaning.proofs.Composed.{has-renamed, composed_holds}
use Rattle.ja_rows.specs.declared.table.Edge.{Edge}
use Rattle.ja_rows.specs.Out.{Point, Given, sets_in}
use Rattle.ja_rows.specs.Calls as calls
use Rattle.ja_rows.specs.Calls.{calling_state, given_back, returned}
use Rattle.ja_sound.specs.Statements.{IsAt, IsGiven, edge_into, IsCalling}
use Rattle.ja_sound.proofs.Taken.{node_taken}
use Rattle.ja_sound.proofs.Registers.{IsDestinationOf, frame_with_result}

-- a state that a register is set in is given, where the value has a part
pub member-sets : (w : View) (a : AbstractState) (dst : Reg) (v : AbstractValue) (next : NodeId)
    → IsTrue (has_present w v) → Member {X = ℕ × AbstractState} (next.0, with_register a dst v)
    (sets_in w a dst v next)
member-sets w a dst v next e =
    let x : ℕ × AbstractState = (next.0, with_register a dst v) in
    subst (Member x) (sym (cond-true (has_present w v) (x ∷ []) [] e)) (inl refl)

-- ---- the registers that a node sets

abbrev pub Sets : Node → Reg → Type 0
Sets (node.Call dst callee receiver args error) r = dst ≡ r
Sets (node.New dst callee args site error) r = dst ≡ r
Sets (node.Convert dst src hint other) r = dst ≡ r
Sets n r = ⊥

abbrev pub DestinationsFit : Program → Type 0
DestinationsFit p =
    (h : Heap) (f : Frame) (i : NodeInfo) (r : Reg) → IsFrame p h f
    → node_at p f.function f.node ≡ Some i → Sets i.node r ⊎ (r ≡ thrown) → IsDestinationOf p f r

module _ (p : Program) (fit : DestinationsFit p) (e m : Heap) (c d : Conf)
    (top caller moved : Frame) (below : List Frame) (x y : Point) (w exit : View)
    (calling : IsCalling p e m caller top x w) (at : IsAt p m c top (caller ∷ below) y exit) where
  abbrev cs : AbstractState
  cs = calling_state w x.info.node top.function.0

  abbrev back : AbstractState
  back = composed w.program cs exit.state

  frames_known : AreFrames p c.heap (top ∷ caller ∷ below)
  frames_known = subst (AreFrames p c.heap) at.frames_are at.known.frames

  aged : IsAged m c.heap exit.state.mask
  aged = record { grows = at.grows; some = at.holds.heap.some; none = at.holds.heap.none }

  -- the composed state holds of the caller as it stands
  back_holds : Holds p e c.heap caller back
  back_holds =
      holding
      (subst (λ q. HoldsOfAll p e c.heap (composed q cs exit.state)) (sym calling.program)
      (composed_holds p e m c.heap calling.heap calling.grows at.grows cs exit.state
      (all_of calling.holds.heap) (all_of at.holds.heap)))
      (record {
        registers =
            λ r v is. has-renamed m c.heap exit.state aged (cs.register r) v
            (calling.frame.values r v is) (calling.holds.registers r v is);
        rest =
            λ i v more is. has-renamed m c.heap exit.state aged
            (cs.register (rest_register (parameters_of p caller.function))) v
            (calling.frame.arguments i v is) (calling.holds.rest i v more is);
      })

  -- .. and with a result of it
  given_with : (given : Given) (dst : Reg) (v : Value) (u : AbstractValue) (next : NodeId)
      → IsDestinationOf p caller dst → IsValueOf c.heap v → IsTrue (has_value c.heap u v)
      → ((among : IsTrue (has_present w u)) → Member {X = ℕ × AbstractState}
      (next.0, with_register back dst u) given) → (n : ℕ)
      → IsGiven p e below given (record {
        heap = c.heap;
        frames =
            with_result caller dst v next ∷ below;
        steps = n;
      })
  given_with given dst v u next dest there has among n = record {
    top = with_result caller dst v next;
    frames_are = refl;
    state = with_register back dst u;
    among =
        among (subst (λ q. IsTrue (is_present (labels_of q) u)) (sym calling.program)
        (is_present-has_value p c.heap at.known.heap u v there has));
    holds =
        holding (all_of back_holds.heap)
        (frame_with_result p c.heap caller back dst v u next dest has (frame_of back_holds));
  }

  -- ---- what a construction gives

  abbrev this : AbstractValue
  this = renamed_value exit.state.mask (of_label (label_of m top.receiver))

  this_has : IsTrue (has_value c.heap this (value.Object top.receiver))
  this_has =
      has-renamed m c.heap exit.state aged (of_label (label_of m top.receiver))
      (value.Object top.receiver) calling.receiver (same_label-self (label_of m top.receiver))

  constructed_has : (v : Value) (u : AbstractValue) → IsTrue (has_value c.heap u v)
      → IsTrue (has_value c.heap (calls.constructed this u) (constructed top.receiver v))
  constructed_has (value.Object a) u has =
      has_value-join_right c.heap (value_if (has_atoms u) this) (of_labels u.label)
      (value.Object a) has
  constructed_has (value.Primitive q) u has =
      has_value-join_left c.heap (value_if (has_atoms u) this) (of_labels u.label)
      (value.Object top.receiver) (subst (λ z. IsTrue
      (has_value c.heap z (value.Object top.receiver)))
      (sym (cond-true (has_atoms u) this no_value (has_atoms-from u q has))) this_has)

  constructed_there : (v : Value) → IsValueOf c.heap v
      → IsValueOf c.heap (constructed top.receiver v)
  constructed_there (value.Object a) there = there
  constructed_there (value.Primitive q) there = frames_known.0.receiver

  abbrev s : Standing
  s = record { conf = c; top = top; below = caller ∷ below; info = y.info }

  abbrev Gives : Given → Option Event → Type 0
  Gives given o = o ≡ Some (event.Next d) → IsGiven p e below given d

  -- the state that a step leads to
  gives : (given : Given) (f : Frame) (n : ℕ) → IsGiven p e below given
      (record { heap = c.heap; frames = f ∷ below; steps = n })
      → Some (event.Next (record { heap = c.heap; frames = f ∷ below; steps = n }))
      ≡ Some (event.Next d) → IsGiven p e below given d
  gives given f n g is =
      subst (IsGiven p e below given) (next_same
      (record { heap = c.heap; frames = f ∷ below; steps = n }) d is) g
    where
      next_same : (a b : Conf) → Some (event.Next a) ≡ Some (event.Next b) → a ≡ b
      next_same a b q = cc

  -- ---- a Return

  return_at : (v : Value) (u : AbstractValue) → IsValueOf c.heap v → IsTrue (has_value c.heap u v)
      → (i : NodeInfo) (n : Node) → x.info ≡ i → i.node ≡ n
      → Gives (returned w back i n this u) (returns s caller below v i n)
  return_at v u there has i (node.Call dst callee receiver args error) is at_node step =
      gives _ _ _ (given_with _ dst v u i.next (fit m caller i dst calling.frame
      (calling.info ∙ ap Some is) (inl (subst (λ k. Sets k dst) (sym at_node) refl))) there has
      (member-sets w back dst u i.next) _) step
  return_at v u there has i (node.New dst callee args site error) is at_node step =
      gives _ _ _ (given_with _ dst (constructed top.receiver v) (calls.constructed this u) i.next
      (fit m caller i dst calling.frame (calling.info ∙ ap Some is)
      (inl (subst (λ k. Sets k dst) (sym at_node) refl))) (constructed_there v there)
      (constructed_has v u has) (member-sets w back dst (calls.constructed this u) i.next) _) step
  return_at v u there has i (node.Convert dst src kind other) is at_node step =
      gives _ _ _ (given_with _ dst v u i.next (fit m caller i dst calling.frame
      (calling.info ∙ ap Some is) (inl (subst (λ k. Sets k dst) (sym at_node) refl))) there has
      (member-sets w back dst u i.next) _) step
  return_at v u there has i n is at_node step = absurd (none-some (event.Next d) step)

  abbrev edge : Edge
  edge = edge_into x m top

  return_by : (v : Value) (u : AbstractValue) → IsValueOf c.heap v → IsTrue (has_value c.heap u v)
      → Gives (returned w back x.info x.info.node this u) (return_step p s (caller ∷ below) v)
  return_by v u there has step =
      return_at v u there has x.info x.info.node refl refl
      (subst (λ o. option_and_then (λ (i : NodeInfo). returns s caller below v i i.node) o
      ≡ Some (event.Next d)) calling.info step)

  -- ---- an Escape

  escape_by : (v : Value) (u : AbstractValue) → IsValueOf c.heap v → IsTrue (has_value c.heap u v)
      → Gives (sets_in w back thrown u x.info.handler) (escape_step p s (caller ∷ below) v)
  escape_by v u there has step =
      gives _ _ _ (given_with _ thrown v u x.info.handler
      (fit m caller x.info thrown calling.frame calling.info (inr refl)) there has
      (member-sets w back thrown u x.info.handler) _)
      (subst (λ o. option_map (λ (i : NodeInfo). next_state s.conf s.conf.heap
      (with_result caller thrown v i.handler ∷ below)) o ≡ Some (event.Next d)) calling.info step)

  module _ (registers_fit : (r : Reg) → y.info.node ≡ node.Return r ⊎ (r ≡ thrown)
      → r.0 < length top.registers) (steps : AreSteps p) (answer : Answer)
      (next : step p c answer ≡ Some (event.Next d)) (after : d.frames ≡ moved ∷ below) where
    held : (r : Reg) → r.0 < length top.registers
        → IsTrue (has_value c.heap (exit.state.register r.0) (register_of top r))
    held r l = at.holds.registers r.0 (register_of top r) (register_held top r l)

    there_is : (r : Reg) → r.0 < length top.registers → IsValueOf c.heap (register_of top r)
    there_is r l = register_of_heap p c.heap top r frames_known.0 l

    top_of : (f : Frame) (fs : List Frame) → c.frames ≡ f ∷ fs → (top ≡ f) × (caller ∷ below ≡ fs)
    top_of f fs is = let k : top ∷ caller ∷ below ≡ f ∷ fs = sym at.frames_are ∙ is in (cc, cc)

    info_of : (f : Frame) (fs : List Frame) (i : NodeInfo) → c.frames ≡ f ∷ fs
        → node_at p f.function f.node ≡ Some i → i ≡ y.info
    info_of f fs i is at_node =
        same_Some i y.info (sym at_node ∙ (ap (λ (g : Frame). node_at p g.function g.node)
        (sym (top_of f fs is).0) ∙ at.info))

    short : (fs : List Frame) → d.frames ≡ fs → length fs ≡ suc (length below)
    short fs is = sym (ap length is) ∙ ap length after

    left : (n : Node) → y.info.node ≡ n → (caller_info : NodeInfo) × (k : NodeId)
        × ReturnsTo n caller_info k
    left n is =
        let (more, rest) = steps c answer (event.Next d) next in
        elim rest [
          | inl g ↦
              let u : length (g.moved ∷ g.below) ≡ suc (length below) = short
              (g.moved ∷ g.below) g.after_is in let v : suc (length below)
              ≡ length g.below = ap length (top_of g.top g.below g.before_is).1 in
              let z : length (g.moved ∷ g.below) ≡ suc (length g.below) = refl in
              absurd (omega arith)
          | inr other ↦ elim other [
            | inl g ↦
                let u : length (g.entered ∷ g.top ∷ g.below)
                ≡ suc (length below) = short (g.entered ∷ g.top ∷ g.below) g.after_is in
                let v : suc (length below) ≡ length g.below = ap length
                (top_of g.top g.below g.before_is).1 in let z : length (g.entered ∷ g.top ∷ g.below)
                ≡ suc (suc (length g.below)) = refl in absurd (omega arith)
            | inr g ↦ (
              g.caller_info,
              g.moved.node,
              subst (λ (k : Node). ReturnsTo k g.caller_info
                  g.moved.node) (ap (λ (i : NodeInfo). i.node)
                  (info_of g.top (g.caller ∷ g.below) g.info g.before_is g.info_is) ∙ is) g.edge,
            )
          ]
        ]

    by_node : (n : Node) → y.info.node ≡ n → node_step p s answer n ≡ Some (event.Next d)
        → IsGiven p e below (given_back w edge x.info exit.state n) d
    by_node (node.Return src) is taken =
        let l = registers_fit src (inl is) in return_by (register_of top src)
        (exit.state.register src.0) (there_is src l) (held src l) taken
    by_node node.Escape is taken =
        let l = registers_fit thrown (inr refl) in
        escape_by (register_of top thrown) (exit.state.register thrown.0) (there_is thrown l)
        (held thrown l) taken
    by_node n is taken = elim (left n is).2 [ ]

    -- what is left gives back one of the states, which holds of the caller
    pub given_after : IsGiven p e below (given_back w edge x.info exit.state y.info.node) d
    given_after =
        by_node y.info.node refl (node_taken p c top (caller ∷ below) y.info at.frames_are at.info
        answer (event.Next d) next)
