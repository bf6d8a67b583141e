-- Calls, constructions and conversions: what is asked of an entry holds of the function that each
-- enters (ES3 8.6.2.6, 10.2, 11.2.2, 11.2.3, 13.2.1, 13.2.2).
use Rattle.std.specs.Prelude.{◌≡◌, ◌<◌, ◌≤◌, ◌+◌, ◌==◌, ℕ, suc, true, false, nat_le, IsTrue, List, [], ◌∷◌, map, drop, length, Option, Some, None, Ok, Err}
use Rattle.std.specs.List.{AllByRecursion}
use Rattle.std.specs.Option.{option_map, option_to_list}
use Rattle.std.proofs.Common.{refl, sym, subst, ap, arith, le_trans}
use Rattle.std.proofs.lemmas.Bool.{false≢true, eq-eqb, and_from, cond-true}
use Rattle.std.proofs.lemmas.Option.{none-some, slice_get_within}
use Rattle.ja_base.specs.declared.ids.FnId.{FnId}
use Rattle.ja_base.specs.declared.ids.Reg.{Reg}
use Rattle.ja_base.specs.declared.ids.ScopeKind.TheVariants.{Register, TextLength}
use Rattle.ja_base.specs.declared.ids.Site.{Site}
use Rattle.ja_base.proofs.Lists.{all_weaker}
use Rattle.ja_base.proofs.Options.{some_value}
use Rattle.ja_prim.specs.Texts.{is_short}
use Rattle.ja_prim.specs.declared.primitive.Num.TheVariants.{NaN, Whole}
use Rattle.ja_prim.specs.declared.primitive.Primitive.{Primitive}
use Rattle.ja_prim.specs.declared.primitive.Primitive.TheVariants as primitive
use Rattle.ja_graph.specs.declared.builtins.TheConstants as builtins
use Rattle.ja_graph.specs.declared.node.Args.{Args}
use Rattle.ja_graph.specs.declared.node.Args.TheVariants as args
use Rattle.ja_graph.specs.declared.node.Hint.{Hint}
use Rattle.ja_graph.specs.declared.node.Node.{Node}
use Rattle.ja_graph.specs.declared.node.Node.TheVariants as node
use Rattle.ja_graph.specs.declared.node.NodeInfo.{NodeInfo}
use Rattle.ja_graph.specs.declared.program.Class.TheVariants as class
use Rattle.ja_graph.specs.declared.program.Program.{Program}
use Rattle.ja_graph.specs.Node.{argument_registers}
use Rattle.ja_graph.specs.Program.{global}
use Rattle.ja_graph.specs.WellFormed.{IsWellFormed, IsRegister, IsAllowed}
use Rattle.ja_machine.specs.declared.machine.Addr.{Addr}
use Rattle.ja_machine.specs.declared.machine.Value.{Value}
use Rattle.ja_machine.specs.declared.machine.Value.TheVariants as value
use Rattle.ja_machine.specs.declared.machine.Object.{Object}
use Rattle.ja_machine.specs.declared.machine.Heap.{Heap}
use Rattle.ja_machine.specs.declared.machine.Frame.{Frame}
use Rattle.ja_machine.specs.declared.machine.Conf.{Conf}
use Rattle.ja_machine.specs.declared.machine.Event.{Event}
use Rattle.ja_machine.specs.declared.machine.Event.TheVariants as event
use Rattle.ja_machine.specs.Calls as machine
use Rattle.ja_machine.specs.Calls.{function_called, function_constructing, receiver_of, chain_of, ArgumentsRead, max_arguments, register_values, enters, calls_with, calls, call_step, prototype_of_callee, constructs_with, constructs, new_step, stays, default_function, convert_step}
use Rattle.ja_machine.specs.Events.{Standing, next_state, left_scope, throws, throws_value, sets, not_a_function_message, not_a_constructor_message}
use Rattle.ja_machine.specs.Frames.{register_of, parameters_of, entered}
use Rattle.ja_machine.specs.Heap.{object_at, with_new, new_address}
use Rattle.ja_machine.specs.Objects.{first_of, constructed_object, error_object}
use Rattle.ja_machine.specs.State.{IsHeap, IsFrame, IsState, IsObjectOf, IsValueOf}
use Rattle.ja_machine.proofs.Growing.{IsNodeSite}
use Rattle.ja_machine.proofs.Heaps
use Rattle.ja_machine.proofs.Lists.{either_way}
use Rattle.ja_machine.proofs.Nodes.{global_there}
use Rattle.ja_machine.proofs.Reading.{callee_prototype_there}
use Rattle.ja_abstract.specs.AbstractValue.{AbstractValue, same_label}
use Rattle.ja_abstract.specs.AbstractState.{new}
use Rattle.ja_abstract.specs.Contents.{label_of}
use Rattle.ja_abstract.specs.Parts.{has_primitive}
use Rattle.ja_abstract.specs.Reading.{View}
use Rattle.ja_abstract.specs.Resolved.{IsFilled}
use Rattle.ja_abstract.specs.Values.{primitives_of, has_atoms}
use Rattle.ja_abstract.proofs.Atoms.{has_atoms-from}
use Rattle.ja_abstract.proofs.Labels.{same_label_from}
use Rattle.ja_abstract.proofs.Lists.{Member}
use Rattle.ja_meaning.specs.Meaning.{has_value, Grows, Holds}
use Rattle.ja_meaning.proofs.Held.{frame_of}
use Rattle.ja_meaning.proofs.Builtins.{global_fits}
use Rattle.ja_meaning.proofs.Contents
use Rattle.ja_meaning.proofs.Frames.{register_held}
use Rattle.ja_meaning.proofs.Moments.{Reads}
use Rattle.ja_rows.specs.Calls.{callees, calling, calling_state, demands_of_calling}
use Rattle.ja_rows.specs.Calls as rows
use Rattle.ja_rows.specs.Edges.{calls_at, constructs_at, runs, edges_to, some_runs, receivers, is_converted}
use Rattle.ja_rows.specs.Out.{Point}
use Rattle.ja_rows.specs.Out as abstract
use Rattle.ja_sound.specs.Statements.{IsAt, edge_into, IsEntered}
use Rattle.ja_sound.proofs.AtNode as nodes
use Rattle.ja_sound.proofs.Called.{member-edges, runs-called, runs-constructing, run-called, run-constructing, receiver-is}
use Rattle.ja_sound.proofs.Callables.{called_scoped, constructing_scoped}
use Rattle.ja_sound.proofs.Constructed as constructed
use Rattle.ja_sound.proofs.Elements.{elements_given, tail_given}
use Rattle.ja_sound.proofs.Entered.{AreGiven, Has, listed_given}
use Rattle.ja_sound.proofs.Into.{EntersFrom, is_entered, chain-has}
use Rattle.ja_sound.proofs.Opening.{counts_stay}
use Rattle.ja_sound.proofs.Registers.{parameters_are}
use Rattle.ja_sound.proofs.Steps as steps

module _ (e : Heap) (c : Conf) (top : Frame) (below : List Frame) (x : Point) (w : View)
    (at : IsAt w.program e c top below x w) (good : IsWellFormed w.program) where
  abbrev p : Program
  p = w.program

  abbrev i : NodeInfo
  i = x.info

  abbrev s : Standing
  s = record { conf = c; top = top; below = below; info = i }

  abbrev fr : IsFrame p c.heap top
  fr = nodes.fr e c top below x w at good

  abbrev IsReg : Reg → Type 0
  IsReg r = IsRegister fr.function r

  reads : Reads e c.heap w
  reads = steps.read_at e c top below x w at

  -- ---- what an event leads to

  -- where the run goes on in a function above, all that is asked of its entry
  abbrev pub Enters : Event → Type 0
  Enters (event.Next d) =
      IsState p d → (above : Frame) → d.frames ≡ above ∷ top ∷ below
      → IsEntered p e d top above x w
  Enters (event.End end d) = Unit {0}

  -- a step that leaves as many frames enters none
  none_entered : (h : Heap) (f : Frame) → Enters (next_state c h (f ∷ below))
  none_entered h f known above frames =
      let k : length (f ∷ below) ≡ length (above ∷ top ∷ below) = ap length frames in
      let l : length (f ∷ below) ≡ suc (length below) = refl in
      let m : length (above ∷ top ∷ below) ≡ suc (suc (length below)) = refl in
      absurd (omega arith)

  throws_enters : (error proto : Site) (text : List ℕ) → Enters (throws s error proto text)
  throws_enters error proto text =
      either_way Enters (is_short text)
      (throws_value s (with_new c.heap error (error_object proto text))
      (value.Object (new_address c.heap error))) (left_scope s TextLength)
      (λ k. none_entered _ _) (λ k. tt)

  top_same : (f g : Frame) → f ∷ top ∷ below ≡ g ∷ top ∷ below → f ≡ g
  top_same f g is = cc

  -- a function is entered with a heap
  entered_by : (h : Heap) (f : FnId) (r : Addr) (callee : Option Addr) (arguments : List Value)
      → (IsHeap p h → f.0 < length p.functions → EntersFrom e h top x w f r callee
      (chain_of h callee) arguments (c.steps + 1) i.node)
      → Enters (enters p s h f r callee arguments)
  entered_by h f r callee arguments from known above frames =
      let g : Frame = entered p (c.steps + 1) f r callee (chain_of h callee) arguments in
      let one : IsFrame p h g = known.frames.0 in
      let d : Conf = record { heap = h; frames = g ∷ top ∷ below; steps = c.steps + 1 } in
      subst (λ a. IsEntered p e d top a x w) (top_same g above frames)
      (is_entered e h top x w f r callee (chain_of h callee) arguments (c.steps + 1)
      (from known.heap (slice_get_within p.functions f.0 one.function one.function_is))
      (g ∷ top ∷ below) (c.steps + 1))

  -- ---- registers

  held : (r : Reg) → IsReg r → IsTrue (has_value c.heap (abstract.at w r) (register_of top r))
  held r l = nodes.has e c top below x w at good r l

  there : (r : Reg) → IsReg r → IsValueOf c.heap (register_of top r)
  there r l = nodes.of_heap e c top below x w at good r l

  all_held : (list : List Reg) → AllByRecursion IsReg list
      → AllByRecursion (Has c.heap w top) list
  all_held list all = all_weaker IsReg (Has c.heap w top) held list all

  registers_read : (list : List Reg) (arguments : List Value)
      → register_values top list ≡ Ok arguments → map (register_of top) list ≡ arguments
  registers_read list arguments =
      either_way (λ (r : ArgumentsRead). r ≡ Ok arguments → map (register_of top) list ≡ arguments)
      (nat_le (length list) max_arguments) (Ok (map (register_of top) list)) (Err Register)
      (λ k is. cc) (λ k is. absurd (cc))

  -- ---- built-in objects

  global_new : label_of c.heap (first_of global) ≡ new global
  global_new =
      nodes.opened e c top below x w at good c.heap at.known.heap global (global_fits p good)

  object_prototype_new : label_of c.heap (first_of builtins.OBJECT_PROTOTYPE)
      ≡ new builtins.OBJECT_PROTOTYPE
  object_prototype_new =
      let (info, info_is, class_is, fits) =
      good.builtins builtins.OBJECT_PROTOTYPE.0 class.Object refl in
      nodes.opened e c top below x w at good c.heap at.known.heap builtins.OBJECT_PROTOTYPE fits

  -- ---- Call

  module _ (dst callee receiver : Reg) (list : Args) (error : Site) where
    abbrev call : Node
    call = node.Call dst callee receiver list error

    -- the arguments that a call gives
    arguments_given : (given : Args) → AllByRecursion IsReg (argument_registers given)
        → IsAllowed p fr.function (node.Call dst callee receiver given error) → (parameters : ℕ)
        (arguments : List Value) → machine.given c.heap top given ≡ Ok arguments
        → IsFilled w.entries (rows.given_args w x.context.function parameters given).demands
        → AreGiven c.heap parameters arguments
        (rows.given_args w x.context.function parameters given)
    arguments_given (args.Registers rs) fit allowed parameters arguments is filled =
        subst (λ vs. AreGiven c.heap parameters vs (rows.listed w parameters rs))
        (registers_read rs arguments is)
        (listed_given c.heap w top parameters rs (all_held rs fit))
    arguments_given (args.Elements array) fit allowed parameters arguments is filled =
        by (register_of top array) (there array fit.0) (held array fit.0) is
      where
        by : (v : Value) → IsValueOf c.heap v → IsTrue (has_value c.heap (abstract.at w array) v)
            → machine.elements c.heap v ≡ Ok arguments
            → AreGiven c.heap parameters arguments (rows.elements w (abstract.at w array))
        by (value.Object b) of_heap told elements_are =
            elements_given e c.heap w reads good (abstract.at w array) filled b of_heap told
            parameters arguments elements_are
        by (value.Primitive q) of_heap told elements_are = absurd (cc)
    arguments_given args.Tail fit allowed parameters arguments is filled =
        let same : drop 1 top.arguments ≡ arguments = cc in
        let count_is : parameters_of p top.function ≡ length fr.function.parameters =
        parameters_are p c.heap top fr in
        let few : parameters_of p top.function ≤ 1 = omega (arith, count_is, allowed) in
        subst (λ (f : FnId). AreGiven c.heap parameters arguments (rows.tail w f))
        (sym (ap (λ (y : _). y.function) at.context))
        (subst (λ vs. AreGiven c.heap parameters vs (rows.tail w top.function)) same
        (tail_given c.heap w at.known.heap top fr (frame_of at.holds) few parameters))

    module _ (callee_fits : IsReg callee) (receiver_fits : IsReg receiver)
        (list_fits : AllByRecursion IsReg (argument_registers list))
        (allowed : IsAllowed p fr.function call) where
      call_from : (a r : Addr) (f : FnId) (arguments : List Value)
          → register_of top callee ≡ value.Object a
          → function_called p (value.Object a) ≡ Some f
          → receiver_of c.heap (register_of top receiver) ≡ Some r
          → machine.given c.heap top list ≡ Ok arguments → f.0 < length p.functions
          → EntersFrom e c.heap top x w f r (Some a) (chain_of c.heap (Some a)) arguments
          (c.steps + 1) call
      call_from a r f arguments callee_is f_is r_is arguments_are in_range =
          let of_heap : IsObjectOf c.heap a =
          subst (IsValueOf c.heap) callee_is (there callee callee_fits) in
          let told : IsTrue ((abstract.at w callee).label (label_of c.heap a)) =
          subst (λ v. IsTrue (has_value c.heap (abstract.at w callee) v)) callee_is
          (held callee callee_fits) in
          let (o, object_is) = some_value (object_at c.heap a) of_heap in
          let (r_there, r_has) =
          receiver-is w c.heap at.known.heap (global_there p good c.heap at.known.heap)
          global_new (abstract.at w receiver) (register_of top receiver) r
          (there receiver receiver_fits) (held receiver receiver_fits) r_is in
          let run : IsTrue (runs (calls_at p) f.0 (label_of c.heap a)) =
          runs-called p c.heap a f f_is in
          record {
            entry_heap = at.entry_heap;
            heap = at.known.heap;
            grows = at.grows;
            entries = at.entries;
            edge =
                member-edges w c.heap at.known.heap x (some_runs w (calls_at p)
                (abstract.at w callee)) (receivers w (abstract.at w receiver)) f.0 r in_range
                (run-called w c.heap at.known.heap (abstract.at w callee) a f of_heap told f_is)
                r_there r_has;
            calling_holds = λ filled. at.holds;
            chain_has =
                λ first filled. chain-has e c.heap w reads call f.0 a o object_is
                (called_scoped p c.heap at.known.heap a o object_is f f_is)
                (and_from _ _ told run) filled;
            callee_has = λ filled. and_from _ _ told run;
            given =
                λ first filled. arguments_given list list_fits allowed (parameters_of p f)
                arguments arguments_are filled;
          }

      module _ (node_is : i.node ≡ call) where
        with_arguments : (a : Addr) (f : FnId) → register_of top callee ≡ value.Object a
            → function_called p (value.Object a) ≡ Some f → (r : Option Addr)
            → receiver_of c.heap (register_of top receiver) ≡ r → (g : ArgumentsRead)
            → machine.given c.heap top list ≡ g → Enters (calls_with p s f (value.Object a) r g)
        with_arguments a f callee_is f_is None r_is g g_is = tt
        with_arguments a f callee_is f_is (Some r) r_is (Err kind) g_is = tt
        with_arguments a f callee_is f_is (Some r) r_is (Ok arguments) g_is =
            entered_by c.heap f r (Some a) arguments (λ known in_range.
            subst (EntersFrom e c.heap top x w f r (Some a) (chain_of c.heap (Some a)) arguments
            (c.steps + 1)) (sym node_is)
            (call_from a r f arguments callee_is f_is r_is g_is in_range))

        by_callee : (v : Value) → register_of top callee ≡ v → (o : Option FnId)
            → function_called p v ≡ o → Enters (calls p s v
            (receiver_of c.heap (register_of top receiver)) list error o)
        by_callee v v_is None o_is =
            throws_enters error builtins.TYPE_ERROR_PROTOTYPE not_a_function_message
        by_callee (value.Object a) v_is (Some f) o_is =
            with_arguments a f v_is o_is (receiver_of c.heap (register_of top receiver)) refl
            (machine.given c.heap top list) refl
        by_callee (value.Primitive q) v_is (Some f) o_is = absurd (none-some f o_is)

        pub call_enters : Enters (call_step p s (register_of top callee)
            (register_of top receiver) list error)
        call_enters =
            by_callee (register_of top callee) refl (function_called p (register_of top callee))
            refl

  -- ---- New

  module _ (dst callee : Reg) (list : List Reg) (site error : Site) (callee_fits : IsReg callee)
      (list_fits : AllByRecursion IsReg list) (site_fits : IsNodeSite p site) where
    abbrev construction : Node
    construction = node.New dst callee list site error

    row : site.0 < length c.heap.objects
    row = nodes.row e c top below x w at good site site_fits

    abbrev proto : Addr → Addr
    proto a = prototype_of_callee c.heap (Some a)

    -- the heap with the object that is made
    abbrev now : Addr → Heap
    now a = with_new c.heap site (constructed_object (proto a))

    abbrev this : Addr
    this = new_address c.heap site

    -- the calling state has each value of a register
    module _ (a : Addr) (f : FnId) (holds : Holds p e (now a) top
        (calling_state w construction f.0)) where
      abbrev v : View
      v = calling w construction f.0

      held_now : (r : Reg) → IsReg r → IsTrue
          (has_value (now a) (abstract.at v r) (register_of top r))
      held_now r l =
          holds.registers r.0 (register_of top r)
          (register_held top r (nodes.fits e c top below x w at good r l))

      listed_now : (arguments : List Value) → register_values top list ≡ Ok arguments
          → AreGiven (now a) (parameters_of p f) arguments
          (rows.listed v (parameters_of p f) list)
      listed_now arguments is =
          subst (λ vs. AreGiven (now a) (parameters_of p f) vs
          (rows.listed v (parameters_of p f) list)) (registers_read list arguments is)
          (listed_given (now a) v top (parameters_of p f) list
          (all_weaker IsReg (Has (now a) v top) held_now list list_fits))

      callee_now : register_of top callee ≡ value.Object a
          → function_constructing p (value.Object a) ≡ Some f
          → IsTrue (callees p (calling_state w construction f.0) construction f.0
          (label_of (now a) a))
      callee_now callee_is f_is =
          and_from _ _ (subst (λ u. IsTrue (has_value (now a) (abstract.at v callee) u)) callee_is
          (held_now callee callee_fits)) (runs-constructing p (now a) a f f_is)

    construction_from : (a : Addr) (f : FnId) (arguments : List Value)
        → register_of top callee ≡ value.Object a
        → function_constructing p (value.Object a) ≡ Some f
        → register_values top list ≡ Ok arguments → IsHeap p (now a) → f.0 < length p.functions
        → EntersFrom e (now a) top x w f this (Some a) (chain_of (now a) (Some a)) arguments
        (c.steps + 1) construction
    construction_from a f arguments callee_is f_is arguments_are known in_range =
        let of_heap : IsObjectOf c.heap a =
        subst (IsValueOf c.heap) callee_is (there callee callee_fits) in
        let told : IsTrue ((abstract.at w callee).label (label_of c.heap a)) =
        subst (λ v. IsTrue (has_value c.heap (abstract.at w callee) v)) callee_is
        (held callee callee_fits) in
        let run : IsTrue (runs (constructs_at p) f.0 (label_of c.heap a)) =
        runs-constructing p c.heap a f f_is in
        let made : Object = constructed_object (proto a) in
        let grown : Grows e (now a) = λ t. le_trans (at.grows t)
        (counts_stay c.heap (now a) (Heaps.grows-with_new c.heap site made row) t
        (Rattle.ja_machine.specs.Heap.count c.heap t) refl) in
        let (o, object_is) = some_value (object_at (now a) a)
        (Heaps.grows-with_new c.heap site made row a of_heap) in
        let holds : IsFilled w.entries (demands_of_calling w construction f.0)
        → Holds p e (now a) top (calling_state w construction f.0) = λ filled.
        constructed.calling_holds e c top below x w at (object_prototype_new) dst callee list site
        error f.0 row a of_heap (and_from _ _ told run)
        (callee_prototype_there p c.heap at.known.heap good (Some a)) filled in
        record {
          entry_heap = at.entry_heap;
          heap = known;
          grows = grown;
          entries = at.entries;
          edge =
              member-edges w (now a) known x (some_runs w (constructs_at p)
              (abstract.at w callee)) (same_label (new site)) f.0 this in_range
              (run-constructing w c.heap at.known.heap (abstract.at w callee) a f of_heap told f_is)
              (Heaps.new_there c.heap site made row) (same_label_from (new site)
              (label_of (now a) this) (sym (Contents.label-with_new_new c.heap site made row)));
          calling_holds = holds;
          chain_has =
              λ first filled. chain-has e (now a) (v a f (holds first)) (record {
                heap_at_entry = at.entry_heap;
                heap_now = known;
                grows = grown;
                holds = (holds first).heap;
                entries = at.entries;
              }) construction f.0 a o object_is
              (constructing_scoped p (now a) known a o object_is f f_is)
              (callee_now a f (holds first) callee_is f_is) filled;
          callee_has = λ filled. callee_now a f (holds filled) callee_is f_is;
          given = λ first filled. listed_now a f (holds first) arguments arguments_are;
        }

    module _ (node_is : i.node ≡ construction) where
      with_values : (a : Addr) (f : FnId) → register_of top callee ≡ value.Object a
          → function_constructing p (value.Object a) ≡ Some f → (g : ArgumentsRead)
          → register_values top list ≡ g → Enters (constructs_with p s f (value.Object a) site g)
      with_values a f callee_is f_is (Err kind) g_is = tt
      with_values a f callee_is f_is (Ok arguments) g_is =
          entered_by (now a) f this (Some a) arguments (λ known in_range.
          subst (EntersFrom e (now a) top x w f this (Some a) (chain_of (now a) (Some a)) arguments
          (c.steps + 1)) (sym node_is)
          (construction_from a f arguments callee_is f_is g_is known in_range))

      by_constructor : (v : Value) → register_of top callee ≡ v → (o : Option FnId)
          → function_constructing p v ≡ o → Enters (constructs p s v list site error o)
      by_constructor v v_is None o_is =
          throws_enters error builtins.TYPE_ERROR_PROTOTYPE not_a_constructor_message
      by_constructor (value.Object a) v_is (Some f) o_is =
          with_values a f v_is o_is (register_values top list) refl
      by_constructor (value.Primitive q) v_is (Some f) o_is = absurd (none-some f o_is)

      pub new_enters : Enters (new_step p s (register_of top callee) list site error)
      new_enters =
          by_constructor (register_of top callee) refl
          (function_constructing p (register_of top callee)) refl

  -- ---- Convert

  module _ (dst src : Reg) (kind : Hint) (other : Option Reg) (src_fits : IsReg src)
      (other_fits : AllByRecursion IsReg (option_to_list other)) where
    abbrev conversion : Node
    conversion = node.Convert dst src kind other

    abbrev f : FnId
    f = default_function p kind

    -- the primitives beside which an object is converted: all but undefined and null
    abbrev something : AbstractValue → AbstractValue
    something u =
        let v : AbstractValue = primitives_of u in
        record v { flags = record v.flags { undefined = false; null = false } }

    something_has : (u : AbstractValue) (q : Primitive) → IsTrue (has_primitive u q)
        → stays (Some (value.Primitive q)) ≡ false → IsTrue (has_primitive (something u) q)
    something_has u primitive.Undefined told is = absurd (false≢true (sym is))
    something_has u primitive.Null told is = absurd (false≢true (sym is))
    something_has u (primitive.Bool true) told is = told
    something_has u (primitive.Bool false) told is = told
    something_has u (primitive.Number NaN) told is = told
    something_has u (primitive.Number (Whole z)) told is = told
    something_has u (primitive.Text t) told is = told

    -- what no operand keeps is converted
    goes_on : (u : AbstractValue) (y : Value) → IsTrue (has_value c.heap u y)
        → stays (Some y) ≡ false → IsTrue (has_atoms (something u))
    goes_on u (value.Object a) told is = absurd (false≢true (sym is))
    goes_on u (value.Primitive q) told is =
        has_atoms-from (something u) q (something_has u q told is)

    is_converted_by : (o : Option Reg) → AllByRecursion IsReg (option_to_list o)
        → stays (option_map (register_of top) o) ≡ false → IsTrue (is_converted w o)
    is_converted_by None fit is = refl
    is_converted_by (Some r) fit is =
        goes_on (abstract.at w r) (register_of top r) (held r fit.0) is

    conversion_from : (a : Addr) → register_of top src ≡ value.Object a
        → stays (option_map (register_of top) other) ≡ false → f.0 < length p.functions
        → EntersFrom e c.heap top x w f a None (chain_of c.heap None) [] (c.steps + 1) conversion
    conversion_from a src_is goes in_range =
        let of_heap : IsObjectOf c.heap a =
        subst (IsValueOf c.heap) src_is (there src src_fits) in
        let told : IsTrue ((abstract.at w src).label (label_of c.heap a)) =
        subst (λ v. IsTrue (has_value c.heap (abstract.at w src) v)) src_is (held src src_fits) in
        record {
          entry_heap = at.entry_heap;
          heap = at.known.heap;
          grows = at.grows;
          entries = at.entries;
          edge =
              subst (Member (edge_into x c.heap (entered p (c.steps + 1) f a None
              (chain_of c.heap None) [])))
              (sym (cond-true (is_converted w other) (edges_to w x (λ g. g == f.0)
              (abstract.at w src).label) [] (is_converted_by other other_fits goes)))
              (member-edges w c.heap at.known.heap x (λ g. g == f.0) (abstract.at w src).label f.0
              a in_range (eq-eqb f.0 f.0 refl) of_heap told);
          calling_holds = λ filled. at.holds;
          chain_has =
              λ first filled. same_label_from (new global) (label_of c.heap (first_of global))
              (sym global_new);
          callee_has = λ filled. refl;
          given = λ first filled. listed_given c.heap w top (parameters_of p f) [] tt;
        }

    module _ (node_is : i.node ≡ conversion) where
      by_value : (v : Value) → register_of top src ≡ v
          → Enters (convert_step p s dst kind (option_map (register_of top) other) v)
      by_value (value.Primitive q) v_is = none_entered _ _
      by_value (value.Object a) v_is =
          either_way Enters (stays (option_map (register_of top) other))
          (sets s dst (value.Object a)) (enters p s c.heap f a None [])
          (λ k. none_entered _ _)
          (λ k. entered_by c.heap f a None [] (λ known in_range.
          subst (EntersFrom e c.heap top x w f a None (chain_of c.heap None) [] (c.steps + 1))
          (sym node_is) (conversion_from a v_is k in_range)))

      pub convert_enters : Enters (convert_step p s dst kind (option_map (register_of top) other)
          (register_of top src))
      convert_enters = by_value (register_of top src) refl
