-- A step that goes on, throws, enters a function or leaves one gives a state that is as it should
-- be, where it leaves the heap and sets values of it.
use Rattle.std.proofs.Common.{◌≡◌, ◌+◌, ◌<◌, ◌≤◌, ℕ, true, List, [], ◌∷◌, length, Some, None, Option, inl, inr, refl, ap, sym, ◌∙◌, subst, arith}
use Rattle.std.specs.Prelude.{slice_get}
use Rattle.std.specs.List.{AllByRecursion}
use Rattle.std.specs.Option.{option_and_then, option_map, option_map_or, option_to_list}
use Rattle.ja_base.specs.declared.ids.FnId.{FnId}
use Rattle.ja_base.specs.declared.ids.NodeId.{NodeId}
use Rattle.ja_base.specs.declared.ids.Reg.{Reg}
use Rattle.ja_base.specs.declared.ids.ScopeKind.TheVariants as scope_kind
use Rattle.ja_base.specs.declared.ids.Site.{Site}
use Rattle.ja_graph.specs.declared.node.ErrorKind.{ErrorKind}
use Rattle.ja_graph.specs.declared.node.Node.{Node}
use Rattle.ja_graph.specs.declared.node.Node.TheVariants as node
use Rattle.ja_graph.specs.declared.node.NodeInfo.{NodeInfo}
use Rattle.ja_graph.specs.declared.program.Class.TheVariants as class
use Rattle.ja_graph.specs.declared.program.Function.{Function}
use Rattle.ja_graph.specs.declared.program.Program.{Program}
use Rattle.ja_graph.specs.Node.{making, makings, makes_arguments, register_set}
use Rattle.ja_graph.specs.Program.{node_at}
use Rattle.ja_graph.specs.WellFormed.{IsWellFormed, IsFunctionWellFormed, IsNodeWellFormed, IsFunction, IsRegister, IsDestination, fixed_registers}
use Rattle.ja_prim.specs.Texts.{is_short}
use Rattle.ja_machine.specs.declared.machine.Addr.{Addr}
use Rattle.ja_machine.specs.declared.machine.Value.{Value}
use Rattle.ja_machine.specs.declared.machine.Value.TheVariants as value
use Rattle.ja_machine.specs.declared.machine.Heap.{Heap}
use Rattle.ja_machine.specs.declared.machine.Remaining.{Remaining}
use Rattle.ja_machine.specs.declared.machine.Frame.{Frame}
use Rattle.ja_machine.specs.declared.machine.Conf.{Conf}
use Rattle.ja_machine.specs.declared.machine.Event.{Event}
use Rattle.ja_machine.specs.declared.machine.Event.TheVariants as event
use Rattle.ja_machine.specs.Heap.{count, with_new, new_address}
use Rattle.ja_machine.specs.Frames.{register_of, thrown, scope, with_result, with_register}
use Rattle.ja_machine.specs.Objects.{error_object, prototype_of_error}
use Rattle.ja_machine.specs.Events.{Standing, next_state, goes_on, sets_in, sets, left_scope, throws_value, throws}
use Rattle.ja_machine.specs.Calls.{max_arguments, chain_of, enters, constructed, returns, return_step, escape_step}
use Rattle.ja_machine.specs.Nodes.{enters_scope}
use Rattle.ja_machine.specs.State.{IsObjectOf, IsValueOf, IsHeap, IsFrame, AreFrames, enters_functions, AreWaiting, IsWaiting, IsLowest, IsState}
use Rattle.ja_machine.proofs.Lists.{either_way}
use Rattle.ja_machine.proofs.Heaps.{new_there}
use Rattle.ja_machine.proofs.Distinct.{distinct-one}
use Rattle.ja_machine.proofs.Growing.{IsKept, IsFitting, kept_same, kept-with_new, linked_of, row}
use Rattle.ja_machine.proofs.Nodes.{IsMade, AreMade, node_makings, error_prototype_there}
use Rattle.ja_machine.proofs.Made.{fitting}
use Rattle.ja_machine.proofs.Frames.{register_value, frame_moved, frame_set, frame_grows, frames_grow, frame_entered}
use Rattle.ja_machine.proofs.Reading.{chain_there}

-- the state that an event leads to, if the run goes on
abbrev pub OnNext : (Conf → Type 0) → Event → Type 0
OnNext P (event.Next c) = P c
OnNext P (event.End e c) = Unit {0}

-- .. that a step leads to
abbrev pub OnStep : (Conf → Type 0) → Option Event → Type 0
OnStep P None = Unit {0}
OnStep P (Some e) = OnNext P e

-- ---- a frame and its node

module _ (p : Program) (good : IsWellFormed p) (h : Heap) (f : Frame) (k : IsFrame p h f) where
  node_of_frame : (info : NodeInfo) → node_at p f.function f.node ≡ Some info
      → slice_get k.function.nodes f.node.0 ≡ Some info
  node_of_frame info e =
      sym (ap (λ o. slice_get (option_map_or (λ (fn : Function). fn.nodes) o []) f.node.0)
      k.function_is) ∙ e

  -- the function is well formed
  pub function_of_frame : IsFunctionWellFormed p k.function
  function_of_frame = good.each f.function.0 k.function k.function_is

  -- .. and so is the node
  pub node_well_formed : (info : NodeInfo) → node_at p f.function f.node ≡ Some info
      → IsNodeWellFormed p k.function info
  node_well_formed info e = function_of_frame.each f.node.0 info (node_of_frame info e)

  -- .. with its sites
  pub node_made : (info : NodeInfo) → node_at p f.function f.node ≡ Some info
      → AreMade p (λ t. makes_arguments t info.node) (makings info.node)
  node_made info e =
      node_makings p good f.function.0 k.function f.node.0 info k.function_is (node_of_frame info e)

  -- the registers `thrown` and `scope`
  pub sets_thrown : IsDestination k.function thrown
  sets_thrown =
      let l : fixed_registers k.function ≤ k.function.registers = function_of_frame.registers in
      (omega arith, inl refl)

  -- .. may be set
  pub sets_scope : IsDestination k.function scope
  sets_scope =
      let l : fixed_registers k.function ≤ k.function.registers = function_of_frame.registers in
      (omega arith, inr (inl refl))

  -- .. and `scope` is a register
  pub register_scope : IsRegister k.function scope
  register_scope = sets_scope.0

-- the lowest frame is the program's, if one of its function is
lowest_same : (f g : Frame) (fs : List Frame) → g.function ≡ f.function → IsLowest (f ∷ fs)
    → IsLowest (g ∷ fs)
lowest_same f g [] e lowest = e ∙ lowest
lowest_same f g (x ∷ fs) e lowest = lowest

-- Where a step is taken: its state is as it should be.
pub record IsAt (p : Program) (s : Standing) : Type 0 where
  pub heap : IsHeap p s.conf.heap
  pub top : IsFrame p s.conf.heap s.top
  pub below : AreFrames p s.conf.heap s.below
  pub waiting : AreWaiting p s.below
  pub lowest : IsLowest (s.top ∷ s.below)
  pub counts : (t : Site) → length p.opening ≤ t.0 → count s.conf.heap t ≤ s.conf.steps
  pub info_is : node_at p s.top.function s.top.node ≡ Some s.info

module _ (p : Program) (good : IsWellFormed p) (s : Standing) (here : IsAt p s) where
  -- an event that leads to a state that is as it should be, if to any
  abbrev pub Kept : Event → Type 0
  Kept e = OnNext (IsState p) e

  -- .. that a step gives
  abbrev pub KeptIf : Option Event → Type 0
  KeptIf o = OnStep (IsState p) o

  -- the node is well formed
  pub well_formed : IsNodeWellFormed p here.top.function s.info
  well_formed = node_well_formed p good s.conf.heap s.top here.top s.info here.info_is

  -- the heap stays as it is
  pub same : IsKept p s.conf.heap s.conf.heap
  same = kept_same p s.conf.heap here.heap

  -- the value of a register
  pub held : (r : Reg) → IsRegister here.top.function r
      → IsValueOf s.conf.heap (register_of s.top r)
  held r fits = register_value p s.conf.heap s.top here.top r fits

  -- .. of `scope`
  pub held_scope : IsValueOf s.conf.heap (register_of s.top scope)
  held_scope = held scope (register_scope p good s.conf.heap s.top here.top)

  module _ (now : Heap) (k : IsKept p s.conf.heap now) where
    counted : (t : Site) → length p.opening ≤ t.0 → count now t ≤ s.conf.steps + 1
    counted t late = let a : count s.conf.heap t ≤ s.conf.steps = here.counts t late in
        let b : count now t ≤ count s.conf.heap t + 1 = k.counts t in omega arith

    goes : (g : Frame) → IsFrame p now g → g.function ≡ s.top.function
        → Kept (next_state s.conf now (g ∷ s.below))
    goes g frame function = record {
      heap = k.heap;
      frames = (frame, frames_grow p s.conf.heap now k.grows s.below here.below);
      waiting = here.waiting;
      lowest = lowest_same s.top g s.below function here.lowest;
      counts = counted;
    }

    -- the top frame goes to a node, with other lists
    pub moves : (n : NodeId) (lists : List Remaining) → n.0 < length here.top.function.nodes
        → Kept (next_state s.conf now (record s.top { node = n; lists = lists } ∷ s.below))
    moves n lists fits =
        goes (record s.top { node = n; lists = lists })
        (frame_moved p s.conf.heap now k.grows s.top here.top n lists fits) refl

    -- .. with a register set
    pub moves_with : (dst : Reg) (v : Value) (n : NodeId) (lists : List Remaining)
        → IsDestination here.top.function dst → IsValueOf now v
        → n.0 < length here.top.function.nodes
        → Kept (next_state s.conf now (record (with_register s.top dst v)
        { node = n; lists = lists } ∷ s.below))
    moves_with dst v n lists to of_heap fits =
        goes (record (with_register s.top dst v) { node = n; lists = lists })
        (frame_set p s.conf.heap now k.grows s.top here.top dst v n lists to of_heap fits) refl

    -- to `next`
    pub goes_on_kept : Kept (goes_on s now)
    goes_on_kept = moves s.info.next s.top.lists well_formed.next

    -- .. with a register set
    pub sets_in_kept : (dst : Reg) (v : Value) → IsDestination here.top.function dst
        → IsValueOf now v → Kept (sets_in s now dst v)
    sets_in_kept dst v to of_heap =
        moves_with dst v s.info.next s.top.lists to of_heap well_formed.next

    -- .. with an object in `scope`
    pub enters_scope_kept : (a : Addr) → IsObjectOf now a → Kept (enters_scope s now a)
    enters_scope_kept a there =
        sets_in_kept scope (value.Object a) (sets_scope p good s.conf.heap s.top here.top) there

    -- to the handler, with a value in `thrown`
    pub throws_value_kept : (v : Value) → IsValueOf now v → Kept (throws_value s now v)
    throws_value_kept v of_heap =
        moves_with thrown v s.info.handler s.top.lists
        (sets_thrown p good s.conf.heap s.top here.top) of_heap well_formed.handler

    -- a function is entered
    pub enters_kept : enters_functions s.info.node ≡ true
        → (f : FnId) (receiver : Addr) (callee : Option Addr) (arguments : List Value)
        → IsFunction p f → IsObjectOf now receiver
        → ((a : Addr) → callee ≡ Some a → IsObjectOf now a)
        → AllByRecursion (IsValueOf now) arguments → length arguments ≤ max_arguments
        → Kept (enters p s now f receiver callee arguments)
    enters_kept is f receiver callee arguments fits there callee_there values few = record {
      heap = k.heap;
      frames = (
        frame_entered p good now (s.conf.steps + 1) f receiver callee (chain_of now callee)
            arguments fits there callee_there (chain_there p now k.heap good callee) values
            few,
        (
          frame_grows p s.conf.heap now k.grows s.top here.top,
          frames_grow p s.conf.heap now k.grows s.below here.below,
        ),
      );
      waiting = (record { info = s.info; info_is = here.info_is; enters = is }, here.waiting);
      lowest = here.lowest;
      counts = counted;
    }

  -- to `next` with a register set, in the heap as it is
  pub sets_kept : (dst : Reg) (v : Value) → IsDestination here.top.function dst
      → IsValueOf s.conf.heap v → Kept (sets s dst v)
  sets_kept dst v to of_heap = sets_in_kept s.conf.heap same dst v to of_heap

  -- .. without one
  pub stays_kept : Kept (goes_on s s.conf.heap)
  stays_kept = goes_on_kept s.conf.heap same

  -- to `other`
  pub other_kept : Kept (next_state s.conf s.conf.heap
      (record s.top { node = s.info.other } ∷ s.below))
  other_kept = moves s.conf.heap same s.info.other s.top.lists well_formed.other

  -- an error is made and thrown
  pub throws_kept : (error : Site) (kind : ErrorKind) (message : List ℕ)
      → IsMade p (making error class.Error) → Kept
      (throws s error (prototype_of_error kind) message)
  throws_kept error kind message made =
      let h : Heap = s.conf.heap in
      let o = error_object (prototype_of_error kind) message in
      let now : Heap = with_new h error o in
      let there = error_prototype_there p good h here.heap kind in
      let fits : IsFitting p h error o =
      fitting p h (making error class.Error) o made refl refl tt tt there tt (distinct-one _) in
      let k : IsKept p h now = kept-with_new p h error o here.heap fits (tt, tt) in
      let v : Value = value.Object (new_address h error) in
      either_way Kept (is_short message) (throws_value s now v) (left_scope s scope_kind.TextLength)
      (λ e. throws_value_kept now k v (new_there h error o
      (row p h error o (linked_of p h here.heap) fits))) (λ e. tt)

  -- ---- how a function is left

  module _ (caller : Frame) (below : List Frame) (frame : IsFrame p s.conf.heap caller)
      (frames : AreFrames p s.conf.heap below) (waiting : IsWaiting p caller)
      (further : AreWaiting p below) (lowest : IsLowest (caller ∷ below)) where
    caller_well_formed : IsNodeWellFormed p frame.function waiting.info
    caller_well_formed =
        node_well_formed p good s.conf.heap caller frame waiting.info waiting.info_is

    leaves : (dst : Reg) (v : Value) (n : NodeId) → IsDestination frame.function dst
        → IsValueOf s.conf.heap v → n.0 < length frame.function.nodes
        → Kept (next_state s.conf s.conf.heap (with_result caller dst v n ∷ below))
    leaves dst v n to of_heap fits = record {
      heap = here.heap;
      frames = (
        frame_set p s.conf.heap s.conf.heap (λ a there. there) caller frame dst v n caller.lists
            to of_heap fits,
        frames,
      );
      waiting = further;
      lowest = lowest_same caller (with_result caller dst v n) below refl lowest;
      counts = counted s.conf.heap same;
    }

    constructed_value : (v : Value) → IsValueOf s.conf.heap v
        → IsValueOf s.conf.heap (constructed s.top.receiver v)
    constructed_value (value.Object a) there = there
    constructed_value (value.Primitive q) there = here.top.receiver

    returns_kept : (v : Value) → IsValueOf s.conf.heap v → (n : Node)
        → AllByRecursion (IsDestination frame.function) (option_to_list (register_set n))
        → KeptIf (returns s caller below v waiting.info n)
    unfolding register_set
    returns_kept v of_heap (node.Call dst callee receiver args error) sets =
        leaves dst v waiting.info.next sets.0 of_heap caller_well_formed.next
    returns_kept v of_heap (node.New dst callee args site error) sets =
        leaves dst (constructed s.top.receiver v) waiting.info.next sets.0
        (constructed_value v of_heap) caller_well_formed.next
    returns_kept v of_heap (node.Convert dst src hint other) sets =
        leaves dst v waiting.info.next sets.0 of_heap caller_well_formed.next
    returns_kept v of_heap n sets = tt

    caller_returns : (v : Value) → IsValueOf s.conf.heap v
        → KeptIf (return_step p s (caller ∷ below) v)
    caller_returns v of_heap =
        subst (λ r. KeptIf (option_and_then (λ (i : NodeInfo). returns s caller below v i i.node)
        r)) (sym waiting.info_is) (returns_kept v of_heap waiting.info.node
        caller_well_formed.sets)

    caller_catches : (v : Value) → IsValueOf s.conf.heap v
        → KeptIf (escape_step p s (caller ∷ below) v)
    caller_catches v of_heap =
        subst (λ r. KeptIf (option_map (λ (i : NodeInfo).
        next_state s.conf s.conf.heap (with_result caller thrown v i.handler ∷ below)) r))
        (sym waiting.info_is) (leaves thrown v waiting.info.handler
        (sets_thrown p good s.conf.heap caller frame) of_heap caller_well_formed.handler)

  return_from : (fs : List Frame) → AreFrames p s.conf.heap fs → AreWaiting p fs
      → IsLowest (s.top ∷ fs) → (v : Value) → IsValueOf s.conf.heap v
      → KeptIf (return_step p s fs v)
  return_from [] frames waiting lowest v of_heap = tt
  return_from (caller ∷ below) frames waiting lowest v of_heap =
      caller_returns caller below frames.0 frames.1 waiting.0 waiting.1 lowest v of_heap

  escape_from : (fs : List Frame) → AreFrames p s.conf.heap fs → AreWaiting p fs
      → IsLowest (s.top ∷ fs) → (v : Value) → IsValueOf s.conf.heap v
      → KeptIf (escape_step p s fs v)
  escape_from [] frames waiting lowest v of_heap = tt
  escape_from (caller ∷ below) frames waiting lowest v of_heap =
      caller_catches caller below frames.0 frames.1 waiting.0 waiting.1 lowest v of_heap

  -- a function is left with a value
  pub return_kept : (v : Value) → IsValueOf s.conf.heap v → KeptIf (return_step p s s.below v)
  return_kept v of_heap = return_from s.below here.below here.waiting here.lowest v of_heap

  -- .. or with what was thrown
  pub escape_kept : (v : Value) → IsValueOf s.conf.heap v → KeptIf (escape_step p s s.below v)
  escape_kept v of_heap = escape_from s.below here.below here.waiting here.lowest v of_heap
