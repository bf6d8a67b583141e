-- Each state of a run is as it should be; so chains end, and no run is stuck.
use Rattle.std.proofs.Common.{◌≡◌, ℕ, true, List, [], ◌∷◌, length, Some, None, Option, refl, ap, sym, ◌∙◌, subst, arith}
use Rattle.std.specs.Prelude.{IsTrue, IsSome, is_some, slice_get}
use Rattle.std.specs.List.{list_any}
use Rattle.std.specs.Option.{option_and_then, option_map, option_map_or}
use Rattle.std.proofs.lemmas.Bool.{false≢true, ltb-true}
use Rattle.std.proofs.lemmas.Option.{same_Some, option_and_then_some}
use Rattle.ja_base.specs.declared.ids.Reg.{Reg}
use Rattle.ja_base.proofs.Lists.{element_within, within_from_some}
use Rattle.ja_prim.specs.declared.primitive.Primitive.{Primitive}
use Rattle.ja_graph.specs.declared.node.Node.{Node}
use Rattle.ja_graph.specs.declared.node.Node.TheVariants as node
use Rattle.ja_graph.specs.declared.node.NodeInfo.{NodeInfo}
use Rattle.ja_graph.specs.declared.program.Function.{Function}
use Rattle.ja_graph.specs.declared.program.Program.{Program}
use Rattle.ja_graph.specs.Program.{node_at, global}
use Rattle.ja_graph.specs.WellFormed.{IsWellFormed}
use Rattle.ja_machine.specs.declared.machine.Addr.{Addr}
use Rattle.ja_machine.specs.declared.machine.Value.{Value}
use Rattle.ja_machine.specs.declared.machine.Value.TheVariants as value
use Rattle.ja_machine.specs.declared.machine.Frame.{Frame}
use Rattle.ja_machine.specs.declared.machine.Conf.{Conf}
use Rattle.ja_machine.specs.declared.machine.Answer.{Answer}
use Rattle.ja_machine.specs.declared.machine.Answer.TheVariants as answers
use Rattle.ja_machine.specs.declared.machine.Wants.TheVariants as wanted
use Rattle.ja_machine.specs.declared.machine.Event.{Event}
use Rattle.ja_machine.specs.declared.machine.Event.TheVariants as event
use Rattle.ja_machine.specs.Heap.{count}
use Rattle.ja_machine.specs.Frames.{register_of, thrown, with_result}
use Rattle.ja_machine.specs.Objects.{first_of}
use Rattle.ja_machine.specs.Events.{Standing, next_state}
use Rattle.ja_machine.specs.Calls.{returns, return_step, escape_step}
use Rattle.ja_machine.specs.Values.{is_object}
use Rattle.ja_machine.specs.Nodes.{shown, takes, pick, pick_step, device_step, node_step}
use Rattle.ja_machine.specs.Machine.{program_function, opening_heap, opening_state, pick_wanted, pick_wants, device_wants, node_wants, frames_want, wants, fits, frames_step, step, next_of, state_of}
use Rattle.ja_machine.specs.State.{IsFrame, AreFrames, enters_functions, AreWaiting, IsLowest, below_top, IsState}
use Rattle.ja_machine.specs.Runs.{AreStates, NeverStuck, ChainsEnd, HaveSteps, StepsKeepStates}
use Rattle.ja_machine.proofs.Lists.{either_way, is_some_from}
use Rattle.ja_machine.proofs.Chains.{prototypes_chained, scopes_chained}
use Rattle.ja_machine.proofs.Opening.{heap-opening, none-opening}
use Rattle.ja_machine.proofs.Nodes.{global_there}
use Rattle.ja_machine.proofs.Frames.{frame_entered}
use Rattle.ja_machine.proofs.Standing.{OnStep}
use Rattle.ja_machine.proofs.Keeping.{step_kept}

-- what an event leads to has what is kept on the way
on_event : (P : Conf → Type 0) (o : Option Event) (c : Conf) → OnStep P o
    → option_and_then next_of o ≡ Some c → P c
on_event P None c k e = absurd (false≢true (ap is_some e))
on_event P (Some (event.Next d)) c k e = subst P (same_Some d c e) k
on_event P (Some (event.End x d)) c k e = absurd (false≢true (ap is_some e))

module _ (p : Program) (good : IsWellFormed p) where
  -- ---- each state

  pub opening_kept : IsState p (opening_state p)
  opening_kept =
      let there = global_there p good (opening_heap p) (heap-opening p good) in
      record {
        heap = heap-opening p good;
        frames = (
          frame_entered p good (opening_heap p) 0 program_function (first_of global) None
              (first_of global) [] (within_from_some p.functions 0
              (is_some_from _ good.text good.text_is)) there (λ a e. absurd (cc)) there tt
              (omega arith),
          tt,
        );
        waiting = tt;
        lowest = refl;
        counts = λ s late. let none : count (opening_heap p) s ≡ 0 = none-opening p good s late in
            omega arith;
      }

  frames_kept : (c : Conf) (answer : Answer) → IsState p c → (fs : List Frame)
      → AreFrames p c.heap fs → AreWaiting p (below_top fs) → IsLowest fs
      → OnStep (IsState p) (frames_step p c answer fs)
  frames_kept c answer k [] frames waiting lowest = tt
  frames_kept c answer k (f ∷ below) frames waiting lowest = at (node_at p f.function f.node) refl
    where
      at : (r : Option NodeInfo) → node_at p f.function f.node ≡ r
          → OnStep (IsState p) (option_and_then
          (λ (info : NodeInfo). node_step p (record
          { conf = c; top = f; below = below; info = info }) answer info.node) r)
      at None e = tt
      at (Some info) e =
          step_kept p good (record { conf = c; top = f; below = below; info = info })
          (record {
            heap = k.heap;
            top = frames.0;
            below = frames.1;
            waiting = waiting;
            lowest = lowest;
            counts = k.counts;
            info_is = e;
          }) answer

  state_kept : (c : Conf) (answer : Answer) → IsState p c → OnStep (IsState p) (step p c answer)
  state_kept c answer k =
      either_way (OnStep (IsState p)) (fits p (wants p c) answer) (frames_step p c answer c.frames)
      None (λ e. frames_kept c answer k c.frames k.frames k.waiting k.lowest) (λ e. tt)

  -- a step leads to a state that is as it should be
  pub steps_keep_states : StepsKeepStates p
  steps_keep_states c d answer k e =
      let next = ap (option_and_then next_of) e in
      on_event (IsState p) (step p c answer) d (state_kept c answer k) next

  -- each state of a run is as it should be
  pub states_are_kept : AreStates p
  states_are_kept [] c e = subst (IsState p) (same_Some (opening_state p) c e) opening_kept
  states_are_kept (answer ∷ earlier) c e =
      option_and_then_some (λ (d : Conf). option_and_then next_of (step p d answer))
      (state_of p earlier) c e (λ d was next.
      on_event (IsState p) (step p d answer) c
      (state_kept d answer (states_are_kept earlier d was)) next)

  -- so prototypes and scopes are chained
  pub chains_end : ChainsEnd p
  chains_end answers c e =
      let heap = (states_are_kept answers c e).heap in
      (prototypes_chained p c.heap heap, scopes_chained p c.heap heap)

  -- ---- no run is stuck

  module _ (c : Conf) (f : Frame) (below : List Frame) (info : NodeInfo)
      (waiting : AreWaiting p below) where
    abbrev s : Standing
    s = record { conf = c; top = f; below = below; info = info }

    -- a place among names has its name
    picks : (list dst : Reg) (a : Addr) (i : ℕ) (ns : List (List ℕ)) → shown c.heap f list a ≡ ns
        → fits p (pick_wanted ns) (answers.Pick i) ≡ true
        → IsSome (pick s list dst a (answers.Pick i))
    picks list dst a i [] is fit = absurd (false≢true fit)
    picks list dst a i (n ∷ ns) is fit =
        let (name, name_is) = element_within (n ∷ ns) i (ltb-true i (length (n ∷ ns)) fit) in
        ap (λ r. is_some (option_map (takes s list dst) r))
        (ap (λ (xs : List (List ℕ)). slice_get xs i) is ∙ name_is)

    no_device : (ns : List (List ℕ)) (q : Primitive)
        → fits p (pick_wanted ns) (answers.Device q) ≡ true → ⊥
    no_device [] q fit = false≢true fit
    no_device (n ∷ ns) q fit = false≢true fit

    pick_some : (list dst : Reg) (answer : Answer) (x : Value)
        → fits p (pick_wants c.heap f list x) answer ≡ true → IsSome (pick_step s list dst answer x)
    pick_some list dst answer (value.Primitive q) fit = refl
    pick_some list dst (answers.Pick i) (value.Object a) fit =
        picks list dst a i (shown c.heap f list a) refl fit
    pick_some list dst answers.Tick (value.Object a) fit = refl
    pick_some list dst (answers.Device q) (value.Object a) fit =
        absurd (no_device (shown c.heap f list a) q fit)

    device_some : (dst : Reg) (which : ℕ) (answer : Answer)
        → fits p (device_wants f which) answer ≡ true → IsSome (device_step s dst answer)
    device_some dst which (answers.Device q) fit = refl
    device_some dst which answers.Tick fit = refl
    device_some dst which (answers.Pick i) fit =
        absurd (either_way (λ w. fits p w (answers.Pick i) ≡ true → ⊥)
        (list_any is_object f.arguments) wanted.Tick (wanted.Device which) (λ e g. false≢true g)
        (λ e g. false≢true g) fit)

    -- a caller that waits goes on
    returns_some : (caller : Frame) (fs : List Frame) (v : Value) (i : NodeInfo) (n : Node)
        → enters_functions n ≡ true → IsSome (returns s caller fs v i n)
    returns_some caller fs v i (node.Call dst callee receiver args error) e = refl
    returns_some caller fs v i (node.New dst callee args site error) e = refl
    returns_some caller fs v i (node.Convert dst src hint other) e = refl
    returns_some caller fs v i n e = absurd (false≢true e)

    return_some : (fs : List Frame) → AreWaiting p fs → (v : Value) → IsSome (return_step p s fs v)
    return_some [] all v = refl
    return_some (caller ∷ fs) all v =
        subst (λ r. IsSome (option_and_then (λ (i : NodeInfo). returns s caller fs v i i.node) r))
        (sym all.0.info_is) (returns_some caller fs v all.0.info all.0.info.node all.0.enters)

    escape_some : (fs : List Frame) → AreWaiting p fs → (v : Value) → IsSome (escape_step p s fs v)
    escape_some [] all v = refl
    escape_some (caller ∷ fs) all v =
        ap (λ r. is_some (option_map (λ (i : NodeInfo).
        next_state c c.heap (with_result caller thrown v i.handler ∷ fs)) r)) all.0.info_is

    node_some : (answer : Answer) (n : Node) → fits p (node_wants c.heap f n) answer ≡ true
        → IsSome (node_step p s answer n)
    node_some answer (node.Pick list dst object) fit =
        pick_some list dst answer (register_of f object) fit
    node_some answer (node.Device dst which) fit = device_some dst which answer fit
    node_some answer (node.Return src) fit = return_some below waiting (register_of f src)
    node_some answer node.Escape fit = escape_some below waiting (register_of f thrown)
    node_some answer n fit = refl

  -- a frame stands at a node
  stands : (c : Conf) (f : Frame) → IsFrame p c.heap f
      → (info : NodeInfo) × (node_at p f.function f.node ≡ Some info)
  stands c f k =
      let (info, info_is) = element_within k.function.nodes f.node.0 k.node_fits in (
        info,
        ap (λ o. slice_get (option_map_or (λ (fn : Function). fn.nodes) o []) f.node.0)
            k.function_is ∙ info_is,
      )

  frames_some : (c : Conf) (answer : Answer) (fs : List Frame) → AreFrames p c.heap fs
      → AreWaiting p (below_top fs) → IsLowest fs → fits p (frames_want p c.heap fs) answer ≡ true
      → IsSome (frames_step p c answer fs)
  frames_some c answer [] frames waiting lowest fit = elim lowest [ ]
  frames_some c answer (f ∷ below) frames waiting lowest fit =
      let (info, at) = stands c f frames.0 in
      let fit_node : fits p (node_wants c.heap f info.node) answer
      ≡ true = subst (λ r. fits p (option_map_or (λ (i : NodeInfo). node_wants c.heap f i.node)
      r wanted.Tick) answer ≡ true) at fit in
      subst (λ r. IsSome (option_and_then (λ (i : NodeInfo).
      node_step p (record { conf = c; top = f; below = below; info = i }) answer i.node) r))
      (sym at) (node_some c f below info waiting answer info.node fit_node)

  -- a state has a step with each answer that it wants, and with no other
  pub states_have_steps : HaveSteps p
  states_have_steps c answer k =
      let fit = fits p (wants p c) answer in
      let there : Option Event = frames_step p c answer c.frames in (
        λ h.
            either_way
            (λ r. IsSome there → IsSome r)
            fit
            there
            None
            (λ f some. some)
            (λ f some. absurd (false≢true (sym f ∙ h)))
            (frames_some c answer c.frames k.frames k.waiting k.lowest h),
        either_way
            (λ r. IsSome r → IsTrue fit)
            fit
            there
            None
            (λ f some. f)
            (λ f some. absurd (false≢true some)),
      )

  -- and so has each state of a run
  pub never_stuck : NeverStuck p
  never_stuck answers c answer e = states_have_steps c answer (states_are_kept answers c e)
