-- The frames of a state stay as they should be: in a heap that grows, with a register set, and at
-- the entry of a function.
use Rattle.std.proofs.Common.{◌≡◌, ◌≢◌, ◌⊎◌, ℕ, suc, ◌+◌, ◌-◌, ◌<◌, ◌≤◌, List, [], ◌∷◌, ◌++◌, length, map, replicate, Some, None, Option, inl, inr, refl, sym, ap, ◌∙◌, subst, arith, length-set, length-append}
use Rattle.std.specs.Prelude.{slice_get, slice_set, unwrap_or}
use Rattle.std.specs.List.{AllByRecursion, range_with_len}
use Rattle.std.specs.Option.{option_map_or}
use Rattle.std.proofs.lemmas.Bool.{cases_eq}
use Rattle.std.proofs.lemmas.List.{length-replicate}
use Rattle.std.proofs.lemmas.List.FromFn.{length-map-range_with_len}
use Rattle.std.proofs.lemmas.Option.{same_Some}
use Rattle.ja_base.specs.declared.ids.FnId.{FnId}
use Rattle.ja_base.specs.declared.ids.NodeId.{NodeId}
use Rattle.ja_base.specs.declared.ids.Reg.{Reg}
use Rattle.ja_base.proofs.Lists.{element_within, within_from_some}
use Rattle.ja_graph.specs.declared.program.Function.{Function}
use Rattle.ja_graph.specs.declared.program.Program.{Program}
use Rattle.ja_graph.specs.WellFormed.{IsWellFormed, IsFunctionWellFormed, IsRegister, IsDestination, IsFunction, fixed_registers}
use Rattle.ja_machine.specs.declared.machine.Addr.{Addr}
use Rattle.ja_machine.specs.declared.machine.Value.{Value}
use Rattle.ja_machine.specs.declared.machine.Heap.{Heap}
use Rattle.ja_machine.specs.declared.machine.Remaining.{Remaining}
use Rattle.ja_machine.specs.declared.machine.Frame.{Frame}
use Rattle.ja_machine.specs.Frames.{undefined, register_of, parameters_of, registers_of, object_or_undefined, argument, entry_registers, entered}
use Rattle.ja_machine.specs.Calls.{max_arguments}
use Rattle.ja_machine.specs.State.{IsObjectOf, IsValueOf, IsFrame, AreFrames}
use Rattle.ja_machine.proofs.Lists.{slice_get-set_same, slice_get-set_other, slice_get-append_left, slice_get-append_replicate, slice_get-map_range, is_some_from, all_at, all_append, all_map, all_of, all_replicate}
use Rattle.ja_machine.proofs.Heaps.{Grows, value_grows}

-- ---- registers

-- a register of the frame holds its value
pub register_held : (f : Frame) (r : Reg) → r.0 < length f.registers
    → slice_get f.registers r.0 ≡ Some (register_of f r)
register_held f r l = let (v, e) = element_within f.registers r.0 l in
    e ∙ ap Some (sym (ap (λ o. unwrap_or o undefined) e))

-- .. which is one of the heap
pub register_value : (p : Program) (h : Heap) (f : Frame) (k : IsFrame p h f) (r : Reg)
    → IsRegister k.function r → IsValueOf h (register_of f r)
register_value p h f k r fits =
    let e : length f.registers ≡ k.function.registers = k.registers in
    k.values r.0 (register_of f r) (register_held f r (omega arith))

-- what a register holds after a write
written_cases : (registers : List Value) (d r : ℕ) (v u : Value) → d < length registers
    → slice_get (slice_set registers d v) r ≡ Some u → (v ≡ u) ⊎ (slice_get registers r ≡ Some u)
written_cases registers d r v u l e =
    elim (cases_eq r d) [
      | inl f ↦ inl (same_Some v u (sym (slice_get-set_same registers d v l)
          ∙ (ap (slice_get (slice_set registers d v)) (sym f) ∙ e)))
      | inr f ↦ inr (sym (slice_get-set_other registers d r v f) ∙ e)
    ]

-- `this`, `callee`, `count`, the parameters and the rest of the arguments aren't set
not_set : (fn : Function) (dst : Reg) (i : ℕ) → IsDestination fn dst → i < fixed_registers fn
    → (i ≡ 0 → ⊥) → (i ≡ 2 → ⊥) → i ≢ dst.0
not_set fn dst i (fits, inl first) below not_thrown not_scope e = not_thrown (e ∙ first)
not_set fn dst i (fits, inr (inl third)) below not_thrown not_scope e = not_scope (e ∙ third)
not_set fn dst i (fits, inr (inr late)) below not_thrown not_scope e = omega arith

-- ---- a frame that goes on

module _ (p : Program) (h now : Heap) (grows : Grows h now) (f : Frame) (k : IsFrame p h f) where
  -- at another node, with other lists
  pub frame_moved : (n : NodeId) (lists : List Remaining) → n.0 < length k.function.nodes
      → IsFrame p now (record f { node = n; lists = lists })
  frame_moved n lists fits = record {
    function = k.function;
    function_is = k.function_is;
    node_fits = fits;
    registers = k.registers;
    values = λ r v e. value_grows h now grows v (k.values r v e);
    receiver = grows f.receiver k.receiver;
    callee = λ a e. grows a (k.callee a e);
    scope = grows f.scope k.scope;
    arguments = λ i v e. value_grows h now grows v (k.arguments i v e);
    few_arguments = k.few_arguments;
    this_is = k.this_is;
    callee_is = k.callee_is;
    count_is = k.count_is;
    parameters_are = k.parameters_are;
    rest_is = k.rest_is;
  }

  -- .. and with a register set
  pub frame_set : (dst : Reg) (v : Value) (n : NodeId) (lists : List Remaining)
      → IsDestination k.function dst → IsValueOf now v → n.0 < length k.function.nodes
      → IsFrame p now (record f {
        registers = slice_set f.registers dst.0 v;
        node = n;
        lists = lists;
      })
  frame_set dst v n lists to of_heap fits = record {
    function = k.function;
    function_is = k.function_is;
    node_fits = fits;
    registers = length-set f.registers dst.0 v ∙ k.registers;
    values =
        λ r u e. elim (written_cases f.registers dst.0 r v u in_frame e) [
          | inl g ↦ subst (IsValueOf now) g of_heap
          | inr g ↦ value_grows h now grows u (k.values r u g)
        ];
    receiver = grows f.receiver k.receiver;
    callee = λ a e. grows a (k.callee a e);
    scope = grows f.scope k.scope;
    arguments = λ i u e. value_grows h now grows u (k.arguments i u e);
    few_arguments = k.few_arguments;
    this_is = stays 1 (omega arith) (λ e. omega arith) (λ e. omega arith) ∙ k.this_is;
    callee_is = stays 3 (omega arith) (λ e. omega arith) (λ e. omega arith) ∙ k.callee_is;
    count_is = stays 4 (omega arith) (λ e. omega arith) (λ e. omega arith) ∙ k.count_is;
    parameters_are =
        λ i l. stays (5 + i) (omega arith) (λ e. omega arith) (λ e. omega arith)
        ∙ k.parameters_are i l;
    rest_is =
        stays (5 + length k.function.parameters) (omega arith) (λ e. omega arith) (λ e. omega arith)
        ∙ k.rest_is;
  }
    where
      in_frame : dst.0 < length f.registers
      in_frame = let e : length f.registers ≡ k.function.registers = k.registers in
          let l : dst.0 < k.function.registers = to.0 in omega arith

      stays : (i : ℕ) → i < fixed_registers k.function → (i ≡ 0 → ⊥) → (i ≡ 2 → ⊥)
          → slice_get (slice_set f.registers dst.0 v) i ≡ slice_get f.registers i
      stays i below not_thrown not_scope =
          slice_get-set_other f.registers dst.0 i v
          (not_set k.function dst i to below not_thrown not_scope)

  -- .. or as it is
  pub frame_grows : IsFrame p now f
  frame_grows = frame_moved f.node f.lists k.node_fits

-- .. and so do all frames
pub frames_grow : (p : Program) (h now : Heap) → Grows h now → (fs : List Frame) → AreFrames p h fs
    → AreFrames p now fs
frames_grow p h now grows [] all = tt
frames_grow p h now grows (f ∷ fs) all =
    (frame_grows p h now grows f all.0, frames_grow p h now grows fs all.1)

-- ---- entry

-- an argument is a value of the heap, missing ones too
pub argument_value : (h : Heap) (arguments : List Value) → AllByRecursion (IsValueOf h) arguments
    → (i : ℕ) → IsValueOf h (argument arguments i)
argument_value h arguments all i = at (slice_get arguments i) refl
  where
    at : (r : Option Value) → slice_get arguments i ≡ r → IsValueOf h (unwrap_or r undefined)
    at None e = tt
    at (Some v) e = all_at (IsValueOf h) arguments all i v e

-- .. and so is the function object, if there is one
pub callee_value : (h : Heap) (callee : Option Addr)
    → ((a : Addr) → callee ≡ Some a → IsObjectOf h a) → IsValueOf h (object_or_undefined callee)
callee_value h None there = tt
callee_value h (Some a) there = there a refl

behind_five : (u v w x y : Value) (rest : List Value) (i : ℕ)
    → slice_get (u ∷ v ∷ w ∷ x ∷ y ∷ rest) (5 + i) ≡ slice_get rest i
behind_five u v w x y rest i =
    let e : 5 + i ≡ suc (suc (suc (suc (suc i)))) = omega arith in
    ap (slice_get (u ∷ v ∷ w ∷ x ∷ y ∷ rest)) e

module _ (p : Program) (good : IsWellFormed p) (h : Heap) (steps : ℕ) (f : FnId) (receiver : Addr)
    (callee : Option Addr) (chain : Addr) (arguments : List Value) (fits : IsFunction p f)
    (receiver_there : IsObjectOf h receiver)
    (callee_there : (a : Addr) → callee ≡ Some a → IsObjectOf h a)
    (chain_there : IsObjectOf h chain) (values : AllByRecursion (IsValueOf h) arguments)
    (few : length arguments ≤ max_arguments) where
  function_at : (fn : Function) × (slice_get p.functions f.0 ≡ Some fn)
  function_at = element_within p.functions f.0 fits

  -- as many registers as the function has, and the places of those that are set
  module _ (fn : Function) (fn_is : slice_get p.functions f.0 ≡ Some fn) where
    known : IsFunctionWellFormed p fn
    known = good.each f.0 fn fn_is

    registers_are : registers_of p f ≡ fn.registers
    registers_are = ap (λ o. option_map_or (λ (g : Function). g.registers) o 0) fn_is

    parameters_are_of : parameters_of p f ≡ length fn.parameters
    parameters_are_of = ap (λ o. option_map_or (λ (g : Function). length g.parameters) o 0) fn_is

    abbrev given : List Value
    given = map (argument arguments) (range_with_len 0 (parameters_of p f))

    abbrev others : ℕ
    others = registers_of p f - 5 - parameters_of p f

    given_length : length given ≡ length fn.parameters
    given_length =
        length-map-range_with_len (argument arguments) 0 (parameters_of p f) ∙ parameters_are_of

    enough : fixed_registers fn ≤ registers_of p f
    enough = let e : registers_of p f ≡ fn.registers = registers_are in
        let l : fixed_registers fn ≤ fn.registers = known.registers in omega arith

    rest_length : length (given ++ replicate others undefined) + 5 ≡ registers_of p f
    rest_length =
        omega (
          arith,
          enough,
          parameters_are_of,
          given_length,
          length-append given (replicate others undefined),
          length-replicate others undefined,
        )

    abbrev Entry : List Value
    Entry = entry_registers (registers_of p f) (parameters_of p f) receiver callee chain arguments

    entry_length : length Entry ≡ fn.registers
    entry_length = omega (arith, rest_length, registers_are)

    entry_values : AllByRecursion (IsValueOf h) Entry
    entry_values = (
      tt,
      (
        receiver_there,
        (
          chain_there,
          (
            callee_value h callee callee_there,
            (
              tt,
              all_append (IsValueOf h) given (replicate others undefined)
                  (all_map (λ (i : ℕ). Unit {0}) (IsValueOf h) (argument arguments)
                  (λ i k. argument_value h arguments values i) (range_with_len 0 (parameters_of p f))
                  (all_of (λ (i : ℕ). Unit {0}) (λ i. tt) (range_with_len 0 (parameters_of p f))))
                  (all_replicate (IsValueOf h) others undefined tt),
            ),
          ),
        ),
      ),
    )

    parameter_at : (i : ℕ) → i < length fn.parameters
        → slice_get Entry (5 + i) ≡ Some (argument arguments i)
    parameter_at i l =
        let below : i < parameters_of p f = omega (arith, parameters_are_of) in
        let first : 0 + i ≡ i = omega arith in
        behind_five _ _ _ _ _ (given ++ replicate others undefined) i
        ∙ (slice_get-append_left given (replicate others undefined) i
        (omega (arith, given_length)) ∙ (slice_get-map_range (argument arguments) 0
        (parameters_of p f) i below ∙ ap (λ j. Some (argument arguments j)) first))

    rest_at : slice_get Entry (5 + length fn.parameters) ≡ Some undefined
    rest_at =
        let some : 0 < others = omega (arith, enough, parameters_are_of) in
        behind_five _ _ _ _ _ (given ++ replicate others undefined) (length fn.parameters)
        ∙ slice_get-append_replicate given others undefined (length fn.parameters)
        (sym given_length) some

    some_node : 0 < length fn.nodes
    some_node =
        let l : length fn.nodes - 1 < length fn.nodes = within_from_some fn.nodes
        (length fn.nodes - 1) (is_some_from _ known.last known.last_is) in
        omega arith

    entered_at : IsFrame p h (entered p steps f receiver callee chain arguments)
    entered_at = record {
      function = fn;
      function_is = fn_is;
      node_fits = some_node;
      registers = entry_length;
      values = all_at (IsValueOf h) Entry entry_values;
      receiver = receiver_there;
      callee = callee_there;
      scope = chain_there;
      arguments = all_at (IsValueOf h) arguments values;
      few_arguments = few;
      this_is = refl;
      callee_is = refl;
      count_is = refl;
      parameters_are = parameter_at;
      rest_is = rest_at;
    }

  -- the frame of a function that is entered
  pub frame_entered : IsFrame p h (entered p steps f receiver callee chain arguments)
  frame_entered = entered_at function_at.0 function_at.1
