-- Rows of nodes: calls that throw, what is converted and kept, devices, built-in operations; and
-- what leaves the activation.
use Rattle.std.specs.Prelude.{◌≡◌, ◌&&◌, ◌||◌, not, ℕ, true, false, IsTrue, List, [], ◌∷◌, map, length, slice_get, Option, Some, None, is_some, Ok, Err, suc, ◌+◌}
use Rattle.std.specs.Option.{option_map, option_map_or, option_and_then}
use Rattle.std.proofs.Common.{refl, sym, subst, ap, inl, inr, arith}
use Rattle.std.proofs.lemmas.Bool.{false≢true, cond-true, cond-false, or_left, or_right, and_from, cases_Bool}
use Rattle.std.proofs.lemmas.Option.{none-some, same_Some}
use Rattle.std.specs.List.{list_any}
use Rattle.ja_base.specs.declared.ids.Label.{Label}
use Rattle.ja_base.specs.declared.ids.Reg.{Reg}
use Rattle.ja_base.specs.declared.ids.ScopeKind.{ScopeKind}
use Rattle.ja_base.specs.declared.ids.Site.{Site}
use Rattle.ja_base.specs.declared.ids.FnId.{FnId}
use Rattle.ja_prim.specs.declared.primitive.Primitive.{Primitive}
use Rattle.ja_prim.specs.declared.primitive.Primitive.TheVariants as primitive
use Rattle.ja_prim.specs.declared.primitive.Num.TheVariants.{NaN, Whole}
use Rattle.ja_prim.specs.declared.signature.Kinds.{Kinds}
use Rattle.ja_prim.specs.declared.signature.Signature.{Signature}
use Rattle.ja_graph.specs.declared.builtins.TheConstants as builtins
use Rattle.ja_graph.specs.declared.node.ErrorKind.TheVariants as error_kind
use Rattle.ja_graph.specs.declared.node.Node.{Node}
use Rattle.ja_graph.specs.declared.node.Node.TheVariants as node
use Rattle.ja_graph.specs.declared.node.NodeInfo.{NodeInfo}
use Rattle.ja_graph.specs.declared.program.Program.{Program}
use Rattle.ja_graph.specs.WellFormed.{IsWellFormed, IsDestination, IsRegister}
use Rattle.ja_graph.specs.declared.node.Args.{Args}
use Rattle.ja_graph.specs.declared.node.Hint.{Hint}
use Rattle.ja_graph.specs.Program.{node_at}
use Rattle.ja_machine.specs.declared.machine.Addr.{Addr}
use Rattle.ja_machine.specs.declared.machine.Value.{Value}
use Rattle.ja_machine.specs.declared.machine.Value.TheVariants as value
use Rattle.ja_machine.specs.declared.machine.Heap.{Heap}
use Rattle.ja_machine.specs.declared.machine.Frame.{Frame}
use Rattle.ja_machine.specs.declared.machine.Conf.{Conf}
use Rattle.ja_machine.specs.declared.machine.Event.{Event}
use Rattle.ja_machine.specs.declared.machine.Event.TheVariants as event
use Rattle.ja_machine.specs.Events.{Standing, next_state, left_scope, not_a_function_message, not_a_constructor_message}
use Rattle.ja_machine.specs.Events as machine
use Rattle.ja_machine.specs.Frames.{register_of, thrown, with_result}
use Rattle.ja_machine.specs.State.{IsFrame, IsObjectOf, IsValueOf}
use Rattle.ja_machine.specs.declared.machine.Answer.{Answer}
use Rattle.ja_machine.specs.declared.machine.Answer.TheVariants as answers
use Rattle.ja_machine.specs.Calls.{function_called, function_constructing, ArgumentsRead, receiver_of, calls, calls_with, call_step, constructs, constructs_with, register_values, new_step, stays, convert_step, enters, return_step, escape_step, returns, given as arguments_given, object_in, default_function}
use Rattle.ja_machine.specs.Intrinsics.{rows as operation_rows, Computation, IntrinsicOutcome}
use Rattle.ja_machine.specs.Machine.{is_of_kinds, fits, device_wants}
use Rattle.ja_machine.specs.Nodes.{intrinsic_step, sets_given, device_step}
use Rattle.ja_machine.specs.declared.machine.Wants.TheVariants as wanted
use Rattle.ja_machine.specs.Values.{is_object}
use Rattle.ja_machine.proofs.Growing.{IsNodeSite}
use Rattle.ja_machine.proofs.Lists.{either_way}
use Rattle.ja_abstract.specs.AbstractValue.{Labels, AbstractValue, join, no_value, of_labels}
use Rattle.ja_abstract.specs.AbstractState.{AbstractState}
use Rattle.ja_abstract.specs.Contents.{label_of}
use Rattle.ja_abstract.specs.Parts.{has_primitive}
use Rattle.ja_abstract.specs.Parts as meaning
use Rattle.ja_abstract.specs.Resolved.{IsFilled}
use Rattle.ja_abstract.specs.Reading.{View, some_label}
use Rattle.ja_abstract.specs.Values.{value_if, has_atoms, has_labels, primitives_of, has_nullish}
use Rattle.ja_abstract.specs.Operations.{operation}
use Rattle.ja_abstract.proofs.Lists.{Member}
use Rattle.ja_meaning.specs.Meaning.{has_value}
use Rattle.ja_meaning.proofs.Values.{has_value-join_left, has_value-join_right}
use Rattle.ja_meaning.proofs.Gets.{some_label-object}
use Rattle.ja_rows.specs.Out as abstract
use Rattle.ja_rows.specs.Out.{Point, Given, sets}
use Rattle.ja_rows.specs.Transfer.{transfer_node}
use Rattle.ja_rows.specs.Edges.{is_kept, has_other, calls_at, constructs_at}
use Rattle.ja_rows.specs.BuiltIns.{device_value}
use Rattle.ja_sound.specs.Statements.{IsAt}
use Rattle.ja_sound.proofs.AtNode as rows
use Rattle.ja_sound.proofs.Called.{called_other, constructing_other}
use Rattle.ja_sound.proofs.PropertyNodes.{throws_gives, sets_gives, rd, has, of_heap}
use Rattle.ja_sound.proofs.ControlNodes.{Within, within, primitives-have}

module _ (e : Heap) (c : Conf) (top : Frame) (below : List Frame) (x : Point) (w : View)
    (at : IsAt w.program e c top below x w) (good : IsWellFormed w.program) where
  abbrev p : Program
  p = w.program

  abbrev i : NodeInfo
  i = x.info

  abbrev s : Standing
  s = record { conf = c; top = top; below = below; info = i }

  abbrev Gives : Given → Event → Type 0
  Gives = rows.Gives e c top below x w at good

  -- a step within the activation
  abbrev Inside : Given → Option Event → Type 0
  Inside = Within e c top below x w at good

  abbrev fr : IsFrame p c.heap top
  fr = rows.fr e c top below x w at good

  abbrev IsReg : Reg → Type 0
  IsReg r = IsRegister fr.function r

  abbrev IsDest : Reg → Type 0
  IsDest r = IsDestination fr.function r

  by_gives : (given : Given) (o : Event) → Gives given o → Inside given (Some o)
  by_gives given o g = within e c top below x w at good given (Some o) g

  some-object : (test : Labels) (a : Addr) → IsObjectOf c.heap a → IsTrue (test (label_of c.heap a))
      → IsTrue (some_label w test)
  some-object test a o h = some_label-object e c.heap w (rd e c top below x w at good) test a o h

  -- what enters a function isn't within the activation
  pub enters_inside : (given : Given) (h : Heap) (f : FnId) (receiver : Addr) (callee : Option Addr)
      (arguments : List Value) → Inside given (Some (enters p s h f receiver callee arguments))
  enters_inside given h f receiver callee arguments d is known moved after =
      let frames : d.frames ≡ Rattle.ja_machine.specs.Frames.entered p
      (c.steps + 1) f receiver callee (Rattle.ja_machine.specs.Calls.chain_of h callee)
      arguments ∷ top ∷ below = cc in
      let a : suc (suc (length below)) ≡ length d.frames = sym (ap length frames) in
      let b : length d.frames ≡ suc (length below) = ap length after in
      absurd (omega arith)

  left_inside : (given : Given) (kind : ScopeKind) → Inside given (Some (left_scope s kind))
  left_inside given kind = by_gives given (left_scope s kind) tt

  -- ---- Call, New: what is no function throws

  module _ (given : Given) (entry : Label → Option FnId) (v : AbstractValue) (error : Site)
      (text : List ℕ) (site : IsNodeSite p error)
      (given_is : (y : ℕ × AbstractState) → Member y
      (abstract.type_error w (has_other w entry v) i error text) → Member y given) where
    no_function_object : (a : Addr) → IsObjectOf c.heap a → IsTrue (v.label (label_of c.heap a))
        → entry (label_of c.heap a) ≡ None → IsTrue (has_other w entry v)
    no_function_object a there told none =
        or_right (has_atoms v) _ (some-object (λ l. v.label l && not (is_some (entry l))) a there
        (and_from _ _ told (ap (λ o. not (is_some o)) none)))

    no_function_gives : IsTrue (has_other w entry v)
        → Gives given (machine.throws s error builtins.TYPE_ERROR_PROTOTYPE text)
    no_function_gives other =
        throws_gives e c top below x w at good given
        (has_other w entry v) error error_kind.TypeError text site other given_is

  calls_with_inside : (given : Given) (f : FnId) (u : Value) (r : Option Addr) (g : ArgumentsRead)
      → Inside given (Some (calls_with p s f u r g))
  calls_with_inside given f u None g =
      left_inside given Rattle.ja_base.specs.declared.ids.ScopeKind.TheVariants.Register
  calls_with_inside given f u (Some receiver) (Ok arguments) =
      enters_inside given c.heap f receiver (object_in u) arguments
  calls_with_inside given f u (Some receiver) (Err kind) = left_inside given kind

  constructs_with_inside : (given : Given) (f : FnId) (u : Value) (site : Site) (g : ArgumentsRead)
      → Inside given (Some (constructs_with p s f u site g))
  constructs_with_inside given f u site (Ok arguments) =
      enters_inside given _ f _ (object_in u) arguments
  constructs_with_inside given f u site (Err kind) = left_inside given kind

  pub call_inside : (dst callee receiver : Reg) (args : Args) (error : Site) → IsReg callee
      → IsNodeSite p error → Inside (transfer_node w x i
      (node.Call dst callee receiver args error)).states
      (Some (call_step p s (register_of top callee) (register_of top receiver) args error))
  call_inside dst callee receiver args error r site =
      by (function_called p (register_of top callee)) refl
    where
      given : Given
      given = (transfer_node w x i (node.Call dst callee receiver args error)).states

      by : (o : Option FnId) → function_called p (register_of top callee) ≡ o
          → Inside (transfer_node w x i (node.Call dst callee receiver args error)).states
          (Some (calls p s (register_of top callee)
          (receiver_of c.heap (register_of top receiver)) args error o))
      by None none =
          by_gives _ _ (throws_gives e c top below x w at good _
          (has_other w (calls_at p) (abstract.at w callee)) error error_kind.TypeError
          not_a_function_message site (called_other w c.heap at.known.heap
          (abstract.at w callee) (register_of top callee)
          (of_heap e c top below x w at good callee r)
          (has e c top below x w at good callee r) none) (λ y m. m))
      by (Some f) is =
          calls_with_inside _ f (register_of top callee)
          (receiver_of c.heap (register_of top receiver)) (arguments_given c.heap top args)

  pub new_inside : (dst callee : Reg) (args : List Reg) (site error : Site) → IsReg callee
      → IsNodeSite p error → Inside (transfer_node w x i
      (node.New dst callee args site error)).states
      (Some (new_step p s (register_of top callee) args site error))
  new_inside dst callee args site error r site_ok =
      by (function_constructing p (register_of top callee)) refl
    where
      by : (o : Option FnId) → function_constructing p (register_of top callee) ≡ o
          → Inside (transfer_node w x i (node.New dst callee args site error)).states
          (Some (constructs p s (register_of top callee) args site error o))
      by None none =
          by_gives _ _ (throws_gives e c top below x w at good _
          (has_other w (constructs_at p) (abstract.at w callee)) error error_kind.TypeError
          not_a_constructor_message site_ok (constructing_other w c.heap at.known.heap
          (abstract.at w callee) (register_of top callee)
          (of_heap e c top below x w at good callee r)
          (has e c top below x w at good callee r) none) (λ y m. m))
      by (Some f) is =
          constructs_with_inside _ f (register_of top callee) site (register_values top args)

  -- ---- Convert: what is kept

  module _ (dst src : Reg) (kind : Hint) (other : Option Reg) (d : IsDest dst) where
    abbrev v : AbstractValue
    v = abstract.at w src

    abbrev kept : AbstractValue
    kept = value_if (is_kept w other) (of_labels v.label)

    abbrev given : Given
    given = (transfer_node w x i (node.Convert dst src kind other)).states

    -- the other operand that keeps an object may be one that does
    AreRegisters : Option Reg → Type 0
    AreRegisters None = Unit {0}
    AreRegisters (Some r) = IsReg r

    value_kept : (u : AbstractValue) (y : Value) → IsValueOf c.heap y
        → IsTrue (has_value c.heap u y) → stays (Some y) ≡ true
        → IsTrue (has_labels w u || has_nullish u)
    value_kept u (value.Object a) there told is = or_left _ _ (some-object u.label a there told)
    value_kept u (value.Primitive primitive.Undefined) there told is =
        or_right (has_labels w u) _ (or_left _ _ told)
    value_kept u (value.Primitive primitive.Null) there told is =
        or_right (has_labels w u) _ (or_right u.flags.undefined _ told)
    value_kept u (value.Primitive (primitive.Bool b)) there told is = absurd (false≢true is)
    value_kept u (value.Primitive (primitive.Number n)) there told is = absurd (false≢true is)
    value_kept u (value.Primitive (primitive.Text t)) there told is = absurd (false≢true is)

    is_kept_by : (o : Option Reg) → Rattle.std.specs.List.AllByRecursion IsReg
        (Rattle.std.specs.Option.option_to_list o) → stays (option_map (register_of top) o) ≡ true
        → IsTrue (is_kept w o)
    is_kept_by None rs is = absurd (false≢true is)
    is_kept_by (Some r) rs is =
        value_kept (abstract.at w r) (register_of top r) (of_heap e c top below x w at good r rs.0)
        (has e c top below x w at good r rs.0) is

    pub convert_inside : Rattle.std.specs.List.AllByRecursion IsReg
        (Rattle.std.specs.Option.option_to_list other) → (u : Value) → IsValueOf c.heap u
        → IsTrue (has_value c.heap v u) → Inside given
        (Some (convert_step p s dst kind (option_map (register_of top) other) u))
    convert_inside rs (value.Primitive q) there told =
        by_gives given _ (sets_gives e c top below x w at good given dst (value.Primitive q)
        (join kept (primitives_of v)) d tt (has_value-join_right c.heap kept (primitives_of v)
        (value.Primitive q) (primitives-have v q told)) (λ y m. m))
    convert_inside rs (value.Object a) there told =
        either_way (λ o. Inside given (Some o)) (stays (option_map (register_of top) other))
        (machine.sets s dst (value.Object a)) (enters p s c.heap
        (default_function p kind) a None [])
        (λ keep. by_gives given _ (sets_gives e c top below x w at good given dst (value.Object a)
        (join kept (primitives_of v)) d there (has_value-join_left c.heap kept (primitives_of v)
        (value.Object a) (subst (λ z. IsTrue (has_value c.heap z (value.Object a)))
        (sym (cond-true (is_kept w other) (of_labels v.label) no_value (is_kept_by other rs keep)))
        told)) (λ y m. m)))
        (λ goes_in. enters_inside given c.heap (default_function p kind) a None [])

  -- ---- Return, Escape leave the activation

  fewer : (given : Given) (h : Heap) (f : Frame) (rest : List Frame) (n : ℕ)
      → length below ≡ suc (length rest) → Inside given
      (Some (event.Next (record { heap = h; frames = f ∷ rest; steps = n })))
  fewer given h f rest n less d is known moved after =
      let frames : d.frames ≡ f ∷ rest = cc in
      let a : suc (length rest) ≡ length d.frames = sym (ap length frames) in
      let b : length d.frames ≡ suc (length below) = ap length after in
      absurd (omega arith)

  nothing_inside : (given : Given) → Inside given None
  nothing_inside given d is known moved after = absurd (none-some (event.Next d) is)

  returns_inside : (given : Given) (caller : Frame) (rest : List Frame) (v : Value)
      (info : NodeInfo) (n : Node) → length below ≡ suc (length rest)
      → Inside given (returns s caller rest v info n)
  returns_inside given caller rest v info (node.Call dst callee receiver args error) less =
      fewer given _ _ rest _ less
  returns_inside given caller rest v info (node.New dst callee args site error) less =
      fewer given _ _ rest _ less
  returns_inside given caller rest v info (node.Convert dst src hint other) less =
      fewer given _ _ rest _ less
  returns_inside given caller rest v info n less = nothing_inside given

  return_by : (given : Given) (caller : Frame) (rest : List Frame) (v : Value) (o : Option NodeInfo)
      → length below ≡ suc (length rest) → Inside given
      (option_and_then (λ (info : NodeInfo). returns s caller rest v info info.node) o)
  return_by given caller rest v None less = nothing_inside given
  return_by given caller rest v (Some info) less =
      returns_inside given caller rest v info info.node less

  pub return_inside : (given : Given) (v : Value) (fs : List Frame) → below ≡ fs
      → Inside given (return_step p s fs v)
  return_inside given v [] is = by_gives given _ tt
  return_inside given v (caller ∷ rest) is =
      return_by given caller rest v (node_at p caller.function caller.node) (ap length is)

  escape_by : (given : Given) (caller : Frame) (rest : List Frame) (v : Value) (o : Option NodeInfo)
      → length below ≡ suc (length rest) → Inside given
      (option_map (λ (info : NodeInfo). next_state s.conf s.conf.heap
      (with_result caller thrown v info.handler ∷ rest)) o)
  escape_by given caller rest v None less = nothing_inside given
  escape_by given caller rest v (Some info) less = fewer given _ _ rest _ less

  pub escape_inside : (given : Given) (v : Value) (fs : List Frame) → below ≡ fs
      → Inside given (escape_step p s fs v)
  escape_inside given v [] is = by_gives given _ tt
  escape_inside given v (caller ∷ rest) is =
      escape_by given caller rest v (node_at p caller.function caller.node) (ap length is)

  -- ---- Device

  kinds_have : (k : Kinds) (q : Primitive) → IsTrue (is_of_kinds k q)
      → IsTrue (has_primitive (device_value k) q)
  kinds_have k primitive.Undefined e_is = e_is
  kinds_have k primitive.Null e_is = e_is
  kinds_have k (primitive.Bool true) e_is = e_is
  kinds_have k (primitive.Bool false) e_is = e_is
  kinds_have k (primitive.Number NaN) e_is = e_is
  kinds_have k (primitive.Number (Whole n)) e_is =
      subst (λ z. IsTrue (meaning.number_has z n))
      (sym (cond-true k.number
      Rattle.ja_abstract.specs.declared.abstraction.NumberPart.TheVariants.Whole
      Rattle.ja_abstract.specs.declared.abstraction.NumberPart.TheVariants.Nothing e_is)) refl
  kinds_have k (primitive.Text t) e_is =
      subst (λ z. IsTrue (meaning.text_has z t))
      (sym (cond-true k.text Rattle.ja_abstract.specs.declared.abstraction.TextPart.TheVariants.Text
      Rattle.ja_abstract.specs.declared.abstraction.TextPart.TheVariants.Nothing e_is)) refl

  device_by : (dst : Reg) (q : Primitive) → IsDest dst → (o : Option Signature)
      → option_map_or (λ (g : Signature). is_of_kinds g.kinds q) o false ≡ true
      → Gives (option_map_or (λ (g : Signature). sets w dst (device_value g.kinds) i.next) o [])
      (machine.sets s dst (value.Primitive q))
  device_by dst q d None is = absurd (false≢true is)
  device_by dst q d (Some g) is =
      sets_gives e c top below x w at good _ dst (value.Primitive q) (device_value g.kinds) d tt
      (kinds_have g.kinds q is) (λ y m. m)

  fits_device : (which : ℕ) (q : Primitive) → fits p (device_wants top which) (answers.Device q)
      ≡ true → option_map_or (λ (g : Signature). is_of_kinds g.kinds q)
      (slice_get p.signatures which) false ≡ true
  fits_device which q is =
      elim (cases_Bool (list_any is_object top.arguments)) [
        | inl some ↦
            absurd (false≢true (subst (λ z. fits p z (answers.Device q) ≡ true)
            (cond-true (list_any is_object top.arguments) wanted.Tick (wanted.Device which) some)
            is))
        | inr none ↦
            subst (λ z. fits p z (answers.Device q) ≡ true)
            (cond-false (list_any is_object top.arguments) wanted.Tick (wanted.Device which) none)
            is
      ]

  pub device_inside : (dst : Reg) (which : ℕ) → IsDest dst → (answer : Answer)
      → fits p (device_wants top which) answer ≡ true
      → Inside (transfer_node w x i (node.Device dst which)).states (device_step s dst answer)
  device_inside dst which d (answers.Device q) is =
      by_gives _ _ (device_by dst q d (slice_get p.signatures which) (fits_device which q is))
  device_inside dst which d answers.Tick is = by_gives _ _ tt
  device_inside dst which d (answers.Pick n) is = nothing_inside _

  -- ---- Intrinsic: each row covers its operation

  abbrev pub RowCovers : ℕ → Type 0
  RowCovers which =
      (args : List Reg) (row : Computation) (q : Primitive)
      → Rattle.std.specs.List.AllByRecursion IsReg args
      → IsFilled w.entries (operation which w (map (abstract.at w) args)).demands
      → slice_get operation_rows which ≡ Some row → row (map (register_of top) args) c.heap ≡ Ok q
      → IsTrue (has_primitive (operation which w (map (abstract.at w) args)).value q)

  given_gives : (dst : Reg) (u : AbstractValue) (o : Option IntrinsicOutcome) → IsDest dst
      → ((q : Primitive) → o ≡ Some (Ok q) → IsTrue (has_primitive u q))
      → Gives (sets w dst u i.next) (sets_given s dst o)
  given_gives dst u None d covers = tt
  given_gives dst u (Some (Ok q)) d covers =
      sets_gives e c top below x w at good _ dst (value.Primitive q) u d tt (covers q refl)
      (λ y m. m)
  given_gives dst u (Some (Err stop)) d covers = tt

  pub intrinsic_gives : (dst : Reg) (which : ℕ) (args : List Reg) → IsDest dst
      → Rattle.std.specs.List.AllByRecursion IsReg args → RowCovers which
      → IsFilled w.entries (transfer_node w x i (node.Intrinsic dst which args)).demands
      → Gives (transfer_node w x i (node.Intrinsic dst which args)).states
      (intrinsic_step s dst which (map (register_of top) args))
  intrinsic_gives dst which args d rs covers filled =
      given_gives dst (operation which w (map (abstract.at w) args)).value
      (option_map (λ (row : Computation). row (map (register_of top) args) c.heap)
      (slice_get operation_rows which)) d (λ q is. by (slice_get operation_rows which) refl q is)
    where
      by : (o : Option Computation) → slice_get operation_rows which ≡ o → (q : Primitive)
          → option_map (λ (row : Computation). row (map (register_of top) args) c.heap) o
          ≡ Some (Ok q) → IsTrue (has_primitive (operation which w (map (abstract.at w) args)).value
          q)
      by None o_is q is = absurd (none-some (Ok q) is)
      by (Some row) o_is q is =
          covers args row q rs filled o_is (same_Some (row (map (register_of top) args) c.heap)
          (Ok q) is)
