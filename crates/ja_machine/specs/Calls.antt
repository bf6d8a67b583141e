-- Calls, constructions and conversions, and how a function is left (ES3 8.6.2.6, 10.2, 11.2.2,
-- 11.2.3, 13.2.1, 13.2.2).
use Rattle.std.specs.Prelude.{ℕ, ◌+◌, ◌||◌, nat_le, Bool, true, false, if◌then◌else◌, List, [], ◌∷◌, map, length, drop, Option, Some, None, unwrap_or, Result, Ok, Err, slice_get}
use Rattle.std.specs.Option.{option_and_then, option_map, option_map_or}
use Rattle.std.specs.List.{range_with_len}
use lib.Chars.{codes}
use Rattle.ja_base.specs.declared.ids.FnId.{FnId}
use Rattle.ja_base.specs.declared.ids.Reg.{Reg}
use Rattle.ja_base.specs.declared.ids.Site.{Site}
use Rattle.ja_base.specs.declared.ids.ScopeKind.{ScopeKind}
use Rattle.ja_base.specs.declared.ids.ScopeKind.TheVariants.{Register, Row}
use Rattle.ja_prim.specs.declared.primitive.Num.{Num}
use Rattle.ja_prim.specs.declared.primitive.Primitive.TheVariants.{Undefined, Null}
use Rattle.ja_prim.specs.declared.stop.Stop.{Stop}
use Rattle.ja_prim.specs.Bits.{to_uint32}
use Rattle.ja_prim.specs.Conversions.{to_number}
use Rattle.ja_graph.specs.declared.builtins.TheConstants as builtins
use Rattle.ja_graph.specs.declared.node.Args.{Args}
use Rattle.ja_graph.specs.declared.node.Args.TheVariants as args
use Rattle.ja_graph.specs.declared.node.Hint.{Hint}
use Rattle.ja_graph.specs.declared.node.Hint.TheVariants as hint
use Rattle.ja_graph.specs.declared.node.Node.{Node}
use Rattle.ja_graph.specs.declared.node.Node.TheVariants as node
use Rattle.ja_graph.specs.declared.node.NodeInfo.{NodeInfo}
use Rattle.ja_graph.specs.declared.program.Class.{Class}
use Rattle.ja_graph.specs.declared.program.Class.TheVariants as class
use Rattle.ja_graph.specs.declared.program.Program.{Program}
use Rattle.ja_graph.specs.declared.program.SiteInfo.{SiteInfo}
use Rattle.ja_graph.specs.Program.{node_at, global}
use Rattle.ja_machine.specs.declared.machine.Addr.{Addr}
use Rattle.ja_machine.specs.declared.machine.Value.{Value}
use Rattle.ja_machine.specs.declared.machine.Value.TheVariants as value
use Rattle.ja_machine.specs.declared.machine.Content.{Content}
use Rattle.ja_machine.specs.declared.machine.Content.TheVariants as contents
use Rattle.ja_machine.specs.declared.machine.Object.{Object}
use Rattle.ja_machine.specs.declared.machine.Heap.{Heap}
use Rattle.ja_machine.specs.declared.machine.Frame.{Frame}
use Rattle.ja_machine.specs.declared.machine.End.TheVariants as ending
use Rattle.ja_machine.specs.declared.machine.Event.{Event}
use Rattle.ja_machine.specs.Heap.{object_at, class_at, content_at, with_new, new_address}
use Rattle.ja_machine.specs.Writes.{is_array, length_name}
use Rattle.ja_machine.specs.Values.{kind_of}
use Rattle.ja_machine.specs.Frames.{undefined, register_of, thrown, with_result, entered}
use Rattle.ja_machine.specs.Objects.{first_of, index_text, constructed_object}
use Rattle.ja_machine.specs.Events.{Standing, next_state, end_state, left_scope, throws, sets, not_a_function_message, not_a_constructor_message}

-- ---- what is called

abbrev pub site_of : Program → Value → Option SiteInfo
site_of p (value.Object a) = slice_get p.sites a.site.0
site_of p (value.Primitive q) = None

-- the function that [[Call]] of a value runs, and the one that its [[Construct]] runs
abbrev pub function_called : Program → Value → Option FnId
function_called p v = option_and_then (λ (s : SiteInfo). s.calls) (site_of p v)

abbrev pub function_constructing : Program → Value → Option FnId
function_constructing p v = option_and_then (λ (s : SiteInfo). s.constructs) (site_of p v)

-- the object of a value, if it is one
abbrev pub object_in : Value → Option Addr
object_in (value.Object a) = Some a
object_in (value.Primitive q) = None

-- the scope chain of a function object ([[Scope]])
abbrev pub chain_of : Heap → Option Addr → Addr
chain_of h callee =
    unwrap_or (option_and_then (λ a. option_and_then (λ (o : Object). o.slots.scope)
    (object_at h a)) callee) (first_of global)

abbrev pub is_activation : Option Class → Bool
is_activation (Some class.Activation) = true
is_activation class = false

-- the receiver of a call (10.1.6, 11.2.3): in place of null, undefined and an activation the global
-- object
abbrev pub receiver_of : Heap → Value → Option Addr
receiver_of h (value.Object a) = Some (if is_activation (class_at h a) then first_of global else a)
receiver_of h (value.Primitive Undefined) = Some (first_of global)
receiver_of h (value.Primitive Null) = Some (first_of global)
receiver_of h (value.Primitive q) = None

-- ---- its arguments

abbrev pub ArgumentsRead : Type 0
ArgumentsRead = Result (List Value) ScopeKind

-- the greatest number of arguments: each is an element of `arguments`, at an index (10.1.8, 15.4)
abbrev pub max_arguments : ℕ
max_arguments = 4294967295

-- the values of registers; more of them than there are indices leave the profile
abbrev pub register_values : Frame → List Reg → ArgumentsRead
register_values f list =
    if nat_le (length list) max_arguments then Ok (map (register_of f) list) else Err Register

-- the number of elements that a `length` says, by ToUint32; there is none where it is missing or an
-- object
abbrev pub unsigned_count : Result Num Stop → Result ℕ ScopeKind
unsigned_count (Ok n) = Ok (to_uint32 n)
unsigned_count (Err stop) = Err (kind_of stop)

abbrev pub element_count : Option Content → Result ℕ ScopeKind
element_count None = Ok 0
element_count (Some contents.Row) = Err Row
element_count (Some (contents.Value (value.Object a))) = Ok 0
element_count (Some (contents.Value (value.Primitive q))) = unsigned_count (to_number q)

-- an element, undefined where it is missing
abbrev pub element : Option Content → Result Value ScopeKind
element None = Ok undefined
element (Some contents.Row) = Err Row
element (Some (contents.Value v)) = Ok v

abbrev pub with_first : Value → ArgumentsRead → ArgumentsRead
with_first v (Ok vs) = Ok (v ∷ vs)
with_first v (Err kind) = Err kind

abbrev pub all_given : List (Result Value ScopeKind) → ArgumentsRead
all_given [] = Ok []
all_given (Ok v ∷ rest) = with_first v (all_given rest)
all_given (Err kind ∷ rest) = Err kind

abbrev pub elements_up_to : Heap → Addr → Result ℕ ScopeKind → ArgumentsRead
elements_up_to h a (Ok n) =
    all_given (map (λ i. element (content_at h a (index_text i))) (range_with_len 0 n))
elements_up_to h a (Err kind) = Err kind

-- the elements of an array or an arguments object, and of nothing else
abbrev pub has_elements : Object → Bool
has_elements o = is_array o.class || o.slots.arguments

abbrev pub has_elements_at : Heap → Addr → Bool
has_elements_at h a = option_map_or has_elements (object_at h a) false

abbrev pub elements : Heap → Value → ArgumentsRead
elements h (value.Object a) =
    if has_elements_at h a then elements_up_to h a (element_count (content_at h a length_name))
    else Err Register
elements h (value.Primitive q) = Err Register

abbrev pub given : Heap → Frame → Args → ArgumentsRead
given h f (args.Registers list) = register_values f list
given h f (args.Elements array) = elements h (register_of f array)
given h f args.Tail = Ok (drop 1 f.arguments)

-- ---- calls

-- a function is entered, with this heap; its caller stays at its node
abbrev pub enters : Program → Standing → Heap → FnId → Addr → Option Addr → List Value → Event
enters p s h f receiver callee arguments =
    next_state s.conf h (entered p (s.conf.steps + 1) f receiver callee (chain_of h callee)
    arguments ∷ s.top ∷ s.below)

abbrev pub calls_with : Program → Standing → FnId → Value → Option Addr → ArgumentsRead → Event
calls_with p s f callee None arguments = left_scope s Register
calls_with p s f callee (Some receiver) (Err kind) = left_scope s kind
calls_with p s f callee (Some receiver) (Ok arguments) =
    enters p s s.conf.heap f receiver (object_in callee) arguments

abbrev pub calls : Program → Standing → Value → Option Addr → Args → Site → Option FnId → Event
calls p s callee receiver arguments error None =
    throws s error builtins.TYPE_ERROR_PROTOTYPE not_a_function_message
calls p s callee receiver arguments error (Some f) =
    calls_with p s f callee receiver (given s.conf.heap s.top arguments)

abbrev pub call_step : Program → Standing → Value → Value → Args → Site → Event
call_step p s callee receiver arguments error =
    calls p s callee (receiver_of s.conf.heap receiver) arguments error (function_called p callee)

-- ---- constructions

-- the prototype of what a function constructs: its `prototype`, if that is an object
abbrev pub prototype_for : Option Content → Addr
prototype_for (Some (contents.Value (value.Object a))) = a
prototype_for content = first_of builtins.OBJECT_PROTOTYPE

abbrev pub prototype_of_callee : Heap → Option Addr → Addr
prototype_of_callee h None = first_of builtins.OBJECT_PROTOTYPE
prototype_of_callee h (Some a) = prototype_for (content_at h a (codes "prototype"))

abbrev pub constructs_with : Program → Standing → FnId → Value → Site → ArgumentsRead → Event
constructs_with p s f callee site (Err kind) = left_scope s kind
constructs_with p s f callee site (Ok arguments) =
    let h = s.conf.heap in
    enters
    p
    s
    (with_new h site (constructed_object (prototype_of_callee h (object_in callee))))
    f
    (new_address h site)
    (object_in callee)
    arguments

abbrev pub constructs : Program → Standing → Value → List Reg → Site → Site → Option FnId → Event
constructs p s callee arguments site error None =
    throws s error builtins.TYPE_ERROR_PROTOTYPE not_a_constructor_message
constructs p s callee arguments site error (Some f) =
    constructs_with p s f callee site (register_values s.top arguments)

abbrev pub new_step : Program → Standing → Value → List Reg → Site → Site → Event
new_step p s callee arguments site error =
    constructs p s callee arguments site error (function_constructing p callee)

-- ---- default values (8.6.2.6)

-- an object stays as it is where the other operand of an equality is an object, undefined or null
-- (11.9.3)
abbrev pub stays : Option Value → Bool
stays None = false
stays (Some (value.Object a)) = true
stays (Some (value.Primitive Undefined)) = true
stays (Some (value.Primitive Null)) = true
stays (Some (value.Primitive q)) = false

abbrev pub default_function : Program → Hint → FnId
default_function p hint.Number = p.value_first
default_function p hint.Text = p.text_first

abbrev pub convert_step : Program → Standing → Reg → Hint → Option Value → Value → Event
convert_step p s dst hint other (value.Primitive q) = sets s dst (value.Primitive q)
convert_step p s dst hint other (value.Object a) =
    if stays other then sets s dst (value.Object a)
    else enters p s s.conf.heap (default_function p hint) a None []

-- ---- how a function is left

-- what a construction gives: what its function gives, if that is an object, or else its receiver
abbrev pub constructed : Addr → Value → Value
constructed receiver (value.Object a) = value.Object a
constructed receiver (value.Primitive q) = value.Object receiver

-- the caller goes on behind its node, which takes the value
abbrev pub returns_to : Standing → Frame → List Frame → NodeInfo → Reg → Value → Event
returns_to s caller below info dst v =
    next_state s.conf s.conf.heap (with_result caller dst v info.next ∷ below)

abbrev pub returns : Standing → Frame → List Frame → Value → NodeInfo → Node → Option Event
returns s caller below v info (node.Call dst callee receiver args error) =
    Some (returns_to s caller below info dst v)
returns s caller below v info (node.New dst callee args site error) =
    Some (returns_to s caller below info dst (constructed s.top.receiver v))
returns s caller below v info (node.Convert dst src hint other) =
    Some (returns_to s caller below info dst v)
returns s caller below v info node = None

-- the program's Return ends the run
abbrev pub return_step : Program → Standing → List Frame → Value → Option Event
return_step p s [] v = Some (end_state s.conf ending.Normal)
return_step p s (caller ∷ below) v =
    option_and_then (λ (info : NodeInfo). returns s caller below v info info.node)
    (node_at p caller.function caller.node)

-- what was thrown goes to the handler of the caller's node; the program's Escape ends the run
abbrev pub escape_step : Program → Standing → List Frame → Value → Option Event
escape_step p s [] v = Some (end_state s.conf (ending.Uncaught v))
escape_step p s (caller ∷ below) v =
    option_map (λ (info : NodeInfo). next_state s.conf s.conf.heap
    (with_result caller thrown v info.handler ∷ below)) (node_at p caller.function caller.node)
