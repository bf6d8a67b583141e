-- The machine: the first state of a program, what a state wants, one step, and the state after a
-- list of answers.
use Rattle.std.specs.Prelude.{ℕ, ◌-◌, Bool, true, false, if◌then◌else◌, nat_lt, List, [], ◌∷◌, map, length, drop, slice_get, Option, Some, None}
use Rattle.std.specs.Option.{option_and_then, option_map, option_map_or, option_to_list}
use Rattle.std.specs.List.{list_any, range_with_len}
use Rattle.ja_base.specs.declared.ids.FnId.{FnId}
use Rattle.ja_base.specs.declared.ids.Reg.{Reg}
use Rattle.ja_prim.specs.declared.primitive.Primitive.{Primitive}
use Rattle.ja_prim.specs.declared.primitive.Primitive.TheVariants.{Undefined, Null, Number, Text}
use Rattle.ja_prim.specs.declared.primitive.Primitive.TheVariants as primitive
use Rattle.ja_prim.specs.declared.signature.Kinds.{Kinds}
use Rattle.ja_prim.specs.declared.signature.Signature.{Signature}
use Rattle.ja_graph.specs.declared.node.Node.{Node}
use Rattle.ja_graph.specs.declared.node.Node.TheVariants as node
use Rattle.ja_graph.specs.declared.node.NodeInfo.{NodeInfo}
use Rattle.ja_graph.specs.declared.program.Class.{Class}
use Rattle.ja_graph.specs.declared.program.Class.TheVariants as class
use Rattle.ja_graph.specs.declared.program.SiteInfo.{SiteInfo}
use Rattle.ja_graph.specs.declared.program.ObjectSpec.{ObjectSpec}
use Rattle.ja_graph.specs.declared.program.PropertySpec.{PropertySpec}
use Rattle.ja_graph.specs.declared.program.SpecContent.{SpecContent}
use Rattle.ja_graph.specs.declared.program.SpecContent.TheVariants as spec_content
use Rattle.ja_graph.specs.declared.program.Program.{Program}
use Rattle.ja_graph.specs.Program.{node_at, object_spec, global}
use Rattle.ja_machine.specs.declared.machine.Value.{Value}
use Rattle.ja_machine.specs.declared.machine.Value.TheVariants as value
use Rattle.ja_machine.specs.declared.machine.Content.{Content}
use Rattle.ja_machine.specs.declared.machine.Content.TheVariants as contents
use Rattle.ja_machine.specs.declared.machine.Property.{Property}
use Rattle.ja_machine.specs.declared.machine.Object.{Object}
use Rattle.ja_machine.specs.declared.machine.Heap.{Heap}
use Rattle.ja_machine.specs.declared.machine.Frame.{Frame}
use Rattle.ja_machine.specs.declared.machine.Conf.{Conf}
use Rattle.ja_machine.specs.declared.machine.Answer.{Answer}
use Rattle.ja_machine.specs.declared.machine.Answer.TheVariants as answers
use Rattle.ja_machine.specs.declared.machine.Wants.{Wants}
use Rattle.ja_machine.specs.declared.machine.Wants.TheVariants as wanted
use Rattle.ja_machine.specs.declared.machine.Event.{Event}
use Rattle.ja_machine.specs.declared.machine.Event.TheVariants as event
use Rattle.ja_machine.specs.Writes.{new_property}
use Rattle.ja_machine.specs.Values.{is_object}
use Rattle.ja_machine.specs.Frames.{register_of, entered}
use Rattle.ja_machine.specs.Objects.{first_of}
use Rattle.ja_machine.specs.Nodes.{name_text, node_step, shown}

-- ---- the first state

abbrev pub opening_content : SpecContent → Content
opening_content (spec_content.Prim q) = contents.Value (value.Primitive q)
opening_content (spec_content.Object s) = contents.Value (value.Object (first_of s))
opening_content spec_content.Row = contents.Row

abbrev pub opening_property : Program → PropertySpec → Property
opening_property p q = new_property (name_text p q.name) (opening_content q.content) q.attrs

-- the class of the objects of a site
abbrev pub class_of_site : Program → ℕ → Class
class_of_site p s = option_map_or (λ (i : SiteInfo). i.class) (slice_get p.sites s) class.Object

abbrev pub opening_object : Program → ObjectSpec → Object
opening_object p o = record {
  class = class_of_site p o.site.0;
  slots = record {
    prototype = option_map first_of o.prototype;
    outer = None;
    scope = option_map first_of o.scope;
    value = o.value;
    arguments = false;
  };
  properties = map (opening_property p) o.properties;
}

abbrev pub opening_objects_at : Program → ℕ → List Object
opening_objects_at p s = option_to_list (option_map (opening_object p) (object_spec p s))

abbrev pub opening_heap : Program → Heap
opening_heap p = record { objects = map (opening_objects_at p) (range_with_len 0 (length p.sites)) }

-- the program is entered with the global object as its receiver and its scope chain, and without
-- arguments
abbrev pub program_function : FnId
program_function = record { 0 = 0 }

abbrev pub opening_frame : Program → Frame
opening_frame p = entered p 0 program_function (first_of global) None (first_of global) []

abbrev pub opening_state : Program → Conf
opening_state p = record { heap = opening_heap p; frames = opening_frame p ∷ []; steps = 0 }

-- ---- what a state wants

-- a place among the names that are shown, if there are some
abbrev pub pick_wanted : List (List ℕ) → Wants
pick_wanted [] = wanted.Tick
pick_wanted (name ∷ names) = wanted.Pick (length (name ∷ names))

abbrev pub pick_wants : Heap → Frame → Reg → Value → Wants
pick_wants h f list (value.Object a) = pick_wanted (shown h f list a)
pick_wants h f list (value.Primitive q) = wanted.Tick

abbrev pub device_wants : Frame → ℕ → Wants
device_wants f which = if list_any is_object f.arguments then wanted.Tick else wanted.Device which

abbrev pub node_wants : Heap → Frame → Node → Wants
node_wants h f (node.Pick list dst object) = pick_wants h f list (register_of f object)
node_wants h f (node.Device dst which) = device_wants f which
node_wants h f node = wanted.Tick

abbrev pub frames_want : Program → Heap → List Frame → Wants
frames_want p h [] = wanted.Tick
frames_want p h (f ∷ below) =
    option_map_or (λ (info : NodeInfo). node_wants h f info.node) (node_at p f.function f.node)
    wanted.Tick

abbrev pub wants : Program → Conf → Wants
wants p c = frames_want p c.heap c.frames

-- an answer of the kinds that a device declares
abbrev pub is_of_kinds : Kinds → Primitive → Bool
is_of_kinds kinds primitive.Undefined = kinds.undefined
is_of_kinds kinds primitive.Null = kinds.null
is_of_kinds kinds (primitive.Bool b) = kinds.boolean
is_of_kinds kinds (primitive.Number n) = kinds.number
is_of_kinds kinds (primitive.Text units) = kinds.text

abbrev pub fits : Program → Wants → Answer → Bool
fits p wanted.Tick answers.Tick = true
fits p (wanted.Device which) (answers.Device q) =
    option_map_or (λ (s : Signature). is_of_kinds s.kinds q) (slice_get p.signatures which) false
fits p (wanted.Pick count) (answers.Pick i) = nat_lt i count
fits p wants answer = false

-- ---- steps

-- a step of the top frame; nothing where no frame is left or it stands at no node
abbrev pub frames_step : Program → Conf → Answer → List Frame → Option Event
frames_step p c answer [] = None
frames_step p c answer (f ∷ below) =
    option_and_then (λ (info : NodeInfo). node_step p
    (record { conf = c; top = f; below = below; info = info }) answer info.node)
    (node_at p f.function f.node)

-- nothing where the answer isn't one that the state wants
abbrev pub step : Program → Conf → Answer → Option Event
step p c answer = if fits p (wants p c) answer then frames_step p c answer c.frames else None

-- the state that an event leads to, if the run goes on
abbrev pub next_of : Event → Option Conf
next_of (event.Next c) = Some c
next_of (event.End e c) = None

-- the state after a list of answers, the last one first; there is none where the run has ended
-- before
abbrev pub state_of : Program → List Answer → Option Conf
state_of p [] = Some (opening_state p)
state_of p (answer ∷ earlier) =
    option_and_then (λ (c : Conf). option_and_then next_of (step p c answer)) (state_of p earlier)

-- the state after the first n of the answers
abbrev pub earlier_state : Program → List Answer → ℕ → Option Conf
earlier_state p answers n = state_of p (drop (length answers - n) answers)
