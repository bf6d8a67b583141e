-- What goes wrong is what throws.
use Rattle.std.specs.Prelude.{◌≡◌, ◌⊎◌, ◌<◌, ◌≤◌, ◌↔◌, ℕ, ◌+◌, IsTrue, List, ◌∷◌, length, slice_set, Option, Some, None, Contains}
use Rattle.ja_base.specs.declared.ids.ScopeKind.TheVariants.{TextLength}
use Rattle.ja_base.specs.declared.ids.Site.{Site}
use Rattle.ja_prim.specs.Texts.{max_units}
use Rattle.ja_graph.specs.declared.node.Node.{Node}
use Rattle.ja_graph.specs.declared.node.Node.TheVariants as node
use Rattle.ja_graph.specs.declared.node.NodeInfo.{NodeInfo}
use Rattle.ja_graph.specs.declared.program.Class.TheVariants as class
use Rattle.ja_graph.specs.declared.program.Program.{Program}
use Rattle.ja_graph.specs.Node.{making, makings}
use Rattle.ja_graph.specs.Program.{node_at, reference_error_prototype, type_error_prototype}
use Rattle.ja_machine.specs.declared.machine.Value.TheVariants as value
use Rattle.ja_machine.specs.declared.machine.Object.{Object}
use Rattle.ja_machine.specs.declared.machine.Frame.{Frame}
use Rattle.ja_machine.specs.declared.machine.Conf.{Conf}
use Rattle.ja_machine.specs.declared.machine.Answer.{Answer}
use Rattle.ja_machine.specs.declared.machine.End.TheVariants as ending
use Rattle.ja_machine.specs.declared.machine.Event.{Event}
use Rattle.ja_machine.specs.declared.machine.Event.TheVariants as event
use Rattle.ja_machine.specs.Heap.{with_new, new_address}
use Rattle.ja_machine.specs.Frames.{thrown}
use Rattle.ja_machine.specs.Objects.{error_object}
use Rattle.ja_machine.specs.Events.{unbound_message, nothing_message, not_a_function_message, not_a_constructor_message}
use Rattle.ja_machine.specs.Nodes.{name_text}
use Rattle.ja_machine.specs.Machine.{fits, wants, step, state_of}
use Rattle.ja_rows.specs.declared.table.WarningKind.{WarningKind}
use Rattle.ja_rows.specs.declared.table.WarningKind.TheVariants.{NotAFunction, NoObject, UnboundName}
use Rattle.ja_rows.specs.Warning.{Operation, operation_at}
use Rattle.ja_sound.specs.Faults.{fault_of}

-- an error that is thrown: its prototype and its message
pub record Thrown : Type 0 where
  pub prototype : Site
  pub message : List ℕ

abbrev pub type_error : List ℕ → Option Thrown
type_error message = Some (record { prototype = type_error_prototype; message = message })

abbrev pub reference_error : List ℕ → Option Thrown
reference_error message =
    Some (record { prototype = reference_error_prototype; message = message })

-- the error of a node that goes wrong so, if it can (9.9, 11.2.2, 11.2.3; 8.7.1)
abbrev pub error_of : Program → Node → WarningKind → Option Thrown
error_of p (node.Call dst callee receiver args error) NotAFunction =
    type_error not_a_function_message
error_of p (node.New dst callee args site error) NotAFunction =
    type_error not_a_constructor_message
error_of p (node.ToObject dst src sites error) NoObject = type_error nothing_message
error_of p (node.ReadRef dst base name error) UnboundName =
    reference_error (unbound_message (name_text p name))
error_of p n kind = None

-- the state after an error was thrown: one object more, made at the error's site, which `thrown`
-- has at the node's handler
abbrev pub thrown_state : Conf → Frame → List Frame → NodeInfo → Site → Object → Conf
thrown_state c f below info error o = record {
  heap = with_new c.heap error o;
  frames =
      record f {
        registers = slice_set f.registers thrown.0
            (value.Object (new_address c.heap error));
        node = info.handler;
      } ∷ below;
  steps = c.steps + 1;
}

-- an error is thrown, or the run leaves the profile, where its message is longer than any text
abbrev pub IsThrow : Conf → Frame → List Frame → NodeInfo → Site → Thrown → Option Event → Type 0
IsThrow c f below info error t step =
    ((length t.message ≤ max_units) × (step ≡ Some
    (event.Next (thrown_state c f below info error (error_object t.prototype t.message)))))
    ⊎ ((max_units < length t.message) × (step ≡ Some
    (event.End (ending.Scope TextLength info.place) (record c { steps = c.steps + 1 }))))

-- the step throws the error of the operation's kind, at a site for errors of the node at which the
-- top frame stands
pub record Throws (p : Program) (c : Conf) (answer : Answer) (o : Operation) : Type 0 where
  pub top : Frame
  pub below : List Frame
  pub frames_are : c.frames ≡ top ∷ below
  pub info : NodeInfo
  pub info_is : node_at p top.function top.node ≡ Some info
  pub operation_is : operation_at p top.function info o.kind ≡ o
  pub thrown : Thrown
  pub thrown_is : error_of p info.node o.kind ≡ Some thrown
  pub error : Site
  pub site : Contains (makings info.node) (making error class.Error)
  pub throws : IsThrow c top below info error thrown (step p c answer)

-- what goes wrong is what throws, with each answer that the state wants
abbrev pub FaultsThrow : Program → Type 0
FaultsThrow p =
    (answers : List Answer) (c : Conf) (answer : Answer) (o : Operation)
    → state_of p answers ≡ Some c → IsTrue (fits p (wants p c) answer)
    → (fault_of p c ≡ Some o) ↔ Throws p c answer o
