-- A reader of the caller's state at its node, and what stands there.
use Rattle.std.proofs.Common.{arith, ◌≡◌, ◌<◌, sym, subst, ap, ◌∙◌, vec_len}
use Rattle.std.specs.Option.{IfSome}
use Rattle.std.specs.List.{AllByRecursion}
use Rattle.ja_base.specs.declared.ids.Reg.{Reg}
use Rattle.ja_graph.specs.Node.{registers_named}
use Rattle.ja_machine.specs.Frames.{parameters_of}
use Rattle.ja_abstract.specs.AbstractState.{AbstractState}
use Rattle.ja_abstract.specs.Reading.{View}
use Rattle.ja_rows.specs.Calls as calls
use Rattle.ja_rows.specs.Out.{Point}
use Rattle.ja_rows.specs.Table.{point}
use Rattle.ja_astate.specs.declared.state.AState.{AState}
use Rattle.ja_astate.specs.State.{state_of}
use Rattle.ja_astate.specs.declared.reader.Reader.{Reader}
use Rattle.ja_astate.specs.Looks.{view_of}
use Rattle.ja_flow.specs.declared.caller.Caller.{Caller}
use Rattle.ja_flow.specs.declared.calling.Calling.{Calling}
use Rattle.ja_flow.specs.Flow.{caller_node, caller_view, IsCaller}
use Rattle.ja_flow.specs.code.Calling.{callee_of, state_in, IsCalling}
use Rattle.ja_flow.specs.code.Given.{HasRest}
use Rattle.ja_flow.proofs.AtNode.{callee_within, registers_within, fixed_within, few_registers}

-- it reads the state that is kept, and the values at the caller's entry
pub record ReadsCalling (k : Caller) (c : Calling) (r : Reader) : Type 0 where
  pub view : view_of r
      ≡ record (caller_view k) { state = state_of (state_in k.reader.state.now c) }
  pub state : r.state.now ≡ state_in k.reader.state.now c

abbrev pub calling_at : Caller → View
calling_at k = calls.calling (caller_view k) (caller_node k) k.edge.callee.function.0

module _ (k : Caller) (c : Calling) (r : Reader) (is : IsCalling k c)
    (reads : ReadsCalling k c r) where
  pub view_calling : view_of r ≡ calling_at k
  view_calling =
      reads.view
      ∙ ap (λ (a : AbstractState). record (caller_view k) { state = a }) is.state

  same_registers : vec_len k.reader.state.now.registers ≡ vec_len r.state.now.registers
  same_registers = is.shape.registers ∙ ap (λ (a : AState). vec_len a.registers) (sym reads.state)

  module _ (caller : IsCaller k) where
    abbrev x : Point
    x = point k.edge.caller k.edge.node k.info.now

    pub callee_there : IfSome (callee_of (caller_node k)) (λ c. c.1.0 < vec_len r.state.now.registers)
    callee_there =
        subst (λ n. IfSome (callee_of (caller_node k)) (λ c. c.1.0 < n)) same_registers
        (callee_within k.reader.program.now x k.reader.state.now caller.at_node)

    pub registers_there : AllByRecursion (λ (q : Reg). q.0 < vec_len r.state.now.registers)
        (registers_named (caller_node k))
    registers_there =
        subst (λ n. AllByRecursion (λ (q : Reg). q.0 < n) (registers_named (caller_node k)))
        same_registers
        (registers_within k.reader.program.now x k.reader.state.now caller.at_node)

    pub rest_there : HasRest r k.edge.caller.function
    rest_there =
        let same : parameters_of r.program.now k.edge.caller.function
        ≡ parameters_of k.reader.program.now k.edge.caller.function =
        ap (λ (w : View). parameters_of w.program k.edge.caller.function) reads.view in
        let fixed = fixed_within k.reader.program.now x k.reader.state.now caller.at_node in
        let few = few_registers k.reader.program.now x k.reader.state.now caller.at_node in
        record {
          registers = omega (arith, same, fixed, same_registers);
          few = omega (arith, same, fixed, few);
        }
