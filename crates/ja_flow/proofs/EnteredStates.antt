-- The state with which an edge enters its callee, and what the edge demands of the caller.
use Rattle.std.proofs.Common.{◌≡◌, ℕ, Result, Ok, Err, length, ap, ◌∙◌, vec_len}
use Rattle.std.specs.Prelude.{IfOk}
use Rattle.ja_base.specs.declared.ids.Memory.{Memory}
use Rattle.ja_graph.specs.declared.node.Node.{Node}
use Rattle.ja_graph.specs.declared.program.Program.{Program}
use Rattle.ja_machine.specs.Frames.{parameters_of}
use Rattle.ja_abstract.specs.AbstractState.{AbstractState}
use Rattle.ja_abstract.specs.AbstractValue.{AbstractValue, of_label}
use Rattle.ja_abstract.specs.Reading.{View, both, no_demands}
use Rattle.ja_abstract.specs.Resolved.{Demands}
use Rattle.ja_rows.specs.Calls as calls
use Rattle.ja_aheap.specs.Heap.{heap_of}
use Rattle.ja_astate.specs.declared.state.AState.{AState}
use Rattle.ja_astate.specs.State.{IsStateOf}
use Rattle.ja_flow.specs.declared.caller.Caller.{Caller}
use Rattle.ja_flow.specs.Flow.{caller_node, caller_view}
use Rattle.ja_flow.proofs.AtCalling.{calling_at}

-- a state of a program, by its parts
pub is_state : (p : Program) (sites names count : ℕ) (r : Result AState Memory)
    → sites ≡ length p.sites → names ≡ length p.names
    → IfOk r (λ a. (heap_of a.heap).sites ≡ sites) → IfOk r (λ a. (heap_of a.heap).names ≡ names)
    → IfOk r (λ a. vec_len a.registers ≡ count) → IfOk r (IsStateOf p count)
is_state p sites names count (Ok a) all_sites all_names of_sites of_names registers =
    record {
      heap = record { sites = of_sites ∙ all_sites; names = of_names ∙ all_names };
      registers = registers;
    }
is_state p sites names count (Err e) all_sites all_names of_sites of_names registers = tt

module _ (k : Caller) (w : View) (w_is : w ≡ calling_at k) where
  abbrev n : Node
  n = caller_node k

  abbrev f : ℕ
  f = k.edge.callee.function.0

  pub entered_state : (parameters : ℕ)
      → parameters ≡ parameters_of k.reader.program.now k.edge.callee.function
      → (chain callee : AbstractValue) → chain ≡ calls.chain_value w n f
      → callee ≡ calls.callee_value w n f → (a : AbstractState)
      → a ≡ calls.entry_of parameters (of_label k.edge.callee.receiver) chain callee
      (calls.given w k.edge.caller.function parameters n)
      → a ≡ (calls.entered_by (caller_view k) k.edge n).state
  entered_state parameters many chain callee chain_is callee_is a is =
      let chain_at = chain_is ∙ ap (λ (v : View). calls.chain_value v n f) w_is in
      let callee_at = callee_is ∙ ap (λ (v : View). calls.callee_value v n f) w_is in
      is
      ∙ (λ i. calls.entry_of (many i) (of_label k.edge.callee.receiver) (chain_at i) (callee_at i)
      (calls.given (w_is i) k.edge.caller.function (many i) n))

  pub entered_demands : (parameters : ℕ)
      → parameters ≡ parameters_of k.reader.program.now k.edge.callee.function
      → (own first called more all : Demands)
      → own ≡ calls.demands_of_calling (caller_view k) n f → first ≡ no_demands
      → called ≡ both first (calls.demands_of_chain w n f)
      → more ≡ (calls.given w k.edge.caller.function parameters n).demands
      → all ≡ both called more
      → both own all ≡ (calls.entered_by (caller_view k) k.edge n).demands
  entered_demands parameters many own first called more all own_is first_is called_is more_is is =
      let called_at : called ≡ calls.demands_of_chain (calling_at k) n f =
      called_is ∙ ap (λ (d : Demands). both d (calls.demands_of_chain w n f)) first_is
      ∙ ap (λ (v : View). calls.demands_of_chain v n f) w_is in
      let more_at : more ≡ (calls.given (calling_at k) k.edge.caller.function
      (parameters_of k.reader.program.now k.edge.callee.function) n).demands =
      more_is ∙ (λ i. (calls.given (w_is i) k.edge.caller.function (many i) n).demands) in
      ap (both own) is ∙ (λ i. both (own_is i) (both (called_at i) (more_at i)))
