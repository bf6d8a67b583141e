-- A register that a node sets is one of the frame's, and none that holds an argument.
use Rattle.std.specs.Prelude.{◌≡◌, ◌⊎◌, ◌≢◌, ◌<◌, ◌≤◌, ◌+◌, ◌==◌, ℕ, IsTrue, length}
use Rattle.std.specs.Option.{option_map_or}
use Rattle.std.proofs.Common.{sym, subst, ap, inl, inr, arith}
use Rattle.std.proofs.lemmas.Bool.{cond-false, ne_eqb}
use Rattle.ja_base.specs.declared.ids.NodeId.{NodeId}
use Rattle.ja_base.specs.declared.ids.Reg.{Reg}
use Rattle.ja_graph.specs.declared.program.Function.{Function}
use Rattle.ja_graph.specs.declared.program.Program.{Program}
use Rattle.ja_graph.specs.WellFormed.{IsDestination}
use Rattle.ja_machine.specs.declared.machine.Value.{Value}
use Rattle.ja_machine.specs.declared.machine.Heap.{Heap}
use Rattle.ja_machine.specs.declared.machine.Frame.{Frame}
use Rattle.ja_machine.specs.Frames.{parameters_of, with_result}
use Rattle.ja_machine.specs.State.{IsFrame}
use Rattle.ja_abstract.specs.AbstractValue.{AbstractValue}
use Rattle.ja_abstract.specs.AbstractState.{AbstractState, with_register}
use Rattle.ja_abstract.specs.Made.{rest_register}
use Rattle.ja_meaning.specs.Meaning.{has_value}
use Rattle.ja_meaning.proofs.Held.{HoldsOfFrame}
use Rattle.ja_meaning.proofs.Frames.{registers_with_result}

pub record IsDestinationOf (p : Program) (f : Frame) (dst : Reg) : Type 0 where
  pub fits : dst.0 < length f.registers
  pub apart : dst.0 ≢ rest_register (parameters_of p f.function)

-- the state with the register set holds of the frame with the result
pub frame_with_result :
    (p : Program) (h : Heap) (f : Frame) (a : AbstractState) (dst : Reg) (v : Value)
    (u : AbstractValue) (next : NodeId) → IsDestinationOf p f dst → IsTrue (has_value h u v)
    → HoldsOfFrame p h f a
    → HoldsOfFrame p h (with_result f dst v next) (with_register a dst u)
frame_with_result p h f a dst v u next dest has holds = record {
  registers = registers_with_result h f a dst v u dest.fits has holds.registers;
  rest =
      λ i x more is. let r = rest_register (parameters_of p f.function) in
      subst (λ (s : AbstractValue). IsTrue (has_value h s x))
      (sym (cond-false (dst.0 == r) u (a.register r) (ne_eqb dst.0 r dest.apart)))
      (holds.rest i x more is);
}

-- ---- the registers that a function's nodes may set

module _ (p : Program) (h : Heap) (f : Frame) (known : IsFrame p h f) where
  pub parameters_are : parameters_of p f.function ≡ length known.function.parameters
  parameters_are =
      ap (λ o. option_map_or (λ (fn : Function). length fn.parameters) o 0) known.function_is

  apart_by : (n : ℕ)
      → (n ≡ 0) ⊎ ((n ≡ 2) ⊎ (6 + length known.function.parameters ≤ n))
      → n ≢ 5 + parameters_of p f.function
  apart_by n (inl z) same = let k = parameters_are in absurd (omega arith)
  apart_by n (inr (inl z)) same = let k = parameters_are in absurd (omega arith)
  apart_by n (inr (inr l)) same =
      let k : parameters_of p f.function ≡ length known.function.parameters = parameters_are in
      absurd (omega arith)

  pub destination_of : (r : Reg) → IsDestination known.function r → IsDestinationOf p f r
  destination_of r d =
      let k : length f.registers ≡ known.function.registers = known.registers in
      let l : r.0 < known.function.registers = d.0 in
      record { fits = omega arith; apart = apart_by r.0 d.1 }
