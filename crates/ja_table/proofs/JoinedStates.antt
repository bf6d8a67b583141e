-- States of one program and function, and their shape.
use Rattle.std.specs.Prelude.{ℕ}
use Rattle.std.proofs.Common.{sym, ◌∙◌}
use Rattle.ja_graph.specs.declared.program.Program.{Program}
use Rattle.ja_astate.specs.declared.state.AState.{AState}
use Rattle.ja_astate.specs.State.{IsStateOf, HaveOneShape}

-- a state of the shape of another is of its program and function
pub of_shape : (p : Program) (count : ℕ) (a b : AState) → HaveOneShape a b → IsStateOf p count a
    → IsStateOf p count b
of_shape p count a b s h = record {
  heap = record { sites = sym s.sites ∙ h.heap.sites; names = sym s.names ∙ h.heap.names };
  registers = sym s.registers ∙ h.registers;
}

-- states of one program and function have one shape
pub one_shape : (p : Program) (count : ℕ) (a b : AState) → IsStateOf p count a
    → IsStateOf p count b → HaveOneShape a b
one_shape p count a b h k = record {
  sites = h.heap.sites ∙ sym k.heap.sites;
  names = h.heap.names ∙ sym k.heap.names;
  registers = h.registers ∙ sym k.registers;
}

-- what has the shape of one state has that of another of its shape
pub shape_between : (a b c : AState) → HaveOneShape a b → HaveOneShape a c → HaveOneShape b c
shape_between a b c h k = record {
  sites = sym h.sites ∙ k.sites;
  names = sym h.names ∙ k.names;
  registers = sym h.registers ∙ k.registers;
}
