-- What the analyser's states stand for.
use Rattle.std.specs.Prelude.{◌≡◌, ℕ, List, slice_get, vec_len}
use Rattle.std.specs.Option.{option_map_or}
use Rattle.ja_graph.specs.declared.program.Program.{Program}
use Rattle.ja_abstract.specs.AbstractValue.{AbstractValue, undefined_value, entry_property}
use Rattle.ja_abstract.specs.AbstractState.{AbstractState, exactly_none}
use Rattle.ja_value.specs.declared.value.AValue.{AValue}
use Rattle.ja_value.specs.Value.{value_of}
use Rattle.ja_aheap.specs.Heap.{heap_of, IsHeapOf}
use Rattle.ja_astate.specs.declared.state.AState.{AState}

-- a register that there isn't is undefined
abbrev pub register_in : List AValue → ℕ → AbstractValue
register_in values r = option_map_or value_of (slice_get values r) undefined_value

abbrev pub state_of : AState → AbstractState
state_of a =
    record {
      register = register_in a.registers.items;
      property = (heap_of a.heap).property;
      mask = (heap_of a.heap).mask;
    }

-- the state at a function's entry with these registers
abbrev pub entry_with : List AValue → AbstractState
entry_with values =
    record {
      register = register_in values;
      property = λ l k. entry_property;
      mask = λ s. exactly_none;
    }

-- a state of a program, of so many registers
pub record IsStateOf (p : Program) (count : ℕ) (a : AState) : Type 0 where
  pub heap : IsHeapOf p (heap_of a.heap)
  pub registers : vec_len a.registers ≡ count

-- states of one program with equally many registers
pub record HaveOneShape (a b : AState) : Type 0 where
  pub sites : (heap_of a.heap).sites ≡ (heap_of b.heap).sites
  pub names : (heap_of a.heap).names ≡ (heap_of b.heap).names
  pub registers : vec_len a.registers ≡ vec_len b.registers
