-- The arguments that a function is given, as they are kept.
use Rattle.std.specs.Prelude.{◌≡◌, ◌==◌, ◌<◌, ◌+◌, ◌-◌, ℕ, ℤ, pos, if◌then◌else◌, nat_lt, map, vec_len}
use Rattle.std.specs.List.{range_with_len}
use Rattle.ja_base.specs.declared.ids.FnId.{FnId}
use Rattle.ja_graph.specs.declared.node.Node.{Node}
use Rattle.ja_machine.specs.Frames.{parameters_of}
use Rattle.ja_abstract.specs.AbstractValue.{AbstractValue, undefined_value}
use Rattle.ja_abstract.specs.Made.{whole_constant}
use Rattle.ja_abstract.specs.Reading.{View}
use Rattle.ja_rows.specs.Calls.{Arguments as Given, callee_value, chain_value}
use Rattle.ja_aheap.specs.Objects.{demands_in}
use Rattle.ja_astate.specs.declared.reader.Reader.{Reader}
use Rattle.ja_value.specs.Value.{value_of}
use Rattle.ja_flow.specs.declared.arguments.Arguments.{Arguments}
use Rattle.ja_flow.specs.declared.entering.Called.{Called}

-- as many parameters as a function has, the rest of the arguments, and their count
pub record AreArguments (parameters : ℕ) (given : Given) (kept : Arguments) : Type 0 where
  pub parameters_are : map value_of kept.parameters.items
      ≡ map given.parameter (range_with_len 0 parameters)
  pub rest : value_of kept.rest ≡ given.rest
  pub count : value_of kept.count ≡ given.count
  pub demands_are : demands_in kept.demands ≡ given.demands

-- a register for each parameter of the caller, and one for the rest of its arguments behind them
pub record HasRest (r : Reader) (f : FnId) : Type 0 where
  pub registers : 5 + parameters_of r.program.now f < vec_len r.state.now.registers
  pub few : 5 + parameters_of r.program.now f < 4294967296

-- the callee of a function's entry, and its scope chain
pub record IsCalled (w : View) (n : Node) (f : ℕ) (kept : Called) : Type 0 where
  pub callee : value_of kept.callee ≡ callee_value w n f
  pub chain : value_of kept.chain ≡ chain_value w n f

-- the value of a register behind those that each function has
abbrev pub later_register : ℕ → Given → ℕ → AbstractValue
later_register parameters g n =
    if nat_lt n parameters then g.parameter n
    else if n == parameters then g.rest else undefined_value

-- one less than a number, and at least 0
abbrev pub one_less : ℤ → AbstractValue
one_less (pos n) = whole_constant (n - 1)
one_less z = whole_constant 0
