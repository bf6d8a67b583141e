-- The registers of the opening state, one by one.
use Rattle.std.specs.Prelude.{ℕ, ◌==◌, ◌||◌, if◌then◌else◌}
use Rattle.ja_graph.specs.Program.{global}
use Rattle.ja_graph.specs.declared.registers.TheConstants.{COUNT, SCOPE, THIS}
use Rattle.ja_abstract.specs.AbstractValue.{AbstractValue, of_label, undefined_value}
use Rattle.ja_abstract.specs.AbstractState.{new}
use Rattle.ja_abstract.specs.Made.{whole_constant}

-- the receiver and the scope chain are the global object, and there are no arguments
abbrev pub opening_register : ℕ → AbstractValue
opening_register r =
    if r == THIS.0 || r == SCOPE.0 then of_label (new global)
    else if r == COUNT.0 then whole_constant 0 else undefined_value
