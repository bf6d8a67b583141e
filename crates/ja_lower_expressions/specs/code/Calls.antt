-- What clauses of the code cite beside `Calls`, and no believed statement.
use Rattle.std.specs.Prelude.{◌≡◌, Result, Ok, Err}
use Rattle.std.specs.Global.{Vec}
use Rattle.ja_base.specs.declared.ids.Memory.{Memory}
use Rattle.ja_base.specs.declared.ids.Reg.{Reg}
use Rattle.ja_lower_draft.specs.Lines.{Listing}
use Rattle.ja_lower_expressions.specs.Calls.{Arguments}

-- what the function that lists arguments gives, unless memory was refused
abbrev pub Lists : Arguments → Result (Vec Reg) Memory → Listing → Type 0
Lists a (Ok values) new = a ≡ record { listing = new; values = values.items }
Lists a (Err e) new = Unit {0}
