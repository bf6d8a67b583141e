-- What clauses of the code cite beside `References`, and no believed statement.
use Rattle.std.specs.Prelude.{◌≡◌, Result, Ok, Err}
use Rattle.ja_base.specs.declared.ids.Memory.{Memory}
use Rattle.ja_lower_expressions.specs.declared.outcome.Outcome.{Outcome}
use Rattle.ja_lower_draft.specs.Lines.{Listing}
use Rattle.ja_lower_expressions.specs.References.{Listed}

-- what the functions that list expressions give, unless memory was refused
abbrev pub Comes : Listed → Result Outcome Memory → Listing → Type 0
Comes r (Ok outcome) new = r ≡ record { listing = new; outcome = outcome }
Comes r (Err e) new = Unit {0}
