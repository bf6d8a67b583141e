-- What clauses of the code cite beside `Input`, and no believed statement.
use Rattle.std.specs.Prelude.{◌≡◌, Result, Ok, Err}
use Rattle.ja_grammar.specs.declared.fault.Stop.{Stop}
use Rattle.ja_grammar.specs.declared.fault.Stop.TheVariants.{Refused as IsRefused, Memory}
use Rattle.ja_grammar.specs.Input.{Tokens, Outcome, Done, Refused}

-- ---- what a function that reads ensures: the outcome, unless memory was refused

abbrev pub Follows : {A : Type 0} → Outcome A → Result A Stop → Tokens → Type 0
Follows outcome (Ok a) new = outcome ≡ Done a new
Follows outcome (Err (IsRefused why)) new = outcome ≡ Refused why new
Follows outcome (Err Memory) new = Unit {0}
