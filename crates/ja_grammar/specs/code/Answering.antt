-- What is answered where the reading functions come to an outcome.
use Rattle.std.specs.Prelude.{◌≡◌, List, Result, Ok, Err}
use Rattle.ja_syntax.specs.declared.tree.Statement.{Statement}
use Rattle.ja_grammar.specs.declared.fault.ParseFault.{ParseFault}
use Rattle.ja_grammar.specs.declared.fault.ParseFault.TheVariants.{Memory}
use Rattle.ja_grammar.specs.Input.{head, Outcome, Done, Refused}
use Rattle.ja_grammar.specs.Language.{fault_at}

-- the answer to an outcome, unless memory was refused
abbrev pub Answers : Outcome (List Statement) → Result (List Statement) ParseFault → Type 0
Answers outcome (Err Memory) = Unit {0}
Answers (Done xs r) (Ok found) = found ≡ xs
Answers (Done xs r) (Err fault) = ⊥
Answers (Refused why r) (Ok found) = ⊥
Answers (Refused why r) (Err fault) = fault ≡ fault_at why (head r)
