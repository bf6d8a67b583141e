-- What a step that takes one token ensures.
use Rattle.std.specs.Prelude.{◌≡◌, Result, Ok, Err}
use Rattle.ja_lex.specs.declared.token.Token.{Token}
use Rattle.ja_grammar.specs.declared.fault.Stop.{Stop}
use Rattle.ja_grammar.specs.declared.fault.Stop.TheVariants.{Refused as IsRefused, Memory}
use Rattle.ja_grammar.specs.Input.{Tokens, Outcome, Done, Refused, head}

-- the outcome, where the next token is taken or refused
abbrev pub Takes : Outcome Token → Tokens → Result (Unit {0}) Stop → Tokens → Type 0
Takes outcome old (Ok _) new = outcome ≡ Done (head old) new
Takes outcome old (Err (IsRefused why)) new = outcome ≡ Refused why new
Takes outcome old (Err Memory) new = Unit {0}
