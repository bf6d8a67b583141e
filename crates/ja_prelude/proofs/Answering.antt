-- What the parser answers to the tokens of a text in the language.
use Rattle.std.proofs.Common.{◌≡◌, ℕ, true, List, Ok, Err, refl}
use Rattle.ja_grammar.specs.Input.{strict, Outcome, Done, Refused}
use Rattle.ja_grammar.specs.code.Answering.{Answers}
use Rattle.ja_grammar.specs.Language.{max_levels}
use Rattle.ja_grammar.specs.ReadStatement.{program}
use Rattle.ja_grammar.specs.declared.fault.ParseFault.{ParseFault}
use Rattle.ja_grammar.specs.declared.fault.ParseFault.TheVariants.{Syntax, Scope, Depth, Memory}
use Rattle.ja_lex.specs.Tokens.{tokens}
use Rattle.ja_syntax.specs.declared.tree.Statement.{Statement}
use Rattle.ja_prelude.specs.Reading.{numbered, is_read, statements_in, is_text, tree_of}

found_is : (o : Outcome (List Statement)) (found : List Statement) → Answers o (Ok found)
    → found ≡ statements_in o
found_is (Done xs r) found h = h
found_is (Refused why r) found h = absurd h

only_memory : (o : Outcome (List Statement)) (fault : ParseFault) → is_read o ≡ true
    → Answers o (Err fault) → fault ≡ Memory
only_memory o Memory read h = refl
only_memory (Done xs r) (Syntax place) read h = absurd h
only_memory (Done xs r) (Scope kind place) read h = absurd h
only_memory (Done xs r) (Depth place) read h = absurd h
only_memory (Refused why r) fault read h = absurd (cc)

pub read_is : (text : List ℕ) (found : List Statement)
    → Answers (program strict max_levels (numbered 1 (tokens text))) (Ok found)
    → found ≡ tree_of text
unfolding tree_of
read_is text found h = found_is (program strict max_levels (numbered 1 (tokens text))) found h

pub read_fails : (text : List ℕ) (fault : ParseFault) → is_text text ≡ true
    → Answers (program strict max_levels (numbered 1 (tokens text))) (Err fault) → fault ≡ Memory
unfolding is_text
read_fails text fault read h =
    only_memory (program strict max_levels (numbered 1 (tokens text))) fault read h
