use Rattle.std.proofs.Common.{rules, Ok, Err}
use Rattle.ja_grammar.specs.Input.{strict}
use Rattle.ja_grammar.specs.code.Answering.{Answers}
use Rattle.ja_grammar.specs.Language.{max_levels}
use Rattle.ja_grammar.specs.ReadStatement.{program}
use Rattle.ja_grammar.proofs.Theorem.{answered_tree, answered_only, answered_none}
use Rattle.ja_grammar.proofs.KeepsPrograms.{spelled_keeps}
use Rattle.ja_lex.specs.Tokens.{tokens}
use Rattle.ja_parse.proofs.reader.parse.Goals as goal

pub returns-in-Ok-read-clause-only : goal.returns-in-Ok-read-clause-only
returns-in-Ok-read-clause-only c =
    let h : Answers (program strict max_levels (tokens c.args.text.now))
    (Ok c.in-Ok-read.statements) = search rules in
    answered_only (tokens c.args.text.now) c.in-Ok-read.statements h

pub returns-in-Ok-read-clause-rules : goal.returns-in-Ok-read-clause-rules
returns-in-Ok-read-clause-rules c =
    let h : Answers (program strict max_levels (tokens c.args.text.now))
    (Ok c.in-Ok-read.statements) = search rules in
    spelled_keeps max_levels (tokens c.args.text.now) c.in-Ok-read.statements
    (answered_tree (tokens c.args.text.now) c.in-Ok-read.statements h)

pub returns-clause-none : goal.returns-clause-none
returns-clause-none c =
    let h : Answers (program strict max_levels (tokens c.args.text.now))
    (Err c.in-Err.fault) = search rules in
    answered_none (tokens c.args.text.now) c.in-Err.fault h
