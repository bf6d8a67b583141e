-- By what clap makes of the words.
use Rattle.std.proofs.Common.{map, subst}
use Rattle.std.specs.String.{string_bytes}
use Rattle.ja_lint_words.specs.Words.{asked_of}
use Rattle.ja_lint_words.specs.code.Answers.{IsClapAnswer}
use Rattle.ja_lint_words.proofs.Whole.{answer_asks, refusal_asks_nothing}
use Rattle.ja_lint_words.proofs.words.asked.Goals as goal

pub returns-in-Ok : goal.returns-in-Ok
returns-in-Ok c =
    answer_asks c.args.words.now c.in-Ok-Some.matches (asked_of c.in-Ok.words)
    (subst (IsClapAnswer (map string_bytes c.args.words.now)) c.in-Ok-Some.field-0-is
    c.in-Ok-Some.ensures) c.in-Ok.ensures

pub returns-in-Ok-None : goal.returns-in-Ok-None
returns-in-Ok-None c = λ asked line.
    refusal_asks_nothing (map string_bytes c.args.words.now)
    (subst (IsClapAnswer (map string_bytes c.args.words.now)) c.in-Ok-None.field-0-is
    c.in-Ok-None.ensures) asked line
