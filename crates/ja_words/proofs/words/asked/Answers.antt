-- By what clap makes of the words.
use Rattle.std.proofs.Common.{map, subst, sym, ◌∙◌}
use Rattle.std.specs.String.{string_bytes}
use Rattle.clap.proofs.WalkLemmas.{list_any-map}
use Rattle.ja_words.specs.code.Answers.{IsClapAnswer}
use Rattle.ja_words.specs.code.Apps.{is_dashes}
use Rattle.ja_words.proofs.ReadingLemmas.{answer_asks, dashes_ask_nothing, refused_asks_nothing}
use Rattle.ja_words.proofs.words.asked.Goals as goal

pub returns-then-has_double_hyphen : goal.returns-then-has_double_hyphen
returns-then-has_double_hyphen c = λ command line.
    dashes_ask_nothing (map string_bytes c.args.words.now)
    (sym (list_any-map is_dashes string_bytes c.args.words.now) ∙ sym c.has_double_hyphen.ensures
    ∙ c.if-has_double_hyphen.true) command line

pub returns-in-Ok-Some : goal.returns-in-Ok-Some
returns-in-Ok-Some c =
    answer_asks (map string_bytes c.args.words.now) c.in-Ok-Some.matches
    (sym (list_any-map is_dashes string_bytes c.args.words.now) ∙ sym c.has_double_hyphen.ensures
    ∙ c.if-has_double_hyphen.false)
    (subst (IsClapAnswer (map string_bytes c.args.words.now)) c.in-Ok-Some.field-0-is
    c.in-Ok-Some.ensures)
    c.command_of.result c.command_of.ensures

pub returns-in-Ok-None : goal.returns-in-Ok-None
returns-in-Ok-None c = λ command line.
    refused_asks_nothing (map string_bytes c.args.words.now)
    (subst (IsClapAnswer (map string_bytes c.args.words.now)) c.in-Ok-None.field-0-is
    c.in-Ok-None.ensures)
    command line
