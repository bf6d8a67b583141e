-- By what the matches have of the argument.
use Rattle.std.proofs.Common.{ap, ◌∙◌}
use Rattle.clap.specs.Words.{found_of, rows_of}
use Rattle.ja_lint_words.specs.Words.{texts}
use Rattle.ja_lint_words.specs.code.Answers.{values_of}
use Rattle.ja_lint_words.proofs.MatchLemmas.{copied, no_values, some_values}
use Rattle.ja_lint_words.proofs.reading.values.Goals as goal

pub returns-in-Some : goal.returns-in-Some
returns-in-Some c =
    let found = found_of c.args.matches.now in
    copied c.from_slice.result c.in-Some.values.now
    (values_of c.args.name.now (rows_of found)) c.from_slice.ensures.items
    (some_values found c.args.name.now c.get_strs.result c.get_strs.ensures c.in-Some.values
    c.in-Some.is)

pub returns-in-None : goal.returns-in-None
returns-in-None c =
    ap texts c.new.ensures.items
    ∙ no_values (found_of c.args.matches.now) c.args.name.now c.get_strs.result c.get_strs.ensures
    c.in-None.is
