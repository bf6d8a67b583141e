-- By what the matches have of the option.
use Rattle.std.proofs.Common.{None, Option, Some, subst, sym, ℕ}
use Rattle.clap.specs.Words.{found_of, rows_of}
use Rattle.ja_words.specs.code.Answers.{ReadsGenerate}
use Rattle.ja_words.specs.declared.command.Command.{Command}
use Rattle.ja_words.proofs.MatchLemmas.{generate_read, no_number}
use Rattle.ja_words.proofs.reading.generate.Goals as goal

pub returns-in_err-word : goal.returns-in_err-word
returns-in_err-word c =
    let found = found_of c.args.options.now in
    subst (λ (r : Option Command). ReadsGenerate (rows_of found) r) (sym c.from_residual.ensures)
    (no_number found None c.in_err-word.ensures (λ (number : ℕ) says. says))

pub returns-in_err-number : goal.returns-in_err-number
returns-in_err-number c =
    let found = found_of c.args.options.now in
    subst (λ (r : Option Command). ReadsGenerate (rows_of found) r)
    (sym c.from_residual-in_err-number.ensures)
    (no_number found (Some c.in_ok-word.word.now) c.in_ok-word.ensures
    (λ number is. c.in_err-number.ensures number is))

pub returns : goal.returns
returns c =
    generate_read (found_of c.args.options.now) (Some c.in_ok-word.word.now)
    c.in_ok-number.number c.in_ok-word.ensures c.in_ok-number.ensures
