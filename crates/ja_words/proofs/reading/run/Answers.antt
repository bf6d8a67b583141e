-- By what the matches have of the option.
use Rattle.std.proofs.Common.{Bor, List, Option, option_map, subst, sym, ℕ}
use Rattle.clap.specs.Words.{found_of, rows_of}
use Rattle.ja_words.specs.code.Answers.{ReadsRun}
use Rattle.ja_words.specs.declared.command.Command.{Command}
use Rattle.ja_words.proofs.MatchLemmas.{no_steps, run_read}
use Rattle.ja_words.proofs.reading.run.Goals as goal

pub returns-in_err-steps : goal.returns-in_err-steps
returns-in_err-steps c =
    let found = found_of c.args.options.now in
    subst (λ (r : Option Command). ReadsRun (rows_of found) r) (sym c.from_residual.ensures)
    (no_steps found (option_map (λ (s : Bor (List ℕ)). s.now) c.get_str.result) c.get_str.ensures
    c.in_err-steps.ensures.number)

pub returns : goal.returns
returns c =
    run_read (found_of c.args.options.now)
    (option_map (λ (s : Bor (List ℕ)). s.now) c.get_str.result)
    c.in_ok-steps.steps c.get_str.ensures c.in_ok-steps.ensures.number
