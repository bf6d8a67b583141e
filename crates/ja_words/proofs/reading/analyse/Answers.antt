-- By what the matches have of each option.
use Rattle.std.proofs.Common.{Bor, List, Option, option_map, subst, sym, ℕ}
use Rattle.clap.specs.Words.{found_of, rows_of}
use Rattle.ja_words.specs.code.Answers.{ReadsAnalyse}
use Rattle.ja_words.specs.declared.command.Command.{Command}
use Rattle.ja_words.proofs.MatchLemmas.{analyse_read, no_budget}
use Rattle.ja_words.proofs.reading.analyse.Goals as goal

pub returns-in_err-budget : goal.returns-in_err-budget
returns-in_err-budget c =
    let found = found_of c.args.options.now in
    subst (λ (r : Option Command). ReadsAnalyse (rows_of found) r) (sym c.from_residual.ensures)
    (no_budget found (option_map (λ (s : Bor (List ℕ)). s.now) c.get_str.result) c.get_str.ensures
    c.in_err-budget.ensures)

pub returns : goal.returns
returns c =
    analyse_read (found_of c.args.options.now)
    (option_map (λ (s : Bor (List ℕ)). s.now) c.get_str.result)
    c.in_ok-budget.budget c.get_flag-cert.result c.get_str.ensures c.in_ok-budget.ensures
    c.get_flag-cert.ensures.value c.get_flag-cert.ensures.other
