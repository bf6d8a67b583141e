-- Each value follows `=`, and the files stand behind `--`.
use Rattle.ja_lint_words.proofs.Whole.{has_words}
use Rattle.ja_lint_words.proofs.laws.everything_has_words.Goals as goal

pub returns : goal.returns
returns c = λ asked. has_words asked
