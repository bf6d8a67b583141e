-- By what the matches have of each argument.
use Rattle.std.proofs.Common.{codes, ◌∙◌}
use Rattle.clap.specs.Words.{found_of}
use Rattle.clap.proofs.WalkLemmas.{first_value-rows, one_text-rows}
use Rattle.ja_lint_words.proofs.reading.words_of.Goals as goal

pub returns : goal.returns
returns c =
    let found = found_of c.args.matches.now in
    record {
      devices = c.in_ok-devices.ensures;
      format = c.get_str.ensures ∙ first_value-rows found (codes "format");
      rows = (
        λ e. c.get_flag.ensures.value (one_text-rows found (codes "rows") ∙ e),
        λ e. c.get_flag.ensures.other (one_text-rows found (codes "rows") ∙ e),
      );
      help = (
        λ e. c.get_flag-2.ensures.value (one_text-rows found (codes "help") ∙ e),
        λ e. c.get_flag-2.ensures.other (one_text-rows found (codes "help") ∙ e),
      );
      version = (
        λ e. c.get_flag-3.ensures.value (one_text-rows found (codes "version") ∙ e),
        λ e. c.get_flag-3.ensures.other (one_text-rows found (codes "version") ∙ e),
      );
      files = c.in_ok-files.ensures;
    }
