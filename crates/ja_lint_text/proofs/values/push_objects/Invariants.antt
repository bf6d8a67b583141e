-- The words of the sites so far are added.
use Rattle.std.proofs.Common.{◌≡◌, ◌++◌, map, take}
use Rattle.ja_lint_text.specs.Values.{site_words}
use Rattle.ja_lint_text.proofs.values.push_objects.Given as goal

abbrev pub invariant-loop-site : goal.invariant-loop-site
invariant-loop-site l =
    l.words.items ≡ l.initial.words.items ++ map (site_words l.source.program.now
    l.source.files.now l.source.first_lines.now) (take l.site-index l.sites)
