-- What is written, and what is listed of the words that are left, is the whole.
use Rattle.std.proofs.Common.{◌≡◌, ◌++◌, drop}
use Rattle.ja_lint_text.specs.Values.{listed}
use Rattle.ja_lint_text.proofs.listing.push_listed.Given as goal

abbrev pub invariant-loop-index : goal.invariant-loop-index
invariant-loop-index l =
    l.text.items ++ listed (drop l.index l.words) ≡ l.initial.text.items ++ listed l.words
