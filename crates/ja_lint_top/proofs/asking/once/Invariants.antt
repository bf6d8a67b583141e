-- What is kept, and what is still to keep of the names that are left, is the whole.
use Rattle.std.proofs.Common.{◌≡◌, []}
use Rattle.ja_lint_top.specs.Refusals.{unseen}
use Rattle.ja_lint_top.proofs.Once.{texts_of, whole_of}
use Rattle.ja_lint_top.proofs.asking.once.Given as goal

abbrev pub invariant-loop-name : goal.invariant-loop-name
invariant-loop-name l = whole_of l.kept.items l.names l.name-index ≡ unseen [] (texts_of l.names)
