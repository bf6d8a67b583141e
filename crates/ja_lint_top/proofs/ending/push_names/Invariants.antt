-- What is written, and what is listed of the files that are left, is the whole.
use Rattle.std.proofs.Common.{◌≡◌, ◌++◌, drop, map}
use Rattle.ja_lint_top.specs.Ending.{listed, name_shown}
use Rattle.ja_lint_top.proofs.ending.push_names.Given as goal

abbrev pub invariant-loop-index : goal.invariant-loop-index
invariant-loop-index l =
    l.out.items ++ listed (map name_shown (drop l.index l.files))
    ≡ l.initial.out.items ++ listed (map name_shown l.files)
