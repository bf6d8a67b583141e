-- The files before this one are programs by themselves.
use Rattle.std.specs.List.{AllByRecursion}
use Rattle.std.proofs.Common.{take}
use Rattle.ja_lint_top.specs.Refusals.{IsAlone}
use Rattle.ja_lint_top.proofs.refusing.first_refused.Given as goal

abbrev pub invariant-loop-number : goal.invariant-loop-number
invariant-loop-number l = AllByRecursion IsAlone (take l.number l.files)
