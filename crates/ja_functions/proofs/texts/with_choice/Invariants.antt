use Rattle.std.proofs.Common.{◌≡◌, take}
use Rattle.ja_functions.proofs.texts.with_choice.Given as goal

abbrev pub invariant-loop-taken : goal.invariant-loop-taken
invariant-loop-taken l = l.list.items ≡ take l.taken-index l.chosen
