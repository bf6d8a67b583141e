use Rattle.std.proofs.Common.{◌≡◌, take}
use Rattle.ja_load.proofs.loading.names_before.Given as goal

abbrev pub invariant-loop-name : goal.invariant-loop-name
invariant-loop-name l = l.names.items ≡ take l.name-index l.prelude.names
