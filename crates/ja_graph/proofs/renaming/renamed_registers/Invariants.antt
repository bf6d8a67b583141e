use Rattle.std.proofs.Common.{◌≡◌, map, take}
use Rattle.ja_graph.proofs.renaming.renamed_registers.Given as goal

abbrev pub invariant-loop-register : goal.invariant-loop-register
invariant-loop-register g l =
    l.list.items ≡ map (g.R.Renames.renaming l.renaming).register
    (take l.register-index l.registers)
