use Rattle.std.proofs.Common.{◌≡◌, take}
use Rattle.ja_graph.proofs.well_formed_names.is_text.Given as goal

abbrev pub invariant-loop-k : goal.invariant-loop-k
invariant-loop-k l = take l.k l.units ≡ take l.k l.bytes
