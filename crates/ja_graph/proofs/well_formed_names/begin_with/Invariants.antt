use Rattle.std.proofs.Common.{◌≡◌, take, map}
use Rattle.ja_graph.proofs.well_formed_names.begin_with.Given as goal

abbrev pub invariant-loop-k : goal.invariant-loop-k
invariant-loop-k l = take l.k l.names ≡ map (λ t. t.now) (take l.k l.texts)
