use Rattle.ja_graph.proofs.OnceLemmas.{OnceBelow, AreSame}
use Rattle.ja_graph.proofs.well_formed_names.are_distinct.Given as goal

abbrev pub invariant-loop-k : goal.invariant-loop-k
invariant-loop-k l = OnceBelow AreSame l.names l.k
