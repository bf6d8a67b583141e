use Rattle.ja_graph.proofs.OnceLemmas.{OnceBelow, HaveOneName}
use Rattle.ja_graph.proofs.well_formed_opening.are_once.Given as goal

abbrev pub invariant-loop-k : goal.invariant-loop-k
invariant-loop-k l = OnceBelow HaveOneName l.properties l.k
