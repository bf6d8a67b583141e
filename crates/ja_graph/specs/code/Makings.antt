-- The makings of a node, as a list.
use Rattle.std.specs.Prelude.{List, []}
use Rattle.ja_graph.specs.declared.sites.FewMakings.{FewMakings}
use Rattle.ja_graph.specs.declared.sites.FewMakings.TheVariants.{None, One, Two, Four}
use Rattle.ja_graph.specs.Node.{Making}

-- those that are there, in order
abbrev pub listed : FewMakings → List Making
listed None = []
listed (One makings) = makings
listed (Two makings) = makings
listed (Four makings) = makings
