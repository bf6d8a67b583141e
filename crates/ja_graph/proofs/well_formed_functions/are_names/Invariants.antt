use Rattle.std.proofs.Common.{◌↔◌, drop}
use Rattle.std.specs.List.{AllByRecursion}
use Rattle.ja_graph.specs.WellFormed.{IsName}
use Rattle.ja_graph.proofs.well_formed_functions.are_names.Given as goal

abbrev pub invariant-loop-name : goal.invariant-loop-name
invariant-loop-name l =
    AllByRecursion (IsName l.program) (drop l.name-index l.names)
    ↔ AllByRecursion (IsName l.program) l.names
