use Rattle.std.proofs.Common.{◌↔◌, drop}
use Rattle.std.specs.List.{AllByRecursion}
use Rattle.ja_graph.specs.WellFormed.{NamesFunctions}
use Rattle.ja_graph.proofs.well_formed_sites.name_functions.Given as goal

abbrev pub invariant-loop-info : goal.invariant-loop-info
invariant-loop-info l =
    AllByRecursion (NamesFunctions l.program) (drop l.info-index l.sites)
    ↔ AllByRecursion (NamesFunctions l.program) l.sites
