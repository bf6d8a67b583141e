use Rattle.std.proofs.Common.{◌≡◌, ◌==◌, drop}
use Rattle.std.specs.List.{find}
use Rattle.ja_graph.specs.declared.program.ObjectSpec.{ObjectSpec}
use Rattle.ja_graph.proofs.well_formed_opening.has_object.Given as goal

abbrev pub invariant-loop-object : goal.invariant-loop-object
invariant-loop-object l =
    find (λ (o : ObjectSpec). o.site.0 == l.site) (drop l.object-index l.program.opening)
    ≡ find (λ (o : ObjectSpec). o.site.0 == l.site) l.program.opening
