use Rattle.std.proofs.Common.{◌≡◌, map, drop}
use Rattle.std.specs.List.{list_any}
use Rattle.ja_prim.specs.Texts.{same_text}
use Rattle.ja_machine.specs.Nodes.{name_text}
use Rattle.ja_operations.proofs.activations.is_among.Given as goal

abbrev pub invariant-loop-parameter : goal.invariant-loop-parameter
invariant-loop-parameter l =
    list_any (same_text l.name) (map (name_text l.program) (drop l.parameter-index l.parameters))
    ≡ list_any (same_text l.name) (map (name_text l.program) l.parameters)
