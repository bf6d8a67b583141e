use Rattle.std.proofs.Common.{◌≡◌, map}
use Rattle.ja_machine.specs.Nodes.{name_text}
use Rattle.ja_machine.specs.Objects.{with_parameters}
use Rattle.ja_operations.proofs.Sharing.{all_bound}
use Rattle.ja_operations.proofs.activations.with_parameters.Given as goal

abbrev pub invariant-loop-index : goal.invariant-loop-index
invariant-loop-index l =
    record l.object {
      properties = all_bound (name_text l.program) l.parameters l.arguments l.flags
          l.index l.object.properties;
    } ≡ record l.fn.object {
      properties = with_parameters l.fn.object.properties
          (map (name_text l.program) l.parameters) l.arguments l.flags;
    }
