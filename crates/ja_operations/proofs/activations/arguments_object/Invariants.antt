use Rattle.std.proofs.Common.{◌≡◌}
use Rattle.ja_machine.specs.Frames.{object_or_undefined}
use Rattle.ja_machine.specs.Objects.{arguments_object}
use Rattle.ja_operations.proofs.Sharing.{all_elements}
use Rattle.ja_operations.proofs.activations.arguments_object.Given as goal

abbrev pub invariant-loop-index : goal.invariant-loop-index
invariant-loop-index l =
    record l.object { properties = all_elements l.arguments l.flags l.index l.object.properties } ≡
    arguments_object (object_or_undefined l.fn.callee) l.arguments l.flags
