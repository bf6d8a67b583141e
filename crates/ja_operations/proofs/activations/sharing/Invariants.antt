use Rattle.ja_machine.specs.Nodes.{name_text}
use Rattle.ja_operations.proofs.Sharing.{AreMarks}
use Rattle.ja_operations.proofs.activations.sharing.Given as goal

abbrev pub invariant-loop-index : goal.invariant-loop-index
invariant-loop-index l =
    AreMarks (name_text l.program) l.parameters l.arguments l.index l.flags.items
