use Rattle.std.proofs.Common.{◌≡◌, drop}
use Rattle.std.specs.List.{list_any}
use Rattle.ja_machine.specs.Values.{is_object}
use Rattle.ja_step.proofs.frame.Frame.device_wants.Given as goal

abbrev pub invariant-loop-value : goal.invariant-loop-value
invariant-loop-value l =
    list_any is_object (drop l.value-index l.self.arguments.items)
    ≡ list_any is_object l.self.arguments.items
