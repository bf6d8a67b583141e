use Rattle.std.proofs.Common.{◌≡◌, ◌++◌, take, drop}
use Rattle.ja_machine.specs.Frames.{without_first}
use Rattle.ja_step.proofs.enumeration.take_first.Given as goal

abbrev pub invariant-loop-index : goal.invariant-loop-index
invariant-loop-index l = record {
  same : l.names ≡ l.initial.names;
  rest : take l.index l.names.items ++ without_first (drop l.index l.names.items) l.name
      ≡ without_first l.names.items l.name;
}
