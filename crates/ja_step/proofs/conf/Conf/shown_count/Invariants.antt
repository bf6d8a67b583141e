use Rattle.std.proofs.Common.{◌≡◌, ◌≤◌, ◌+◌, drop, length}
use Rattle.std.specs.Prelude.{filter}
use Rattle.ja_machine.specs.Enumeration.{shows}
use Rattle.ja_step.proofs.conf.Conf.shown_count.Given as goal

abbrev pub invariant-loop-index : goal.invariant-loop-index
invariant-loop-index l = record {
  counted : l.count + length (filter (shows l.self.heap l.a) (drop l.index l.names.items))
      ≡ length (filter (shows l.self.heap l.a) l.names.items);
  bound : l.count ≤ l.index;
}
