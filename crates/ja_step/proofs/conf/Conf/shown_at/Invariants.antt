use Rattle.std.proofs.Common.{◌≡◌, drop}
use Rattle.std.specs.Prelude.{filter, slice_get}
use Rattle.ja_machine.specs.Enumeration.{shows}
use Rattle.ja_step.proofs.conf.Conf.shown_at.Given as goal

abbrev pub invariant-loop-index : goal.invariant-loop-index
invariant-loop-index l =
    slice_get (filter (shows l.self.heap l.a) (drop l.index l.names.items)) l.before
    ≡ slice_get (filter (shows l.self.heap l.a) l.names.items) l.fn.place
