use Rattle.std.proofs.Common.{◌≡◌, ◌+◌, drop}
use Rattle.ja_step.specs.code.Lists.{place_of_list}
use Rattle.ja_step.proofs.frame.Frame.place.Given as goal

abbrev pub invariant-loop-index : goal.invariant-loop-index
invariant-loop-index l =
    l.index + place_of_list (drop l.index l.self.lists.items) l.list
    ≡ place_of_list l.self.lists.items l.list
