use Rattle.std.proofs.Common.{◌≡◌, take}
use Rattle.ja_astate.specs.code.Walks.{met_of, met_over}
use Rattle.ja_astate.proofs.reader.Reader.ask_each.Given as goal

abbrev pub invariant-loop-member : goal.invariant-loop-member
invariant-loop-member g l =
    met_of l.met ≡ met_over (g.A.Asks.meets l.asker) (take l.member-index l.members)
