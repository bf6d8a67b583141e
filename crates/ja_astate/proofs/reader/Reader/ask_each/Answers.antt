use Rattle.std.proofs.Common.{false, ap, sym, ◌∙◌}
use Rattle.ja_astate.specs.code.Walks.{Meeting, met_of, join_meetings}
use Rattle.ja_astate.proofs.Meetings.{met_over_more}
use Rattle.ja_astate.proofs.reader.Reader.ask_each.Goals as goal

pub loop-member-preserved : goal.loop-member-preserved
loop-member-preserved g c =
    c.in_ok-join.ensures
    ∙ ap (λ (m : Meeting). join_meetings m (met_of c.in_ok-one.one)) c.loop-member.invariant
    ∙ ap (join_meetings _) c.in_ok-one.ensures
    ∙ sym (met_over_more (g.A.Asks.meets c.args.asker.now) c.args.members.now
    c.loop-member.member-index (record { site = record { 0 = 0 }; old = false })
    c.loop-member-test.true)
