use Rattle.std.proofs.Common.{List, filter, not, subst, ap, sym, ◌∙◌}
use Rattle.ja_base.specs.declared.ids.Label.{Label}
use Rattle.ja_abstract.specs.AbstractState.{labels_of}
use Rattle.ja_abstract.specs.AbstractValue.{Labels}
use Rattle.ja_value.specs.Value.{labels_in}
use Rattle.ja_astate.specs.code.Walks.{Meeting, met_of, met_over, join_meetings}
use Rattle.ja_astate.proofs.Meetings.{same_meeting}
use Rattle.ja_astate.proofs.Walking.{Walking, Round, begun, walking_begun, round_done, walking_done, no_member}
use Rattle.ja_astate.proofs.reader.Reader.walk.Given.{Over}
use Rattle.ja_astate.proofs.reader.Reader.walk.Goals as goal

pub rounds-init : goal.rounds-init
rounds-init g c =
    let meets = g.A.Asks.meets c.args.asker.now in
    let labels = labels_of c.args.self.now.program.now in
    let start = labels_in c.args.start.now in
    let none = c.nothing-met.ensures in
    walking_begun meets labels start _ c.in_ok-members.members.items
    (same_meeting _ (begun start) c.in_ok-met.ensures (ap (λ (m : Meeting). m.property) none)
    (ap (λ (m : Meeting). m.may_end) none) (ap (λ (m : Meeting). m.demands) none))
    c.in_ok-members.ensures

-- the members are asked, and those that they lead to are added
round : (g : Over) (c : goal.In_ok-join g) → Round (g.A.Asks.meets c.args.asker.now)
    (labels_of c.args.self.now.program.now) (labels_in c.args.start.now) (met_of c.rounds.met)
    c.rounds.members.items (met_of c.join.new.self) c.in_ok-members-2.members.items
round g c =
    let meets = g.A.Asks.meets c.args.asker.now in
    let labels = labels_of c.args.self.now.program.now in
    let known = labels_in c.rounds.met.labels in
    let met_is = c.in_ok-round.ensures ∙ ap (met_over meets) c.deref.ensures.value in
    round_done meets labels (labels_in c.args.start.now) (met_of c.rounds.met)
    c.rounds.members.items c.rounds.invariant (met_of c.join.new.self)
    c.in_ok-members-2.members.items
    (c.in_ok-join.ensures ∙ ap (join_meetings (met_of c.rounds.met)) met_is)
    (c.in_ok-members-2.ensures ∙ ap (λ (s : Labels). filter (λ l. not (known l)) (filter s labels))
    (ap (λ (m : Meeting). m.labels) met_is)) _ c.rounds.members.ok.0
    (sym c.is_empty.ensures ∙ c.rounds-test.true)

pub rounds-smaller : goal.rounds-smaller
rounds-smaller g c = (round g c).fewer

pub rounds-preserved : goal.rounds-preserved
rounds-preserved g c = (round g c).walking

pub returns : goal.returns
returns g c =
    let meets = g.A.Asks.meets c.args.asker.now in
    let labels = labels_of c.args.self.now.program.now in
    let start = labels_in c.args.start.now in
    let P : List Label → Type 0 = λ ms. Walking meets labels start (met_of c.rounds.met) ms in
    let none = no_member c.rounds.members.items _ c.rounds.members.ok.0
    (sym c.is_empty.ensures ∙ c.rounds-test.false) in
    walking_done meets labels start (met_of c.rounds.met) (subst P none c.rounds.invariant)
