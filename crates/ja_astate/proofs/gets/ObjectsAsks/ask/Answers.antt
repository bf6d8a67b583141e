use Rattle.std.proofs.Common.{Bool, ◌&&◌, ap, ◌∙◌}
use Rattle.ja_abstract.specs.AbstractValue.{AbstractProperty}
use Rattle.ja_abstract.specs.Reading.{both, demands_of_own, slot, present_property}
use Rattle.ja_abstract.specs.Resolved.{Demands, demands_of, prototype}
use Rattle.ja_astate.specs.Looks.{view_of}
use Rattle.ja_astate.specs.code.Asked.{object_met}
use Rattle.ja_astate.proofs.Asked.{leads_same, demands_same}
use Rattle.ja_astate.proofs.Meetings.{same_meeting}
use Rattle.ja_astate.proofs.gets.ObjectsAsks.ask.Goals as goal

pub returns : goal.returns
returns c =
    let w = view_of c.args.self.now.reader in
    let l = c.args.label in
    let keys = c.args.self.now.keys.now in
    let own_is = c.in_ok-property.ensures in
    let lacks = ap (λ (q : AbstractProperty). q.value.flags.absent) own_is in
    let next = slot w l prototype in
    let of_own = demands_of_own w l keys in
    same_meeting _ (object_met w keys l)
    (leads_same next.label _ _ _ lacks c.in_ok-next.ensures.labels)
    (c.present.ensures ∙ ap (present_property w) own_is)
    (c.in_ok-next.ensures.may_end ∙ ap (λ (b : Bool). b && next.flags.absent) lacks)
    (demands_same of_own (demands_of w.state l prototype) _ _ _ _ lacks
    (c.in_ok-demand_own.ensures ∙ ap (λ (d : Demands). both d of_own) c.new-demands.ensures)
    c.in_ok-next.ensures.demands)
