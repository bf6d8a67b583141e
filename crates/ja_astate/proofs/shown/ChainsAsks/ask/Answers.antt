use Rattle.std.proofs.Common.{ap, ◌∙◌}
use Rattle.std.specs.Prelude.{true}
use Rattle.ja_abstract.specs.AbstractValue.{bare, of_labels}
use Rattle.ja_abstract.specs.Reading.{both, demands_if}
use Rattle.ja_abstract.specs.Resolved.{Demands, demands_of, prototype}
use Rattle.ja_astate.specs.Looks.{view_of}
use Rattle.ja_astate.specs.code.Chains.{chain_met}
use Rattle.ja_astate.proofs.Meetings.{same_meeting}
use Rattle.ja_astate.proofs.shown.ChainsAsks.ask.Goals as goal

pub returns : goal.returns
returns c =
    let w = view_of c.args.self.now.reader in
    let l = c.args.label in
    let of_slot = demands_if true (demands_of w.state l prototype) in
    let next = c.in_ok-next.ensures in
    same_meeting _ (chain_met w l) (c.in_ok-labels.ensures ∙ next.labels)
    (c.bare.ensures ∙ ap bare (c.of_labels.ensures ∙ ap of_labels next.labels)) next.may_end
    (next.demands ∙ ap (λ (d : Demands). both d of_slot) c.new-demands.ensures)
