use Rattle.std.proofs.Common.{◌&&◌, ap, ◌∙◌}
use Rattle.std.proofs.lemmas.Result.{IfOk-weaker}
use Rattle.ja_base.specs.declared.ids.Label.{Label}
use Rattle.ja_abstract.specs.AbstractValue.{AbstractValue, Labels}
use Rattle.ja_rows.specs.Edges.{runs}
use Rattle.ja_astate.specs.State.{state_of}
use Rattle.ja_value.specs.Value.{labels_in}
use Rattle.ja_transfer.specs.code.Callees.{entry_by}
use Rattle.ja_flow.specs.code.Calling.{running_among}
use Rattle.ja_flow.proofs.Callees.{callees_by, callees_are, running_are}
use Rattle.ja_flow.proofs.calling.callees.Goals as goal

pub returns-in_default : goal.returns-in_default
returns-in_default c =
    let r = c.args.reader.now in
    let a = state_of r.state.now in
    let f = c.args.function.0 in
    c.new.ensures ∙ ap (callees_by r.program.now a f) c.in_default.ensures
    ∙ callees_are r.program.now a f c.args.node.now

pub returns : goal.returns
returns c =
    let r = c.args.reader.now in
    let p = r.program.now in
    let a = state_of r.state.now in
    let f = c.args.function.0 in
    let entry = c.in-Some.entry in
    let members = c.in_ok-members.members.items in
    IfOk-weaker c.running.result _ _ (λ s is. is
    ∙ ap (running_among p entry f) c.deref.ensures.value
    ∙ running_are p entry f (labels_in c.register.result.now.labels) members
    c.in_ok-members.ensures
    ∙ ap {B = Labels} (λ (v : AbstractValue) (l : Label). v.label l && runs (entry_by entry p) f l)
    c.register.ensures
    ∙ ap (callees_by p a f) c.in-Some.ensures ∙ callees_are p a f c.args.node.now)
    c.running.ensures
