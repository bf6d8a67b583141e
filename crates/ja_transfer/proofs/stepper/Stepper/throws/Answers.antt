use Rattle.std.proofs.Common.{Bool, ◌&&◌, ap, sym, ◌∙◌}
use Rattle.std.proofs.lemmas.Result.{IfOk-weaker}
use Rattle.ja_prim.specs.Texts.{is_short}
use Rattle.ja_rows.specs.Out.{with_error}
use Rattle.ja_transfer.specs.Outcomes.{at_view}
use Rattle.ja_transfer.proofs.GivenLemmas.{added_at}
use Rattle.ja_transfer.proofs.stepper.Stepper.throws.Goals as goal

pub returns : goal.returns
returns c =
    let w = at_view c.args.self.now in
    let text = c.args.message.items in
    let short = c.is_short.ensures ∙ ap is_short c.deref.ensures.value in
    IfOk-weaker c.gives.result _ _ (λ _ added. added_at c.args.self.now
    (c.args.is_thrown && is_short text) c.args.self.now.info.now.handler _
    (with_error w c.args.error c.args.prototype text) c.args.states.now c.gives.new.states
    (ap (λ (b : Bool). c.args.is_thrown && b) (sym short) ∙ c.if-not-is_given.false)
    (c.in_ok-state.ensures.state ∙ ap (with_error w c.args.error c.args.prototype)
    c.in_ok-message.ensures) added) c.gives.ensures
