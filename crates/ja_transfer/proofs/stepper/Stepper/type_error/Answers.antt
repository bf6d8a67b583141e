use Rattle.std.proofs.Common.{ℕ, Bool, true, List, ◌++◌, subst, sym, ap, ◌∙◌}
use Rattle.std.proofs.lemmas.Result.{IfOk-weaker}
use Rattle.ja_rows.specs.Out.{type_error}
use Rattle.ja_transfer.specs.Outcomes.{at_view, AreAdded}
use Rattle.ja_transfer.proofs.stepper.Stepper.type_error.Goals as goal

pub returns : goal.returns
returns c =
    let s = c.args.self.now in
    let Added = λ (b : Bool) (text : List ℕ). AreAdded s (type_error (at_view s) b s.info.now
    c.args.error text) c.args.states.now c.throws.new.states in
    let units = c.in_ok-push_ascii.ensures
    ∙ ap (λ (us : List ℕ). us ++ c.args.message.now) c.new-units.ensures.items in
    IfOk-weaker c.throws.result _ _ (λ _ added. subst (λ (b : Bool). Added b c.args.message.now)
    (sym c.if-not-is_thrown.false) (subst (Added true) units added)) c.throws.ensures
