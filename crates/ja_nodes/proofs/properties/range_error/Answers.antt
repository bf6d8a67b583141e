use Rattle.std.proofs.Common.{ℕ, Bool, true, List, ◌++◌, subst, sym, ap, ◌∙◌}
use Rattle.std.proofs.lemmas.Result.{IfOk-weaker}
use Rattle.ja_graph.specs.declared.builtins.TheConstants as builtins
use Rattle.ja_machine.specs.Events.{array_length_message}
use Rattle.ja_rows.specs.Out.{throws}
use Rattle.ja_transfer.specs.Outcomes.{at_view, AreAdded}
use Rattle.ja_nodes.proofs.properties.range_error.Goals as goal

pub returns : goal.returns
returns c =
    let s = c.args.stepper.now in
    let Added = λ (b : Bool) (text : List ℕ). AreAdded s (throws (at_view s) b s.info.now
    c.args.error builtins.RANGE_ERROR_PROTOTYPE text) c.args.states.now c.throws.new.states in
    let units = c.in_ok-push_ascii.ensures
    ∙ ap (λ (us : List ℕ). us ++ array_length_message) c.new-units.ensures.items in
    IfOk-weaker c.throws.result _ _ (λ _ added. subst (λ (b : Bool). Added b array_length_message)
    (sym c.if-not-is_thrown.false) (subst (Added true) units added)) c.throws.ensures
