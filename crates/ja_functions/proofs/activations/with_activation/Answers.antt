use Rattle.std.proofs.Common.{◌≡◌, Option, sym, subst, ap, ◌∙◌}
use Rattle.std.specs.Result.{IfOk}
use Rattle.std.proofs.lemmas.Result.{IfOk-weaker}
use Rattle.ja_base.specs.declared.ids.Site.{Site}
use Rattle.ja_abstract.specs.Made.{Own, activation_own, with_object, with_objects}
use Rattle.ja_astate.specs.State.{state_of}
use Rattle.ja_transfer.specs.Outcomes.{at_view}
use Rattle.ja_functions.specs.code.Aged.{aged_at}
use Rattle.ja_functions.specs.code.Entering.{activation_state}
use Rattle.ja_functions.proofs.activations.with_activation.Goals as goal

pub returns-in-None-clause-state : goal.returns-in-None-clause-state
returns-in-None-clause-state c =
    let s = c.args.stepper.now in
    let w = at_view s in
    let p = w.program in
    let f = s.context.function in
    let site = c.args.site in
    let own = c.in_ok-activation.ensures
    ∙ ap (λ (o : Option Site). activation_own p f o (aged_at w.state site o)) c.in-None.is in
    subst (λ (o : Option Site).
    IfOk c.with_object.result (λ a. state_of a ≡ activation_state w f site o)) (sym c.in-None.is)
    (IfOk-weaker c.with_object.result _ _ (λ a is. is p s.reader.heap_is
    ∙ ap (λ (x : Own). with_object p w.state site (λ b. x)) own) c.with_object.ensures.state)

pub returns-in_ok-object-in-Some-clause-state : goal.returns-in_ok-object-in-Some-clause-state
returns-in_ok-object-in-Some-clause-state c =
    let s = c.args.stepper.now in
    let w = at_view s in
    let p = w.program in
    let f = s.context.function in
    let site = c.args.site in
    let list = c.in-Some.list in
    let own = c.in_ok-activation.ensures
    ∙ ap (λ (o : Option Site). activation_own p f o (aged_at w.state site o)) c.in-Some.is in
    subst (λ (o : Option Site).
    IfOk c.with_objects.result (λ a. state_of a ≡ activation_state w f site o)) (sym c.in-Some.is)
    (IfOk-weaker c.with_objects.result _ _ (λ a is. is p s.reader.heap_is
    ∙ (λ n. with_objects p w.state site (λ b. own n) list (λ b. c.in_ok-object-in-Some.ensures n)))
    c.with_objects.ensures.state)
