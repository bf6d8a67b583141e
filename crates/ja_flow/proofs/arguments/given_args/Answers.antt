use Rattle.std.proofs.Common.{sym, subst, ap, ◌∙◌}
use Rattle.std.proofs.lemmas.Result.{IfOk-weaker}
use Rattle.ja_rows.specs.Calls as spec
use Rattle.ja_astate.specs.Looks.{view_of}
use Rattle.ja_flow.specs.code.Given.{AreArguments}
use Rattle.ja_flow.proofs.arguments.given_args.Goals as goal

pub returns-in-Elements : goal.returns-in-Elements
returns-in-Elements c =
    let w = view_of c.args.reader.now in
    let ps = c.args.parameters in
    IfOk-weaker c.elements.result _ _ (λ kept are. subst (λ (g : spec.Arguments).
    AreArguments ps g kept) (ap (spec.elements w) c.register.ensures
    ∙ ap (spec.given_args w c.args.caller ps) (sym c.in-Elements.is)) are) c.elements.ensures
