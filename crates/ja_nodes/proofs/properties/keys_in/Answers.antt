use Rattle.std.proofs.lemmas.Result.{IfOk-weaker}
use Rattle.ja_abstract.specs.Keys.{keys_of_value}
use Rattle.std.proofs.Common.{ap, ◌∙◌}
use Rattle.ja_nodes.proofs.properties.keys_in.Goals as goal

pub returns : goal.returns
returns c =
    let p = c.args.stepper.now.reader.program.now in
    IfOk-weaker c.keys_of_value.result _ _
    (λ keys are. are ∙ ap (keys_of_value p) c.register-value.ensures) c.keys_of_value.ensures
