use Rattle.std.proofs.Common.{ap, ◌∙◌}
use Rattle.std.proofs.lemmas.Result.{IfOk-weaker}
use Rattle.ja_abstract.specs.Keys.{keys_of_value}
use Rattle.ja_abstract.specs.Primitives.{of_text_part}
use Rattle.ja_functions.proofs.owns.text_keys_of.Goals as goal

pub returns : goal.returns
returns c =
    IfOk-weaker c.keys_of_value.result _ _ (λ v is. is
    ∙ ap (keys_of_value c.args.reader.now.program.now) (c.of_text_part.ensures
    ∙ ap of_text_part c.in_ok-text.ensures)) c.keys_of_value.ensures
