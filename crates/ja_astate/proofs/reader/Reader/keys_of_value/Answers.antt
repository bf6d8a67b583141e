use Rattle.std.proofs.lemmas.Result.{IfOk-weaker}
use Rattle.ja_astate.proofs.reader.Reader.keys_of_value.Goals as goal

pub returns : goal.returns
returns c =
    IfOk-weaker c.keys_of_value.result _ _
    (λ _ has. has c.args.self.now.program.now c.args.self.now.keys_are) c.keys_of_value.ensures
