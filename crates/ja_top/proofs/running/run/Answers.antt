use Rattle.std.proofs.Common.{List, ℕ, subst}
use Rattle.std.specs.Prelude.{IfErr}
use Rattle.ja_top.specs.Runs.{MayBeLeftByText}
use Rattle.ja_top.proofs.running.run.Goals as goal

pub returns-in-Ok-clause-memory : goal.returns-in-Ok-clause-memory
returns-in-Ok-clause-memory g c =
    let after = c.transcribe_text.new.devices in
    let Left : List ℕ → Type 0 = λ b. MayBeLeftByText b c.args.steps c.args.devices.now after in
    let Says : List ℕ → Type 0 = λ b. IfErr c.transcribe_text.result (λ _. Left b) in
    subst Says c.in-Ok.ensures.cases.0 c.transcribe_text.ensures.memory
