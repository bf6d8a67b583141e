use Rattle.std.specs.Prelude.{IfOk, List, ℕ}
use Rattle.std.proofs.Common.{◌∙◌, subst}
use Rattle.ja_top.specs.Analyses.{Analyses}
use Rattle.ja_top.specs.Answers.{summing}
use Rattle.ja_top.specs.Runs.{signatures_of}
use Rattle.ja_top.proofs.top.summarise.Goals as goal

pub returns : goal.returns
returns g c =
    subst (λ (bytes : List ℕ). IfOk c.analyse.result
    (λ a. Analyses (summing c.args.number) bytes (signatures_of c.args.devices.now) a.status
    a.text.items)) (c.as_bytes.ensures.value ∙ c.in_ok-text.ensures.text) c.analyse.ensures
