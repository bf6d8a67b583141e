use Rattle.std.proofs.Common.{◌∙◌, List, ℕ, subst}
use Rattle.std.specs.Prelude.{IfOk}
use Rattle.ja_prim.specs.declared.signature.Signature.{Signature}
use Rattle.ja_top.specs.Analyses.{Analyses}
use Rattle.ja_top.specs.Runs.{signatures_of}
use Rattle.ja_top.specs.declared.answer.Answer.{Answer}
use Rattle.ja_top.proofs.analysis.analyse.Goals as goal

pub returns-in_ok-signatures-in-Ok : goal.returns-in_ok-signatures-in-Ok
returns-in_ok-signatures-in-Ok g c =
    let Says : List ℕ → List Signature → Type 0 =
    λ b s. IfOk c.analyse_text.result
    (λ (a : Answer). Analyses c.args.request b s a.status a.text.items) in
    let its = c.as_slice.ensures ∙ c.in_ok-signatures-in-Ok.ensures.signatures in
    subst (λ b. Says b (signatures_of c.args.devices.now)) c.in-Ok.ensures.cases.0
    (subst (λ s. Says c.in-Ok.text.now s) its c.analyse_text.ensures)
