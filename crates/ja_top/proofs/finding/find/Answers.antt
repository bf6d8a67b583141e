use Rattle.std.proofs.Common.{◌∙◌, IfErr, List, ℕ, subst}
use Rattle.ja_prim.specs.declared.signature.Signature.{Signature}
use Rattle.ja_top.specs.Findings.{IsUnfound}
use Rattle.ja_top.specs.Runs.{signatures_of}
use Rattle.ja_top.proofs.finding.find.Goals as goal

pub returns-in_ok-signatures-in-Ok-clause-fault : goal.returns-in_ok-signatures-in-Ok-clause-fault
returns-in_ok-signatures-in-Ok-clause-fault g c =
    let Says : List ℕ → List Signature → Type 0 =
    λ b s. IfErr c.find_in_text.result (IsUnfound b s) in
    let its = c.as_slice.ensures ∙ c.in_ok-signatures-in-Ok.ensures.signatures in
    subst (λ b. Says b (signatures_of c.args.devices.now)) c.in-Ok.ensures.cases.0
    (subst (λ s. Says c.in-Ok.text.now s) its c.find_in_text.ensures.fault)
