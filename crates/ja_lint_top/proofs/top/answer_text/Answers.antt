-- What is found is found of the one text of the files, and so is the fault.
use Rattle.std.proofs.Common.{◌∙◌, List, ℕ, ap, cond, inl, inr, subst}
use Rattle.std.proofs.lemmas.Result.{IfOk-weaker}
use Rattle.ja_top.specs.Findings.{Finds, IsUnfound}
use Rattle.ja_top.specs.Runs.{signatures_of}
use Rattle.ja_top.specs.Statuses.{has_fault}
use Rattle.ja_warn.specs.Told.{warnings_in}
use Rattle.ja_warn.specs.declared.reached.Told.{Told}
use Rattle.ja_lint_top.specs.declared.reply.Status.TheVariants.{Clean, Faulty}
use Rattle.ja_lint_top.proofs.Answering.{lints}
use Rattle.ja_lint_top.proofs.top.answer_text.Goals as goal

pub returns-in_ok-out-in-Ok : goal.returns-in_ok-out-in-Ok
returns-in_ok-out-in-Ok g c =
    let signatures = signatures_of c.args.devices.now in
    let finds = subst (λ (b : List ℕ). Finds b signatures c.in-Ok.found)
    (c.as_bytes.ensures.value ∙ c.requires.text) c.in-Ok.ensures.found in
    inr (inr (inr (lints c.args.manner signatures c.args.files.now c.in-Ok.found _
    c.requires.alone finds c.in_ok-out-in-Ok.ensures
    (c.judged-status.ensures ∙ ap (λ (ts : List Told).
    cond (has_fault (warnings_in ts)) Faulty Clean) c.as_slice.ensures)
    c.new-line.ensures.items)))

pub returns-in-Err : goal.returns-in-Err
returns-in-Err g c =
    let signatures = signatures_of c.args.devices.now in
    let unfound = subst (λ (b : List ℕ). IsUnfound b signatures c.in-Err.fault)
    (c.as_bytes.ensures.value ∙ c.requires.text) c.in-Err.ensures.fault in
    IfOk-weaker c.explain.result _ _ (λ r refuses. inr (inr (inl (refuses signatures unfound))))
    c.explain.ensures
