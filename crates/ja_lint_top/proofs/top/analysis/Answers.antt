-- The form and the devices are those that are asked for, and so are the files.
use Rattle.std.proofs.Common.{◌∙◌, Bor, List, ℕ, ap, inl, inr, map, subst, sym}
use Rattle.std.proofs.lemmas.Result.{IfOk-weaker}
use Rattle.ja_lint_devices.specs.Devices.{AreDeclared}
use Rattle.ja_lint_top.specs.Lint.{values_of, Reads}
use Rattle.ja_lint_top.specs.Refusals.{names_of}
use Rattle.ja_lint_top.specs.code.Answers.{reply_of}
use Rattle.ja_lint_top.specs.declared.asking.Manner.{Manner}
use Rattle.ja_top.specs.Runs.{signatures_of}
use Rattle.ja_lint_top.proofs.top.analysis.Goals as goal

abbrev texts : List (Bor (List ℕ)) → List (List ℕ)
texts words = map (λ word. word.now) words

pub returns-in_ok-names-in-Ok : goal.returns-in_ok-names-in-Ok
returns-in_ok-names-in-Ok g c =
    let devices = c.in-Ok.devices in
    let manner : Manner = record { format = c.in-Some.format; rows = c.args.asked.now.rows } in
    let held = g.F.Files.held c.args.files.now in
    let declared = subst (λ vs. AreDeclared vs devices)
    (c.values_of.ensures ∙ ap (λ vs. values_of (texts vs)) c.deref.ensures.value)
    c.in-Ok.ensures.declared in
    IfOk-weaker c.answer_names.result _ _ (λ r reads. inr (inr (
      c.in-Some.format,
      devices,
      sym c.format_of.ensures ∙ c.in-Some.is,
      declared,
      subst (λ names. Reads manner (signatures_of devices) held names (reply_of r))
          (ap texts c.deref-in-Ok-2.ensures.value ∙ c.in_ok-names-in-Ok.ensures
          ∙ ap (λ names. names_of (texts names)) c.deref-in-Ok.ensures.value)
          reads,
    ))) c.answer_names.ensures
