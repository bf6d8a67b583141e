-- Some warning is of a fault where the test finds one.
use Rattle.std.proofs.Common.{◌∙◌, ap, cond, sym}
use Rattle.ja_lint_top.specs.declared.reply.Status.TheVariants.{Clean, Faulty}
use Rattle.ja_lint_top.proofs.Warnings.{fault_among}
use Rattle.ja_lint_top.proofs.top.judged.Goals as goal

pub returns-then-has_fault : goal.returns-then-has_fault
returns-then-has_fault c =
    ap (λ b. cond b Faulty Clean)
    (sym c.if-has_fault.true ∙ c.has_fault.ensures ∙ fault_among c.args.warnings.now)

pub returns-else-has_fault : goal.returns-else-has_fault
returns-else-has_fault c =
    ap (λ b. cond b Faulty Clean)
    (sym c.if-has_fault.false ∙ c.has_fault.ensures ∙ fault_among c.args.warnings.now)
