-- The message and the words are those of the error.
use Rattle.std.proofs.Common.{◌∙◌, ℕ, List, ap, ap₂, refl}
use Rattle.ja_show.specs.declared.message.Message.{Message}
use Rattle.ja_lint_top.specs.Refusals.{refusal_text}
use Rattle.ja_lint_top.specs.Replies.{told_line}
use Rattle.ja_lint_top.proofs.refusing.refuse.Goals as goal

pub returns : goal.returns
returns c =
    let why_is = c.in_ok-why.ensures in (
      refl,
      c.in_ok-out.ensures
          ∙ ap₂ (λ (m : Message) (why : List ℕ). refusal_text c.args.format c.args.files.now m why)
          c.in_ok-message.ensures (c.deref.ensures.value ∙ why_is),
      c.in_ok-line.ensures ∙ ap told_line (c.deref-2.ensures.value ∙ why_is),
    )
