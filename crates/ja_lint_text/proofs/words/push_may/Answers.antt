use Rattle.std.proofs.Common.{append_assoc}
use Rattle.ja_lint_text.proofs.words.push_may.Goals as goal

pub returns : goal.returns
returns c =
    simp (
      c.in_ok-extend_from_slice-3.ensures.items,
      c.nullish_words.ensures,
      c.in_ok-extend_from_slice-2.ensures.items,
      c.in_ok-extend_from_slice.ensures.items,
      append_assoc,
    )
