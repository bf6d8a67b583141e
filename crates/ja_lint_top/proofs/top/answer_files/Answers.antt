-- The files are within the limit, each of them too, and they are no more than their first lines.
use Rattle.std.proofs.Common.{◌<◌, ap, arith, inl, length, map, subst}
use Rattle.std.proofs.lemmas.List.{length-map}
use Rattle.std.proofs.lemmas.Result.{IfOk-weaker}
use Rattle.ja_files.specs.Files.{characters_of}
use Rattle.ja_lex.specs.Spots.{max_bytes}
use Rattle.ja_lint_top.specs.Refusals.{text_of}
use Rattle.ja_lint_top.specs.Replies.{Fails}
use Rattle.ja_lint_top.specs.code.Answers.{reply_of}
use Rattle.ja_lint_top.proofs.Limits.{length_written}
use Rattle.ja_lint_top.proofs.Refused.{are_within, lines_counted}
use Rattle.ja_lint_top.proofs.top.answer_files.Goals as goal

pub returns-then-len-gt-MAX_BYTES : goal.returns-then-len-gt-MAX_BYTES
returns-then-len-gt-MAX_BYTES g c =
    let longer : max_bytes < length (text_of c.args.files.now) = omega (
      arith,
      c.if-len-gt-MAX_BYTES.true,
      c.len.ensures,
      ap length c.in_ok-text.ensures.bytes,
    ) in
    IfOk-weaker c.fail.result _ _ (λ r fails.
    inl (longer, subst (λ words. Fails words (reply_of r)) length_written fails)) c.fail.ensures

pub first_refused-requires-clause-within : goal.first_refused-requires-clause-within
first_refused-requires-clause-within g c =
    are_within c.args.files.now (omega (
      arith,
      c.if-len-gt-MAX_BYTES.false,
      c.len.ensures,
      ap length c.in_ok-text.ensures.bytes,
    ))

pub first_refused-requires-clause-few : goal.first_refused-requires-clause-few
first_refused-requires-clause-few g c =
    let texts = map characters_of c.args.files.now in
    omega (
      arith,
      c.in_ok-first_lines.ensures.few,
      ap length c.in_ok-first_lines.ensures.lines,
      lines_counted 1 texts,
      length-map c.args.files.now characters_of,
    )
