use Rattle.std.proofs.Common.{◌∙◌, IsUtf8, ap, arith, subst, sym}
use Rattle.ja_files.specs.Files.{unmarked_text}
use Rattle.std.specs.Str.Lossy.{utf8_valid_len}
use Rattle.ja_lint_top.proofs.Held.{files_more, mapped_at, mapped_read, pushed, texts_more}
use Rattle.ja_lint_top.proofs.reading.texts_of.Goals as goal

pub returns-in-Err-clause-none : goal.returns-in-Err-clause-none
returns-in-Err-clause-none c =
    let i = c.loop-number.number in
    let bytes = c.index-contents-number.result in
    let same = c.deref.ensures.value in (
      i,
      bytes.items,
      mapped_at _ c.args.names.now i _ (omega (arith, c.requires)),
      mapped_read _ c.args.contents.now i bytes (omega arith) c.index-contents-number.is,
      (λ text. c.in-Err.ensures.cases.0 (subst IsUtf8 (sym same) text)),
      c.valid_up_to-offset.ensures ∙ c.in-Err.ensures.valid_len ∙ ap utf8_valid_len same,
    )

pub loop-number-preserved : goal.loop-number-preserved
loop-number-preserved c =
    let i = c.loop-number.number in
    let bytes = c.index-contents-number.result in
    let same = c.deref.ensures.value in (
      files_more c.args.names.now c.args.contents.now i _ bytes c.loop-number.files.items
          c.push.new.self.items _ (omega (arith, c.requires)) (omega arith) c.index-contents-number.is
          c.loop-number.invariant.0 c.known_as.ensures
          (c.unmarked.ensures.bytes ∙ ap unmarked_text (c.in-Ok.ensures.cases.0 ∙ same))
          (pushed _ _ _ _ _ c.is_err.ensures.negation c.if-is_err.false c.push.ensures.items),
      texts_more c.args.contents.now i bytes (omega arith) c.index-contents-number.is
          c.loop-number.invariant.1 (subst IsUtf8 same c.in-Ok.ensures.cases.1),
    )
