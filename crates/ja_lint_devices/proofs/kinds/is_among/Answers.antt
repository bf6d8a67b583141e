-- By its index, another word is the word, or one more that isn't.
use Rattle.std.proofs.Common.{sym}
use Rattle.std.specs.Str.{bytes_eq}
use Rattle.ja_lint_devices.proofs.Words.{text_at, any_here, none_more}
use Rattle.ja_lint_devices.proofs.kinds.is_among.Goals as goal

pub returns-then-eq : goal.returns-then-eq
returns-then-eq c =
    sym (any_here (bytes_eq c.args.word.now) _ c.loop-other.other-index _
    (text_at c.args.words.now c.loop-other.other-index _ c.loop-other-test.true)
    (sym c.if-eq.ensures))

pub loop-other-preserved : goal.loop-other-preserved
loop-other-preserved c =
    none_more (bytes_eq c.args.word.now) _ c.loop-other.other-index _
    (text_at c.args.words.now c.loop-other.other-index _ c.loop-other-test.true)
    c.loop-other.invariant (sym c.if-eq.ensures)
