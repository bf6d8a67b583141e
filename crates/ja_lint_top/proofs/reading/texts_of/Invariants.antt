-- The files before this one are made, and their bytes are texts.
use Rattle.std.proofs.Common.{map, take}
use Rattle.std.specs.List.{AllByRecursion}
use Rattle.std.specs.Str.{IsUtf8}
use Rattle.ja_lint_top.specs.Refusals.{AreFiles}
use Rattle.ja_lint_top.proofs.reading.texts_of.Given as goal

abbrev pub invariant-loop-number : goal.invariant-loop-number
invariant-loop-number l =
    AreFiles (map (λ name. name.now) (take l.number l.names))
    (map (λ bytes. bytes.items) (take l.number l.contents)) l.files.items
    × AllByRecursion IsUtf8 (map (λ bytes. bytes.items) (take l.number l.contents))
