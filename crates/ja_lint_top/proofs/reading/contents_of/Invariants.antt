-- The names before this one have their bytes, and the files are the same ones.
use Rattle.std.proofs.Common.{◌≡◌, map, take}
use Rattle.ja_lint_top.specs.Reading.{AreHeld}
use Rattle.ja_lint_top.proofs.reading.contents_of.Given as goal

abbrev pub invariant-loop-name : goal.invariant-loop-name
invariant-loop-name g l =
    (g.F.Files.held l.files ≡ g.F.Files.held l.initial.files)
    × AreHeld (g.F.Files.held l.initial.files)
    (map (λ name. name.now) (take l.name-index l.names))
    (map (λ bytes. bytes.items) l.contents.items)
