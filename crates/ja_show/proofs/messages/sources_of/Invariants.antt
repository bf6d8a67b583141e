use Rattle.std.proofs.Common.{◌≡◌, map, take}
use Rattle.ja_files.specs.Lines.{lines_of}
use Rattle.ja_show.specs.code.Kept.{lines_in}
use Rattle.ja_show.proofs.messages.sources_of.Given as goal

-- the lines so far are kept
abbrev pub invariant-loop-text : goal.invariant-loop-text
invariant-loop-text l =
    map lines_in l.sources.items ≡ map (λ text. lines_of text.items) (take l.text-index l.texts)
