use Rattle.std.proofs.Common.{◌≡◌, map, take}
use Rattle.ja_files.specs.Files.{characters_of}
use Rattle.ja_show.specs.code.Kept.{lists_in}
use Rattle.ja_show.proofs.names.texts_of.Given as goal

-- the texts so far are kept
abbrev pub invariant-loop-file : goal.invariant-loop-file
invariant-loop-file l =
    lists_in l.texts.items ≡ map characters_of (take l.file-index l.files)
