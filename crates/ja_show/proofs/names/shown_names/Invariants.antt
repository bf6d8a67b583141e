use Rattle.std.proofs.Common.{◌≡◌, map, take}
use Rattle.ja_files.specs.Files.{name_of}
use Rattle.ja_show.specs.Messages.{shown_name}
use Rattle.ja_show.specs.code.Kept.{lists_in}
use Rattle.ja_show.proofs.names.shown_names.Given as goal

-- the names so far are kept
abbrev pub invariant-loop-file : goal.invariant-loop-file
invariant-loop-file l =
    lists_in l.names.items
    ≡ map (λ file. shown_name (name_of file)) (take l.file-index l.files)
