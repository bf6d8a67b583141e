use Rattle.std.proofs.Common.{◌≡◌, map, take, string_bytes}
use Rattle.ja_sarif.specs.Sarif.{uri_of}
use Rattle.ja_sarif.proofs.uris.uris_of.Given as goal

-- the names so far are kept
abbrev pub invariant-loop-file : goal.invariant-loop-file
invariant-loop-file l =
    map string_bytes l.uris.items ≡ map (λ file. uri_of file.name.now) (take l.file-index l.files)
