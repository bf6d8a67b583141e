use Rattle.std.proofs.Common.{◌≡◌, ◌++◌, map, take}
use Rattle.std.specs.List.{flat_map}
use Rattle.std.specs.Str.{chars}
use Rattle.std.specs.String.{string_bytes}
use Rattle.ja_files.specs.Files.{behind_separator, bytes_of, characters_of}
use Rattle.ja_files.proofs.joining.push_others.Given as goal

-- the files so far are added
abbrev pub invariant-loop-file : goal.invariant-loop-file
invariant-loop-file l = record {
  bytes : string_bytes l.text
      ≡ string_bytes l.initial.text
      ++ flat_map behind_separator (map bytes_of (take l.file-index l.files));
  characters : chars (string_bytes l.text)
      ≡ chars (string_bytes l.initial.text)
      ++ flat_map behind_separator (map characters_of (take l.file-index l.files));
}
