use Rattle.std.proofs.Common.{◌≡◌, ◌+◌, ◌≤◌, ◌++◌, drop, length, map}
use Rattle.ja_lex.specs.Spots.{max_bytes}
use Rattle.ja_files.specs.Files.{characters_of, first_lines_of, lines_from}
use Rattle.ja_files.proofs.Counting.{room}
use Rattle.ja_files.proofs.spots.first_lines.Given as goal

-- the lines so far, and those of the other files, are those of all
abbrev pub invariant-loop-file : goal.invariant-loop-file
invariant-loop-file l = record {
  all : l.lines.items ++ lines_from l.line (map characters_of (drop l.file-index l.files))
      ≡ first_lines_of (map characters_of l.files);
  room : l.line + room (drop l.file-index l.files) ≤ max_bytes + 4;
  each : length l.lines.items ≡ l.file-index;
  some : 1 ≤ l.line;
}
