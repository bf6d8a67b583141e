use Rattle.std.proofs.Common.{◌≡◌, ◌++◌, take}
use Rattle.std.specs.List.{flat_map}
use Rattle.ja_show.specs.Lines.{blanks}
use Rattle.ja_show.proofs.lines.push_blanks.Given as goal

-- the characters so far are added
abbrev pub invariant-loop-c : goal.invariant-loop-c
invariant-loop-c l =
    l.out.items ≡ l.initial.out.items ++ flat_map blanks (take l.c-index l.characters)
