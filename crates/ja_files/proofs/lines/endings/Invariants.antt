use Rattle.std.proofs.Common.{◌≡◌, ◌+◌, ◌≤◌, drop}
use Rattle.ja_files.specs.Lines.{endings}
use Rattle.ja_files.proofs.lines.endings.Given as goal

-- those so far, and those of the rest, are all
abbrev pub invariant-loop-index : goal.invariant-loop-index
invariant-loop-index l = record {
  all : l.count + endings (drop l.index l.text) ≡ endings l.text;
  few : l.count ≤ l.index;
}
