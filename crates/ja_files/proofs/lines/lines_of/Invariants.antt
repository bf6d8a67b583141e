use Rattle.std.proofs.Common.{◌≤◌, map}
use Rattle.ja_files.proofs.Listed.{AreSplit}
use Rattle.ja_files.proofs.lines.lines_of.Given as goal

abbrev pub invariant-loop-index : goal.invariant-loop-index
invariant-loop-index l = record {
  begun : l.start ≤ l.index;
  split : AreSplit (map (λ line. line.now) l.lines.items) l.text l.start l.index;
}
