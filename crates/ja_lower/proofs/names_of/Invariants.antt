use Rattle.std.proofs.Common.{◌≡◌, ◌≤◌, [], length, drop}
use Rattle.std.specs.List.{fold}
use Rattle.ja_lower_names.specs.Names.{with_name}
use Rattle.ja_lower.proofs.names_of.Given as goal

abbrev pub invariant-loop-text : goal.invariant-loop-text
invariant-loop-text l = record {
  few : length l.names ≤ l.text-index;
  left : fold with_name l.names (drop l.text-index l.first) ≡ fold with_name [] l.first;
}
