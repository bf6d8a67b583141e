use Rattle.std.proofs.Common.{◌≡◌, ◌≤◌, ◌-◌, drop, length, take}
use Rattle.ja_search.specs.code.Search.{AreBorders, IsMet}
use Rattle.ja_search.proofs.search.borders_of.Given as goal

abbrev pub invariant-units : goal.invariant-units
invariant-units l = record {
  each : length l.borders.items ≡ l.i;
  borders : AreBorders l.mark l.borders.items;
  below : l.met ≤ l.i;
  met : IsMet l.mark (take (l.i - 1) (drop 1 l.mark)) l.met;
}
