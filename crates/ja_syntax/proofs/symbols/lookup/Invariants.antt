use Rattle.std.proofs.Common.{◌≡◌, length, map}
use Rattle.ja_syntax.specs.Lookups.{lookup}
use Rattle.ja_syntax.proofs.symbols.lookup.Given as goal

abbrev pub invariant-loop-table : goal.invariant-loop-table
invariant-loop-table g l =
    lookup (map (λ e. (e.0.now, e.1)) l.table) l.units
    ≡ lookup (map (λ e. (e.0.now, e.1)) l.initial.table) l.units

abbrev pub decreases-loop-table : goal.decreases-loop-table
decreases-loop-table g l = length l.table
