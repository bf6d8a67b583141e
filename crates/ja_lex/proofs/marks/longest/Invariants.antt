use Rattle.std.proofs.Common.{◌≡◌, [], length, map}
use Rattle.ja_lex.specs.Marks.{longest}
use Rattle.ja_lex.proofs.marks.longest.Given as goal

abbrev pub invariant-table : goal.invariant-table
invariant-table l =
    longest l.best (map (λ mark. mark.now) l.table) l.text
    ≡ longest [] (map (λ mark. mark.now) l.initial.table) l.text

abbrev pub decreases-table : goal.decreases-table
decreases-table l = length l.table
