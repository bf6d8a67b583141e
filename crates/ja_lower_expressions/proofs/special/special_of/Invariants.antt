use Rattle.std.proofs.Common.{◌≡◌, length}
use Rattle.ja_lower_expressions.proofs.SpecialLemmas.{form_in}
use Rattle.ja_lower_expressions.proofs.special.special_of.Given as goal

abbrev pub invariant-loop-table : goal.invariant-loop-table
invariant-loop-table l = form_in l.name l.table ≡ form_in l.name l.initial.table

abbrev pub decreases-loop-table : goal.decreases-loop-table
decreases-loop-table l = length l.table
