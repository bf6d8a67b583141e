-- The contexts so far stand for the same.
use Rattle.ja_check.specs.code.Checking.{meaning_of}
use Rattle.ja_check.proofs.Lists.{AreSameTo}
use Rattle.ja_check.proofs.same_tables.are_same_contexts.Given as goal

abbrev pub invariant-loop-place : goal.invariant-loop-place
invariant-loop-place l = AreSameTo meaning_of l.own l.other l.place
