use Rattle.std.proofs.Common.{◌≡◌, drop}
use Rattle.ja_lex.specs.Marks.{begins_with}
use Rattle.ja_lex.proofs.marks.begins_with.Given as goal

abbrev pub invariant-loop-byte : goal.invariant-loop-byte
invariant-loop-byte l = begins_with (drop l.byte-index l.mark) l.rest ≡ begins_with l.mark l.text
