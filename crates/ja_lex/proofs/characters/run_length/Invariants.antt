use Rattle.std.proofs.Common.{◌≡◌, ◌+◌, drop}
use Rattle.std.specs.List.{prefix_len}
use Rattle.ja_lex.specs.code.Classes.{passes}
use Rattle.ja_lex.proofs.characters.run_length.Given as goal

abbrev pub invariant-loop-i : goal.invariant-loop-i
invariant-loop-i l =
    prefix_len (passes l.class) l.text ≡ l.i + prefix_len (passes l.class) (drop l.i l.text)
