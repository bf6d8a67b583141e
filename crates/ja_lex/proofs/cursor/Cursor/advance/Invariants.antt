use Rattle.std.proofs.Common.{◌≡◌, drop}
use Rattle.ja_lex.specs.Spots.{past}
use Rattle.ja_lex.proofs.cursor.Cursor.advance.Given as goal

abbrev pub invariant-left : goal.invariant-left
invariant-left l = record {
  rest : drop l.left l.self.rest.now ≡ drop l.initial.left l.initial.self.rest.now;
  spot : past l.left l.self.spot l.self.rest.now
      ≡ past l.initial.left l.initial.self.spot l.initial.self.rest.now;
}

abbrev pub decreases-left : goal.decreases-left
decreases-left l = l.left
