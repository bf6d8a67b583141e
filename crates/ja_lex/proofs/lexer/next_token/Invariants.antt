use Rattle.std.proofs.Common.{◌≡◌, ◌≤◌, false, length}
use Rattle.ja_lex.specs.Tokens.{tokens_after}
use Rattle.ja_lex.proofs.lexer.next_token.Given as goal

abbrev pub invariant-blanks : goal.invariant-blanks
invariant-blanks l = record {
  same : tokens_after 0 l.line_before l.cursor.spot l.cursor.rest.now
      ≡ tokens_after 0 false l.initial.cursor.spot l.initial.cursor.rest.now;
  shorter : length l.cursor.rest.now ≤ length l.initial.cursor.rest.now;
}

abbrev pub decreases-blanks : goal.decreases-blanks
decreases-blanks l = length l.cursor.rest.now
