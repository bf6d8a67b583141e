use Rattle.std.proofs.Common.{◌≡◌, ◌≤◌, ◌++◌, false, length}
use Rattle.ja_lex.specs.Spots.{max_bytes}
use Rattle.ja_lex.specs.Tokens.{tokens_after, tokens}
use Rattle.ja_lex.proofs.lexer.tokens.Given as goal

abbrev pub invariant-tokens : goal.invariant-tokens
invariant-tokens l = record {
  same : l.tokens.items ++ tokens_after 0 false l.cursor.spot l.cursor.rest.now ≡ tokens l.text;
  within : length l.cursor.rest.now ≤ max_bytes;
}

abbrev pub decreases-tokens : goal.decreases-tokens
decreases-tokens l = length l.cursor.rest.now
