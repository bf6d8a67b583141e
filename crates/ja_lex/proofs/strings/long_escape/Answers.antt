use Rattle.std.proofs.Common.{sym}
use Rattle.ja_lex.proofs.Classed.{escape_digits}
use Rattle.ja_lex.proofs.strings.long_escape.Goals as goal

pub two_digits-requires-clause-first : goal.two_digits-requires-clause-first
two_digits-requires-clause-first c =
    (escape_digits c.args.text.now (sym c.if-is_escape.ensures)).first

pub two_digits-requires-clause-second : goal.two_digits-requires-clause-second
two_digits-requires-clause-second c =
    (escape_digits c.args.text.now (sym c.if-is_escape.ensures)).second

pub two_digits-requires-then-is_escape-clause-first :
    goal.two_digits-requires-then-is_escape-clause-first
two_digits-requires-then-is_escape-clause-first c =
    (escape_digits c.args.text.now (sym c.if-is_escape.ensures)).third

pub two_digits-requires-then-is_escape-clause-second :
    goal.two_digits-requires-then-is_escape-clause-second
two_digits-requires-then-is_escape-clause-second c =
    (escape_digits c.args.text.now (sym c.if-is_escape.ensures)).fourth
