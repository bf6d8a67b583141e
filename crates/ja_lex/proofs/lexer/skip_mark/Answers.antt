use Rattle.std.proofs.Common.{◌≡◌, sym, ◌∙◌}
use Rattle.ja_prim.specs.Characters.{char_at}
use Rattle.ja_lex.specs.Spots.{beginning}
use Rattle.ja_lex.proofs.Steps.{mark_skip}
use Rattle.ja_lex.proofs.lexer.skip_mark.Goals as goal

pub returns-then-char_at-eq65279-clause-same : goal.returns-then-char_at-eq65279-clause-same
returns-then-char_at-eq65279-clause-same c =
    let e : char_at c.args.cursor.now.rest.now 0 ≡ 65279 = sym c.char_at.ensures
    ∙ c.if-char_at-eq65279.true in
    rw (c.advance.ensures.spot, c.advance.ensures.rest, c.requires, e)
    (sym (mark_skip beginning c.args.cursor.now.rest.now))
