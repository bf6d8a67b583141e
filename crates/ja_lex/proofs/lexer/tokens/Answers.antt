use Rattle.std.proofs.Common.{◌≡◌, ◌++◌, [], ◌∷◌, false, length, append_assoc, sym, ◌∙◌, ap, arith}
use Rattle.ja_lex.specs.Tokens.{tokens, tokens_of, tokens_after}
use Rattle.ja_lex.proofs.Steps.{followed_more}
use Rattle.ja_lex.proofs.lexer.tokens.Goals as goal

pub tokens-init : goal.tokens-init
unfolding tokens
tokens-init c = record {
  same =
      rw c.new-tokens.ensures.items (c.skip_mark.ensures.same
      ∙ ap tokens_of (c.new-cursor.ensures.rest ∙ c.deref.ensures.value
      ∙ c.in_ok-characters.ensures.value));
  within =
      omega (
        arith,
        ap length (c.new-cursor.ensures.rest ∙ c.deref.ensures.value),
        c.in_ok-characters.ensures.within,
      );
}

pub tokens-preserved : goal.tokens-preserved
tokens-preserved c =
    let next : tokens_after 0 false c.tokens.cursor.spot c.tokens.cursor.rest.now
    ≡ c.in_ok-token.token ∷ tokens_after 0 false c.next_token.new.cursor.spot
    c.next_token.new.cursor.rest.now =
    c.in_ok-token.ensures.next ∙ followed_more c.in_ok-token.token _ c.if-last.ensures in
    record {
      same =
          rw c.in_ok-push.ensures.items (append_assoc c.tokens.tokens.items
          (c.in_ok-token.token ∷ []) (tokens_after 0 false c.next_token.new.cursor.spot
          c.next_token.new.cursor.rest.now)
          ∙ ap (λ ts. c.tokens.tokens.items ++ ts) (sym next) ∙ c.tokens.invariant.same);
      within = omega arith;
    }
