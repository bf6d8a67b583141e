-- The step that takes an opening token: it has its symbol, and it counts.
use Rattle.std.proofs.Common.{◌≡◌, ◌≢◌, Bool, true, false, ◌∷◌, if◌then◌else◌, refl, sym, ap, ◌∙◌}
use Rattle.ja_lex.specs.declared.token.Token.{Token}
use Rattle.ja_syntax.specs.declared.symbol.Symbol.{Symbol}
use Rattle.ja_syntax.specs.declared.symbol.Symbol.TheVariants.{End}
use Rattle.ja_syntax.specs.Symbols.{same_symbol}
use Rattle.ja_grammar.specs.declared.fault.Refusal.TheVariants.{Unexpected}
use Rattle.ja_grammar.specs.Input.{Tokens, next, symbol, Done, Refused, enter, opening, Rules}
use Rattle.ja_grammar.specs.Productions.{Is, HasRoom}
use Rattle.ja_grammar.proofs.Outcomes.{refused_not_done, same_symbol_is, same_symbol_true, enter_done, enter_inverse}

-- with levels left, the token is taken
pub opening_done : (g : Rules) (k : Symbol) (t : Token) (r : Tokens) → HasRoom g (t ∷ r) → Is k t
    → opening g k (t ∷ r) ≡ Done t r
unfolding opening
opening_done g k t r some is =
    ap (λ b. if b then enter g (t ∷ r) else Refused Unexpected (t ∷ r))
    (same_symbol_is (symbol t) k is) ∙ enter_done g t r some

pub opening_inverse : (g : Rules) (k : Symbol) (i : Tokens) {t : Token} {r : Tokens} → k ≢ End
    → opening g k i ≡ Done t r → HasRoom g i × (i ≡ t ∷ r) × Is k t
unfolding opening
opening_inverse g k i {t} {r} unlike e = go (same_symbol (next i) k) refl e
  where
    go : (b : Bool) → same_symbol (next i) k ≡ b
        → (if b then enter g i else Refused Unexpected i) ≡ Done t r
        → HasRoom g i × (i ≡ t ∷ r) × Is k t
    go true at h =
        let is : next i ≡ k = same_symbol_true (next i) k at in
        let s = enter_inverse g i (λ ends. unlike (sym is ∙ ends)) h in
        (s.0, s.1, sym (ap next s.1) ∙ is)
    go false at h = absurd (refused_not_done h)
