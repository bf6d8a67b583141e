-- The list of tokens ends once.
use Rattle.std.proofs.Common.{◌≡◌, ℕ, zero, suc, ◌-◌, Bool, true, false, ◌==◌, if◌then◌else◌, List, [], ◌∷◌, refl}
use Rattle.ja_lex.specs.declared.spot.Spot.{Spot}
use Rattle.ja_lex.specs.declared.token.Token.{Token}
use Rattle.ja_lex.specs.declared.element.Element.{Element}
use Rattle.ja_lex.specs.declared.element.Element.TheVariants as element
use Rattle.ja_lex.specs.Spots.{after, past, beginning}
use Rattle.ja_prim.specs.Characters.{char_at}
use Rattle.ja_lex.specs.Tokens.{first_element, element_length, line_behind, led, followed, is_last, token, tokens_after, tokens}
use Rattle.ja_lex.specs.Laws.{IsEnded}
use Rattle.std.specs.Str.{chars}

-- ---- the list ends once

followed_ended : (t : Token) (more : List Token) → IsEnded more → IsEnded (followed t more)
followed_ended t more h = go (is_last t.kind) refl more h
  where
    go : (b : Bool) → is_last t.kind ≡ b → (more : List Token) → IsEnded more
        → IsEnded (t ∷ (if b then [] else more))
    go true e more h = e
    go false e [] h = absurd h
    go false e (u ∷ us) h = (e, h)

led_ended : (e : Element) (line : Bool) (p q : Spot) (more : List Token) → IsEnded more
    → IsEnded (led e line p q more)
led_ended (element.Blank n) line p q more h = h
led_ended (element.Token k n) line p q more h = followed_ended (token k line p q) more h

ended_after : (n : ℕ) (line : Bool) (p : Spot) (cs : List ℕ) → IsEnded (tokens_after n line p cs)
unfolding tokens_after
ended_after zero line p [] = refl
ended_after (suc n) line p [] = refl
ended_after (suc n) line p (c ∷ cs) = ended_after n line (after p (c ∷ cs)) cs
ended_after zero line p (c ∷ cs) =
    led_ended (first_element (c ∷ cs)) line p
    (past (element_length (first_element (c ∷ cs)) - 1) (after p (c ∷ cs)) cs) _
    (ended_after (element_length (first_element (c ∷ cs)) - 1)
    (line_behind (first_element (c ∷ cs)) line (c ∷ cs)) (after p (c ∷ cs)) cs)

pub tokens_end_once : (text : List ℕ) → IsEnded (tokens text)
unfolding tokens
tokens_end_once text =
    ended_after (if char_at (chars text) 0 == 0xFEFF then 1 else 0) false beginning (chars text)
