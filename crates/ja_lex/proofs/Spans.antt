-- The spans of tokens stand one behind the other, in the text.
use Rattle.std.proofs.Common.{◌≡◌, ◌≤◌, ℕ, zero, suc, ◌+◌, ◌-◌, Bool, true, false, ◌==◌, if◌then◌else◌, List, [], ◌∷◌, ◌++◌, length, length-append, arith, refl, ap, ◌∙◌, subst}
use Rattle.std.specs.Str.{chars, encode_utf8_all, IsUtf8}
use Rattle.std.specs.Char.{encode_utf8, len_utf8}
use Rattle.std.proofs.lemmas.Str.{length-encode, encodes-chars}
use Rattle.ja_lex.specs.declared.spot.Spot.{Spot}
use Rattle.ja_lex.specs.declared.token.Token.{Token}
use Rattle.ja_lex.specs.declared.element.Element.{Element}
use Rattle.ja_lex.specs.declared.element.Element.TheVariants as element
use Rattle.ja_lex.specs.Spots.{after, past, beginning}
use Rattle.ja_prim.specs.Characters.{char_at}
use Rattle.ja_lex.specs.Tokens.{first_element, element_length, line_behind, led, followed, is_last, token, tokens_after, tokens}
use Rattle.ja_lex.specs.Laws.{AreInOrder}

after_offset : (p : Spot) (c : ℕ) (cs : List ℕ) → (after p (c ∷ cs)).offset ≡ p.offset + len_utf8 c
unfolding after
after_offset p c cs = refl

past_grows : (n : ℕ) (p : Spot) (cs : List ℕ) → p.offset ≤ (past n p cs).offset
unfolding past
past_grows zero p cs = omega arith
past_grows (suc n) p [] = omega arith
past_grows (suc n) p (c ∷ cs) =
    let h : (after p (c ∷ cs)).offset ≤ (past n (after p (c ∷ cs)) cs).offset = past_grows n
    (after p (c ∷ cs)) cs in
    omega (arith, after_offset p c cs)

-- the offset behind the last of some characters
abbrev total : Spot → List ℕ → ℕ
total p cs = p.offset + length (encode_utf8_all cs)

total_after : (p : Spot) (c : ℕ) (cs : List ℕ) → total (after p (c ∷ cs)) cs ≡ total p (c ∷ cs)
total_after p c cs =
    let e : length (encode_utf8 c ++ encode_utf8_all cs) ≡ length (encode_utf8 c)
    + length (encode_utf8_all cs) = length-append (encode_utf8 c) (encode_utf8_all cs) in
    let f : length (encode_utf8_all (c ∷ cs))
    ≡ length (encode_utf8 c ++ encode_utf8_all cs) = refl in
    omega (arith, after_offset p c cs, length-encode c, e, f)

in_bounds : (from to : ℕ) (ts : List Token) → AreInOrder from to ts → from ≤ to
in_bounds from to [] h = h
in_bounds from to (t ∷ ts) h = let e : t.end ≤ to = in_bounds t.end to ts h.2 in
    omega (arith, h.0, h.1)

weaker : (a b to : ℕ) (ts : List Token) → a ≤ b → AreInOrder b to ts → AreInOrder a to ts
weaker a b to [] l h = omega arith
weaker a b to (t ∷ ts) l h = (omega (arith, h.0), h.1, h.2)

followed_order : (from to : ℕ) (t : Token) (more : List Token) → from ≤ t.start → t.start ≤ t.end
    → AreInOrder t.end to more → AreInOrder from to (followed t more)
followed_order from to t more a b h = (a, b, go (is_last t.kind))
  where
    go : (last : Bool) → AreInOrder t.end to (if last then [] else more)
    go true = in_bounds t.end to more h
    go false = h

led_order : (e : Element) (line : Bool) (p q : Spot) (to : ℕ) (more : List Token)
    → p.offset ≤ q.offset → AreInOrder q.offset to more
    → AreInOrder p.offset to (led e line p q more)
led_order (element.Blank n) line p q to more l h = weaker p.offset q.offset to more l h
led_order (element.Token k n) line p q to more l h =
    followed_order p.offset to (token k line p q) more (omega arith) l h

order_after : (n : ℕ) (line : Bool) (p : Spot) (cs : List ℕ)
    → AreInOrder (past n p cs).offset (total p cs) (tokens_after n line p cs)
unfolding tokens_after past
order_after zero line p [] = (omega arith, omega arith, omega arith)
order_after (suc n) line p [] = (omega arith, omega arith, omega arith)
order_after (suc n) line p (c ∷ cs) =
    subst (λ (to : ℕ). AreInOrder (past n (after p (c ∷ cs)) cs).offset to
    (tokens_after n line (after p (c ∷ cs)) cs)) (total_after p c cs)
    (order_after n line (after p (c ∷ cs)) cs)
order_after zero line p (c ∷ cs) =
    let e : Element = first_element (c ∷ cs) in
    let n : ℕ = element_length e - 1 in
    let q : Spot = after p (c ∷ cs) in
    let g : q.offset ≤ (past n q cs).offset = past_grows n q cs in
    led_order e line p (past n q cs) (total p (c ∷ cs))
    (tokens_after n (line_behind e line (c ∷ cs)) q cs) (omega (arith, g, after_offset p c cs))
    (subst (λ (to : ℕ). AreInOrder (past n q cs).offset to
    (tokens_after n (line_behind e line (c ∷ cs)) q cs)) (total_after p c cs)
    (order_after n (line_behind e line (c ∷ cs)) q cs))

pub spans_in_order : (text : List ℕ) → IsUtf8 text → AreInOrder 0 (length text) (tokens text)
unfolding tokens
spans_in_order text h =
    let k : ℕ = if char_at (chars text) 0 == 0xFEFF then 1 else 0 in
    let e : total beginning (chars text) ≡ length text = ap (λ (bs : List ℕ). 0 + length bs)
    (encodes-chars text h) ∙ omega arith in
    weaker 0 (past k beginning (chars text)).offset (length text) (tokens text) (omega arith)
    (subst (λ (to : ℕ). AreInOrder (past k beginning (chars text)).offset to (tokens text)) e
    (order_after k false beginning (chars text)))
