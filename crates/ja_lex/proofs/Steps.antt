-- Steps of the lexer's loops.
use Rattle.std.proofs.Common.{◌≡◌, ◌≤◌, ◌<◌, ℕ, zero, suc, ◌+◌, ◌-◌, max, Bool, true, false, ◌&&◌, ◌||◌, ◌==◌, if◌then◌else◌, List, [], ◌∷◌, subst, length, get_or, take, drop, drop-cons, add-one, sub-one, arith, refl, ap, ◌∙◌, sym}
use Rattle.std.proofs.lemmas.List.{take_all}
use Rattle.std.specs.List.{list_any}
use Rattle.std.proofs.lemmas.Bool.Decides.{nat_tests}
use Rattle.ja_lex.specs.declared.spot.Spot.{Spot}
use Rattle.ja_lex.specs.declared.token.Token.{Token}
use Rattle.ja_lex.specs.declared.token.TokenKind.{TokenKind}
use Rattle.ja_lex.specs.declared.token.TokenKind.TheVariants as kind
use Rattle.ja_lex.specs.declared.element.Element.{Element}
use Rattle.ja_lex.specs.declared.element.Element.TheVariants as element
use Rattle.ja_prim.specs.Characters.{char_at, is_terminator}
use Rattle.ja_lex.specs.Spots.{after, past}
use Rattle.ja_lex.specs.Marks.{begins_with, longest, marks, mark_or, mark, stranger, bad}
use Rattle.ja_lex.specs.Tokens.{first_element, element_length, line_behind, led, followed, is_last, token, tokens_after}
use Rattle.ja_lex.proofs.Bodies.{max_one}

-- ---- spots

-- the rest of a slice pattern
pub tail_is : (c : ℕ) (cs : List ℕ) → take (length (c ∷ cs) - 1) (drop 1 (c ∷ cs)) ≡ cs
tail_is c cs = take_all (length (c ∷ cs) - 1) cs (omega arith)

pub past_next : (n : ℕ) (p : Spot) (cs : List ℕ) → 0 < n → 1 ≤ length cs
    → past (n - 1) (after p cs) (take (length cs - 1) (drop 1 cs)) ≡ past n p cs
unfolding past
past_next zero p cs h k = absurd (omega arith)
past_next (suc n) p [] h k = absurd (omega arith)
past_next (suc n) p (c ∷ cs) h k = rw (sub-one, tail_is c cs) refl

pub drop_next : (n : ℕ) (cs : List ℕ) → 0 < n → 1 ≤ length cs
    → drop (n - 1) (take (length cs - 1) (drop 1 cs)) ≡ drop n cs
drop_next zero cs h k = absurd (omega arith)
drop_next (suc n) [] h k = absurd (omega arith)
drop_next (suc n) (c ∷ cs) h k = rw (sub-one, tail_is c cs) refl

pub past_end : (n : ℕ) (p : Spot) (cs : List ℕ) → length cs < 1 → past n p cs ≡ p
unfolding past
past_end zero p cs h = refl
past_end (suc n) p [] h = refl
past_end (suc n) p (c ∷ cs) h = absurd (omega arith)

pub past_none : (n : ℕ) (p : Spot) (cs : List ℕ) → n ≤ 0 → past n p cs ≡ p
unfolding past
past_none zero p cs h = refl
past_none (suc n) p cs h = absurd (omega arith)

-- ---- marks

differs : (m c : ℕ) (b : Bool) → (c ≡ m → ⊥) → (m == c) && b ≡ false
differs m c b n = grind (arith, nat_tests)

same : (m c : ℕ) (b : Bool) → c ≡ m → (m == c) && b ≡ b
same m c b e = grind (arith, nat_tests)

pub begins_short : (ms cs : List ℕ) (i : ℕ) → i < length ms → length cs < 1
    → begins_with (drop i ms) cs ≡ false
unfolding begins_with
begins_short ms [] i h k = rw (drop-cons ms i 0) refl
begins_short ms (c ∷ cs) i h k = absurd (omega arith)

pub begins_next : (ms cs : List ℕ) (i : ℕ) → i < length ms → 1 ≤ length cs
    → begins_with (drop i ms) cs ≡ (get_or ms i 0 == get_or cs 0 0)
    && begins_with (drop (i + 1) ms) (take (length cs - 1) (drop 1 cs))
unfolding begins_with
begins_next ms [] i h k = absurd (omega arith)
begins_next ms (c ∷ cs) i h k = rw (tail_is c cs, add-one, drop-cons ms i 0) refl

pub begins_differs : (ms cs : List ℕ) (i : ℕ) → i < length ms → 1 ≤ length cs
    → (get_or cs 0 0 ≡ get_or ms i 0 → ⊥) → begins_with (drop i ms) cs ≡ false
begins_differs ms cs i h k n = begins_next ms cs i h k ∙ differs (get_or ms i 0) (get_or cs 0 0) _ n

pub begins_same : (ms cs : List ℕ) (i : ℕ) → i < length ms → 1 ≤ length cs
    → get_or cs 0 0 ≡ get_or ms i 0
    → begins_with (drop (i + 1) ms) (take (length cs - 1) (drop 1 cs)) ≡ begins_with (drop i ms) cs
begins_same ms cs i h k e = sym (begins_next ms cs i h k ∙ same (get_or ms i 0) (get_or cs 0 0) _ e)

pub begins_all : (ms cs : List ℕ) (i : ℕ) → length ms ≤ i → begins_with (drop i ms) cs ≡ true
unfolding begins_with
begins_all [] cs zero h = refl
begins_all [] cs (suc i) h = refl
begins_all (m ∷ ms) cs zero h = absurd (omega arith)
begins_all (m ∷ ms) cs (suc i) h = begins_all ms cs i (omega arith)

mark_or_is : (other : Element) (w : List ℕ) → 1 ≤ length w
    → element.Token (kind.Mark w) (length w) ≡ mark_or other w
mark_or_is other [] h = absurd (omega arith)
mark_or_is other (m ∷ ms) h = refl

pub mark_found : (cs w : List ℕ) → 1 ≤ length w → w ≡ longest [] marks cs
    → element.Token (kind.Mark w) (length w) ≡ mark cs
unfolding mark
mark_found cs w h e =
    subst (λ (v : List ℕ). element.Token (kind.Mark w) (length w)
    ≡ mark_or (bad (stranger (char_at cs 0))) v) e (mark_or_is _ w h)

-- ---- tokens

after_skip : (n : ℕ) (line : Bool) (p : Spot) (cs : List ℕ)
    → tokens_after n line p cs ≡ tokens_after 0 line (past n p cs) (drop n cs)
unfolding tokens_after past
after_skip zero line p cs = refl
after_skip (suc n) line p [] = refl
after_skip (suc n) line p (c ∷ cs) = after_skip n line (after p (c ∷ cs)) cs

pub tokens_next : (line : Bool) (p : Spot) (cs : List ℕ) → 1 ≤ length cs
    → tokens_after 0 line p cs ≡ led (first_element cs) line p
    (past (max (element_length (first_element cs)) 1) p cs)
    (tokens_after 0 (line_behind (first_element cs) line cs)
    (past (max (element_length (first_element cs)) 1) p cs)
    (drop (max (element_length (first_element cs)) 1) cs))
unfolding tokens_after past
tokens_next line p [] h = absurd (omega arith)
tokens_next line p (c ∷ cs) h =
    rw max_one (ap (led (first_element (c ∷ cs)) line p
    (past (element_length (first_element (c ∷ cs)) - 1) (after p (c ∷ cs)) cs))
    (after_skip (element_length (first_element (c ∷ cs)) - 1)
    (line_behind (first_element (c ∷ cs)) line (c ∷ cs)) (after p (c ∷ cs)) cs))

pub blank_next : (line : Bool) (p : Spot) (cs : List ℕ) (n : ℕ) → 1 ≤ length cs
    → first_element cs ≡ element.Blank n
    → tokens_after 0 (line || list_any is_terminator (take n cs)) (past (max n 1) p cs)
    (drop (max n 1) cs) ≡ tokens_after 0 line p cs
blank_next line p cs n h e = sym (tokens_next line p cs h ∙ rw e refl)

pub token_next : (line : Bool) (p : Spot) (cs : List ℕ) (k : TokenKind) (n : ℕ) → 1 ≤ length cs
    → first_element cs ≡ element.Token k n
    → tokens_after 0 line p cs ≡ followed (token k line p (past (max n 1) p cs))
    (tokens_after 0 false (past (max n 1) p cs) (drop (max n 1) cs))
token_next line p cs k n h e = tokens_next line p cs h ∙ rw e refl

pub tokens_end : (line : Bool) (p : Spot) (cs : List ℕ) (more : List Token) → length cs < 1
    → tokens_after 0 line p cs ≡ followed (token kind.End line p p) more
unfolding tokens_after
tokens_end line p [] more h = refl
tokens_end line p (c ∷ cs) more h = absurd (omega arith)

-- a U+FEFF that stands first
pub mark_skip : (p : Spot) (cs : List ℕ)
    → tokens_after 1 false p cs ≡ tokens_after 0 false (past 1 p cs) (drop 1 cs)
mark_skip p cs = after_skip 1 false p cs

pub followed_more : (t : Token) (more : List Token) → false ≡ is_last t.kind
    → followed t more ≡ t ∷ more
followed_more t more h = ap (λ (b : Bool). t ∷ (if b then [] else more)) (sym h)
