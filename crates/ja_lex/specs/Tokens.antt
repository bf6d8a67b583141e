-- The tokens of a text (ES3 section 7).
use Rattle.std.specs.Prelude.{ℕ, zero, suc, ◌-◌, Bool, true, false, ◌&&◌, ◌||◌, ◌==◌, if◌then◌else◌, List, [], ◌∷◌, take}
use Rattle.std.specs.List.{prefix_len, list_any}
use Rattle.std.specs.Str.{chars}
use Rattle.ja_lex.specs.declared.token.TokenKind.{TokenKind}
use Rattle.ja_lex.specs.declared.token.TokenKind.TheVariants as kind
use Rattle.ja_lex.specs.declared.token.Token.{Token}
use Rattle.ja_lex.specs.declared.element.Element.{Element}
use Rattle.ja_lex.specs.declared.element.Element.TheVariants as element
use Rattle.ja_lex.specs.declared.spot.Spot.{Spot}
use Rattle.ja_prim.specs.Characters.{char_at, is_terminator, is_blank, is_digit, is_part, is_escape}
use Rattle.ja_lex.specs.Spots.{beginning, after, past}
use Rattle.ja_lex.specs.Blanks.{is_in_line, long_comment}
use Rattle.ja_lex.specs.Words.{word}
use Rattle.ja_lex.specs.Numbers.{number}
use Rattle.ja_lex.specs.Strings.{string}
use Rattle.ja_lex.specs.Marks.{mark}

-- `//` and all that stands before the next line terminator, or before the end (7.4)
abbrev pub line_comment : List ℕ → Element
line_comment cs = element.Blank (prefix_len is_in_line cs)

-- a digit, or `.` and a digit
unfoldable pub begins_number : List ℕ → Bool
begins_number cs = is_digit (char_at cs 0) || (char_at cs 0 == 46 && is_digit (char_at cs 1))

-- a letter, `_` or `$`, or an escape (a digit begins a number)
unfoldable pub begins_word : List ℕ → Bool
begins_word cs = is_part (char_at cs 0) || is_escape cs 0

unfoldable pub begins_string : List ℕ → Bool
begins_string cs = char_at cs 0 == 39 || char_at cs 0 == 34

-- `/` and another character
unfoldable pub begins_comment : List ℕ → ℕ → Bool
begins_comment cs c = char_at cs 0 == 47 && char_at cs 1 == c

-- what some characters begin with: a blank (white space, a line terminator or a comment), a token,
-- or nothing that the profile has
unfoldable pub first_element : List ℕ → Element
first_element cs =
    if is_blank (char_at cs 0) then element.Blank 1
    else if begins_comment cs 47 then line_comment cs
    else if begins_comment cs 42 then long_comment cs
    else if begins_number cs then number cs
    else if begins_word cs then word cs
    else if begins_string cs then string cs
    else mark cs

abbrev pub element_length : Element → ℕ
element_length (element.Blank n) = n
element_length (element.Token kind n) = n

-- a token that stands from p up to before q
abbrev pub token : TokenKind → Bool → Spot → Spot → Token
token kind line p q =
    record { kind = kind; start = p.offset; end = q.offset; line_before = line; place = p.place }

-- no token stands behind the end, and behind a refusal none is read
abbrev pub is_last : TokenKind → Bool
is_last (kind.Word w) = false
is_last (kind.Number n) = false
is_last (kind.Text t) = false
is_last (kind.Mark m) = false
is_last kind.End = true
is_last (kind.Bad fault) = true

abbrev pub followed : Token → List Token → List Token
followed t more = t ∷ (if is_last t.kind then [] else more)

-- a line terminator stands in the element, or stood in the blanks before it
abbrev pub line_behind : Element → Bool → List ℕ → Bool
line_behind (element.Blank n) line cs = line || list_any is_terminator (take n cs)
line_behind (element.Token kind n) line cs = false

-- the element and the tokens behind it
abbrev pub led : Element → Bool → Spot → Spot → List Token → List Token
led (element.Blank n) line p q more = more
led (element.Token kind n) line p q more = followed (token kind line p q) more

-- The tokens of characters whose first stands at a spot and of which the first n belong to an
-- element that was read. The Bool says whether a line terminator stands between the last token and
-- there.
unfoldable pub tokens_after : ℕ → Bool → Spot → List ℕ → List Token
tokens_after n line p [] = token kind.End line p p ∷ []
tokens_after (suc n) line p (c ∷ cs) = tokens_after n line (after p (c ∷ cs)) cs
tokens_after zero line p (c ∷ cs) =
    let e = first_element (c ∷ cs) in
    let more = element_length e - 1 in
    led e line p (past more (after p (c ∷ cs)) cs)
    (tokens_after more (line_behind e line (c ∷ cs)) (after p (c ∷ cs)) cs)

-- the tokens of characters, of which a U+FEFF that stands first is none (7.1)
abbrev pub tokens_of : List ℕ → List Token
tokens_of cs = tokens_after (if char_at cs 0 == 0xFEFF then 1 else 0) false beginning cs

-- the tokens of a text, which is given by its bytes
unfoldable pub tokens : List ℕ → List Token
tokens text = tokens_of (chars text)
