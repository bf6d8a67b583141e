-- String literals (7.8.4).
use Rattle.std.specs.Prelude.{ℕ, zero, suc, ◌+◌, ◌-◌, ◌*◌, Bool, true, false, not, ◌&&◌, ◌||◌, ◌==◌, nat_lt, if◌then◌else◌, List, [], ◌∷◌, ◌++◌, length, drop, Option, Some, None}
use Rattle.std.specs.Char.{digit_value}
use Rattle.std.specs.Char.Escape.{encode_utf16}
use Rattle.std.specs.Option.{option_map}
use Rattle.ja_base.specs.declared.ids.ScopeKind.TheVariants as scope
use Rattle.ja_lex.specs.declared.token.TokenFault.TheVariants.{Scope, Lexical}
use Rattle.ja_lex.specs.declared.token.TokenKind.TheVariants as kind
use Rattle.ja_lex.specs.declared.element.Element.{Element}
use Rattle.ja_lex.specs.declared.element.Element.TheVariants as element
use Rattle.ja_lex.specs.declared.item.Item.{Item}
use Rattle.ja_lex.specs.declared.item.Item.TheVariants as item
use Rattle.ja_lex.specs.declared.strings.Body.{Body}
use Rattle.ja_prim.specs.Characters.{char_at, is_terminator, is_digit, is_hexadecimal, is_escape}
use Rattle.ja_prim.specs.Texts.{max_units}
use Rattle.ja_lex.specs.Marks.{bad}

-- what `\` and a character that is no digit, no x, no u and no line terminator stand for: b, t, n,
-- v, f and r a control character, any other itself
unfoldable pub escaped : ℕ → ℕ
escaped c =
    if c == 98 then 8
    else if c == 116 then 9
    else if c == 110 then 10
    else if c == 118 then 11
    else if c == 102 then 12
    else if c == 114 then 13
    else c

-- the number of the two hexadecimal digits from an index on
abbrev pub two_digits : List ℕ → ℕ → ℕ
two_digits cs i = 16 * digit_value (char_at cs i) + digit_value (char_at cs (i + 1))

-- `\x` and two hexadecimal digits
unfoldable pub short_escape : List ℕ → Item
short_escape cs =
    if is_hexadecimal (char_at cs 2) && is_hexadecimal (char_at cs 3)
    then item.Unit (two_digits cs 2) 4 else item.Wrong

-- `\u` and four hexadecimal digits
unfoldable pub long_escape : List ℕ → Item
long_escape cs =
    if is_escape cs 0 then item.Unit (256 * two_digits cs 2 + two_digits cs 4) 6 else item.Wrong

-- `\` and a digit: `\0`, if no digit stands behind it, and else an octal escape (B.1.2)
unfoldable pub digit_escape : List ℕ → Item
digit_escape cs =
    if char_at cs 1 == 48 && not (is_digit (char_at cs 2)) then item.Unit 0 2 else item.Octal

-- an item that begins with `\`
unfoldable pub escape : List ℕ → Item
escape cs =
    if is_terminator (char_at cs 1) then item.Wrong
    else if char_at cs 1 == 120 then short_escape cs
    else if char_at cs 1 == 117 then long_escape cs
    else if is_digit (char_at cs 1) then digit_escape cs
    else item.Character (escaped (char_at cs 1)) 2

-- the first item of what stands behind the opening quote
unfoldable pub first_item : List ℕ → Item
first_item cs =
    if is_terminator (char_at cs 0) then item.Wrong
    else if char_at cs 0 == 92 then escape cs
    else item.Character (char_at cs 0) 1

-- how many characters an item is
abbrev pub item_length : Item → ℕ
item_length (item.Character c n) = n
item_length (item.Unit u n) = n
item_length item.Octal = 2
item_length item.Wrong = 1

-- the units of an item (an octal escape is refused with its string, whatever it stands for)
abbrev pub item_units : Item → List ℕ
item_units (item.Character c n) = encode_utf16 c
item_units (item.Unit u n) = u ∷ []
item_units item.Octal = []
item_units item.Wrong = []

abbrev pub is_octal_item : Item → Bool
is_octal_item (item.Character c n) = false
is_octal_item (item.Unit u n) = false
is_octal_item item.Octal = true
is_octal_item item.Wrong = false

abbrev pub is_wrong : Item → Bool
is_wrong (item.Character c n) = false
is_wrong (item.Unit u n) = false
is_wrong item.Octal = false
is_wrong item.Wrong = true

-- an item before the others
abbrev pub before : Item → Body → Body
before i others = record {
  units = item_units i ++ others.units;
  octal = is_octal_item i || others.octal;
  length = item_length i + others.length;
}

abbrev pub nothing : Body
nothing = record { units = []; octal = false; length = 0 }

-- The items up to a quote, of characters of which the first n belong to an item that was read. None
-- where one is wrong or no quote comes.
unfoldable pub body_after : ℕ → ℕ → List ℕ → Option Body
body_after quote n [] = None
body_after quote (suc n) (c ∷ cs) = body_after quote n cs
body_after quote zero (c ∷ cs) =
    if c == quote then Some nothing
    else if is_wrong (first_item (c ∷ cs)) then None
    else option_map (before (first_item (c ∷ cs)))
    (body_after quote (item_length (first_item (c ∷ cs)) - 1) cs)

abbrev pub of_body : Option Body → Element
of_body None = bad Lexical
of_body (Some b) =
    if b.octal then bad (Scope scope.Octal)
    else if nat_lt max_units (length b.units) then bad (Scope scope.TextLength)
    else element.Token (kind.Text b.units) (b.length + 2)

-- a literal that begins with a quote
unfoldable pub string : List ℕ → Element
string cs = of_body (body_after (char_at cs 0) 0 (drop 1 cs))
