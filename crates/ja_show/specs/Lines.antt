-- How a place of a text is shown: its line, as far as it is near the place, and a caret below the
-- place.
use Rattle.std.specs.Prelude.{ℕ, ◌-◌, ◌+◌, Bool, false, not, ◌||◌, ◌==◌, nat_le, nat_lt, if◌then◌else◌, List, [], ◌∷◌, ◌++◌, take, drop, length, replicate, is_some, unwrap_or}
use Rattle.std.specs.Char.{encode_utf8}
use Rattle.std.specs.Int.{is_in_range}
use Rattle.std.specs.List.{flat_map}
use lib.Chars.{codes}
use Rattle.unicode_width.specs.Width.{char_width}
use Rattle.ja_base.specs.declared.ids.Place.{Place}
use Rattle.ja_files.specs.Lines.{line_at}

-- ---- characters

-- a control, and what marks or turns the direction of characters (UAX 9), isn't shown as it is
abbrev pub is_hidden : ℕ → Bool
is_hidden c =
    not (is_some (char_width false c)) || (c == 0x061C) || is_in_range 0x200E 0x200F c
    || is_in_range 0x202A 0x202E c || is_in_range 0x2066 0x2069 c

-- the bytes of a character as it is shown: a tab stays, and a CR before its LF takes no room
unfoldable pub shown : ℕ → List ℕ
shown c =
    if c == 9 then 9 ∷ [] else if c == 13 then []
    else if is_hidden c then encode_utf8 0xFFFD else encode_utf8 c

-- as many blanks as its columns
unfoldable pub blanks : ℕ → List ℕ
blanks c =
    if c == 9 then 9 ∷ [] else if c == 13 then []
    else if is_hidden c then 32 ∷ [] else replicate (unwrap_or (char_width false c) 1) 32

-- ---- a place of a line

-- At most so many characters of a line are shown; where the column is past the 80th, those from the
-- 60th before it on.
abbrev pub most_shown : ℕ
most_shown = 100

abbrev pub skipped : ℕ → ℕ
skipped column = if nat_le column 80 then 0 else column - 60

-- dots stand for what is left out
abbrev pub dots : Bool → List ℕ
dots some = if some then codes "..." else []

unfoldable pub shown_line : List ℕ → ℕ → List ℕ
shown_line line column =
    let first = skipped column in
    dots (not (first == 0)) ++ flat_map shown (take most_shown (drop first line))
    ++ dots (nat_lt (first + most_shown) (length line)) ++ codes "\n"

unfoldable pub caret_line : List ℕ → ℕ → List ℕ
caret_line line column =
    let first = skipped column in
    (if first == 0 then [] else codes "   ")
    ++ flat_map blanks (take (column - 1 - first) (drop first line)) ++ codes "^\n"

unfoldable pub excerpt : List (List ℕ) → Place → List ℕ
excerpt lines place =
    let line = line_at lines place.line in
    shown_line line place.column ++ caret_line line place.column
