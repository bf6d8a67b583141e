-- Files and their one text, and where a place of that text comes from.
use Rattle.std.specs.Prelude.{ℕ, ◌-◌, ◌+◌, ◌==◌, nat_eq, nat_le, if◌then◌else◌, List, [], ◌∷◌, ◌++◌, drop, slice_index}
use Rattle.std.specs.List.{flat_map, prefix_len, starts_with}
use Rattle.std.specs.Str.{chars}
use lib.Chars.{codes}
use Rattle.ja_base.specs.declared.ids.Place.{Place}
use Rattle.ja_lex.specs.Spots.{place_at}
use Rattle.ja_prim.specs.Characters.{char_at}
use Rattle.ja_files.specs.declared.file.File.{File}
use Rattle.ja_files.specs.declared.file.Spot.{Spot}
use Rattle.ja_files.specs.Lines.{endings}

-- ---- a file

-- the characters of its name
abbrev pub name_of : File → List ℕ
name_of file = chars file.name.now

-- the bytes of its text in UTF-8, and the characters
abbrev pub bytes_of : File → List ℕ
bytes_of file = file.text.now

abbrev pub characters_of : File → List ℕ
characters_of file = chars file.text.now

-- U+FEFF, the mark of the byte order, in UTF-8
abbrev pub mark : List ℕ
mark = 0xEF ∷ 0xBB ∷ 0xBF ∷ []

-- the bytes without the mark that may stand in front, and the characters without it
abbrev pub unmarked_text : List ℕ → List ℕ
unmarked_text bytes = if starts_with nat_eq bytes mark then drop 3 bytes else bytes

abbrev pub unmarked_characters : List ℕ → List ℕ
unmarked_characters cs = if char_at cs 0 == 0xFEFF then drop 1 cs else cs

-- ---- one text

-- what stands between two texts: the end of a line, an empty statement, and the end of its line
abbrev pub separator : List ℕ
separator = codes "\n;\n"

abbrev pub behind_separator : List ℕ → List ℕ
behind_separator text = separator ++ text

-- the texts one behind another, of bytes or of characters
unfoldable pub joined_text : List (List ℕ) → List ℕ
joined_text [] = []
joined_text (text ∷ texts) = text ++ flat_map behind_separator texts

-- what these texts are in front of another one
abbrev pub before_separator : List ℕ → List ℕ
before_separator text = text ++ separator

abbrev pub in_front : List (List ℕ) → List ℕ
in_front texts = flat_map before_separator texts

-- ---- lines

-- how many lines a text takes in front of another one
abbrev pub taken : List ℕ → ℕ
taken text = endings (before_separator text)

-- the lines at which texts begin of which the first begins at this one
unfoldable pub lines_from : ℕ → List (List ℕ) → List ℕ
lines_from line [] = []
lines_from line (text ∷ texts) = line ∷ lines_from (line + taken text) texts

abbrev pub first_lines_of : List (List ℕ) → List ℕ
first_lines_of texts = lines_from 1 texts

-- ---- spots

abbrev pub spot_at : ℕ → Place → Spot
spot_at file place = record { file = file; place = place }

-- the last file that begins up to a line: so many begin there, less one
abbrev pub file_at : List ℕ → ℕ → ℕ
file_at firsts line = prefix_len (λ (first : ℕ). nat_le first line) firsts - 1

-- .. and the place in it, where lines are counted from its first one
abbrev pub spot_of : List ℕ → Place → Spot
spot_of firsts at =
    let file = file_at firsts at.line in
    spot_at file (place_at (at.line - (slice_index firsts file - 1)) at.column)
