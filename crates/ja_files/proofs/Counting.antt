-- How many lines texts take, and that their numbers are small.
use Rattle.std.proofs.Common.{◌≡◌, ℕ, ◌+◌, ◌<◌, ◌≤◌, Bool, true, false, if◌then◌else◌, List, [], ◌∷◌, ◌++◌, drop, get_or, length, map, refl, ap, sym, ◌∙◌, append-nil, append_assoc, arith}
use Rattle.std.specs.List.{flat_map}
use Rattle.std.specs.Str.{chars}
use Rattle.std.proofs.lemmas.List.{drop_all, drop_more, length-append}
use Rattle.ja_lex.proofs.Texts.{length_chars}
use Rattle.ja_lex.specs.Spots.{ends_line}
use Rattle.ja_files.specs.declared.file.File.{File}
use Rattle.ja_files.specs.Files.{behind_separator, bytes_of, characters_of, first_lines_of, joined_text, lines_from, separator, taken}
use Rattle.ja_files.specs.Lines.{endings}

-- ---- one text

bit : (b : Bool) → (if b then 1 else 0) ≤ 1
bit true = omega arith
bit false = omega arith

pub endings-le : (cs : List ℕ) → endings cs ≤ length cs
endings-le [] = omega arith
endings-le (c ∷ cs) =
    let one = bit (ends_line (c ∷ cs)) in
    let more = endings-le cs in
    omega arith

-- one character more
pub endings_more : (text : List ℕ) (i : ℕ) → i < length text
    → endings (drop i text)
    ≡ (if ends_line (drop i text) then 1 else 0) + endings (drop (i + 1) text)
endings_more text i inside =
    let here = drop_more text i 0 inside in
    ap endings here
    ∙ ap (λ (b : Bool). (if b then 1 else 0) + endings (drop (i + 1) text))
    (ap ends_line (sym here))

pub endings_none : (text : List ℕ) (i : ℕ) → length text ≤ i → endings (drop i text) ≡ 0
endings_none text i past = ap endings (drop_all i text past)

pub length-taken : (text : List ℕ) → length (chars text ++ separator) ≤ length text + 3
length-taken text = omega (arith, length_chars text, length-append (chars text) separator)

pub taken-few : (text : List ℕ) → taken (chars text) ≤ length text + 3
taken-few text =
    let all = endings-le (chars text ++ separator) in
    let long = length-taken text in
    omega arith

-- ---- files

-- the room that files take, each with a separator
abbrev pub room : List File → ℕ
room [] = 0
room (file ∷ files) = length (bytes_of file) + 3 + room files

room_others : (files : List File)
    → room files ≡ length (flat_map behind_separator (map bytes_of files))
room_others [] = refl
room_others (file ∷ files) =
    let more = room_others files in
    let both = length-append (behind_separator (bytes_of file))
    (flat_map behind_separator (map bytes_of files)) in
    omega arith

pub room-le : (files : List File) → room files ≤ length (joined_text (map bytes_of files)) + 3
unfolding joined_text
room-le [] = omega arith
room-le (file ∷ files) =
    let more = room_others files in
    let both = length-append (bytes_of file) (flat_map behind_separator (map bytes_of files)) in
    omega arith

pub files-few : (files : List File) → length files ≤ room files
files-few [] = omega arith
files-few (file ∷ files) =
    let more = files-few files in
    omega arith

room_more : (files : List File) (i : ℕ) (d : File) → i < length files
    → room (drop i files)
    ≡ length (bytes_of (get_or files i d)) + 3 + room (drop (i + 1) files)
room_more files i d inside = ap room (drop_more files i d inside)

pub each_within : (files : List File) (i : ℕ) (d : File) (line most : ℕ) → i < length files
    → 1 ≤ line → line + room (drop i files) ≤ most + 4
    → length (bytes_of (get_or files i d)) ≤ most
each_within files i d line most inside one within =
    let here = room_more files i d inside in
    omega arith

pub room_left : (files : List File) (i : ℕ) (d : File) (line count most : ℕ) → i < length files
    → count ≤ length (bytes_of (get_or files i d)) + 3 → line + room (drop i files) ≤ most
    → line + count + room (drop (i + 1) files) ≤ most
room_left files i d line count most inside few within =
    let here = room_more files i d inside in
    omega arith

-- ---- their first lines

-- the lines so far, and those of the other files, are those of all
pub lines_more : (lines next : List ℕ) (line count : ℕ) (files : List File) (i : ℕ) (d : File)
    → i < length files → next ≡ lines ++ line ∷ []
    → count ≡ taken (characters_of (get_or files i d))
    → lines ++ lines_from line (map characters_of (drop i files))
    ≡ first_lines_of (map characters_of files)
    → next ++ lines_from (line + count) (map characters_of (drop (i + 1) files))
    ≡ first_lines_of (map characters_of files)
unfolding lines_from
lines_more lines next line count files i d inside step takes was =
    let rest : List File = drop (i + 1) files in
    ap (λ (ls : List ℕ). ls ++ lines_from (line + count) (map characters_of rest)) step
    ∙ append_assoc lines (line ∷ []) (lines_from (line + count) (map characters_of rest))
    ∙ ap (λ (k : ℕ). lines ++ line ∷ lines_from (line + k) (map characters_of rest)) takes
    ∙ ap (λ (fs : List File). lines ++ lines_from line (map characters_of fs))
    (sym (drop_more files i d inside))
    ∙ was

pub lines_all : (lines : List ℕ) (line : ℕ) (files : List File) (i : ℕ) → length files ≤ i
    → lines ++ lines_from line (map characters_of (drop i files))
    ≡ first_lines_of (map characters_of files)
    → lines ≡ first_lines_of (map characters_of files)
unfolding lines_from
lines_all lines line files i past was =
    sym (append-nil lines)
    ∙ ap (λ (fs : List File). lines ++ lines_from line (map characters_of fs))
    (sym (drop_all i files past))
    ∙ was
