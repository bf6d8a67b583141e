-- What stands behind the messages: what isn't told of built-in functions, and the counts of faults,
-- or, without one, what is promised.
use Rattle.std.specs.Prelude.{ℕ, Bool, not, ◌&&◌, if◌then◌else◌, ◌==◌, List, [], ◌∷◌, ◌++◌, filter, length, is_some}
use Rattle.std.specs.Fmt.{decimal}
use lib.Chars.{codes}
use Rattle.ja_files.specs.declared.file.File.{File}
use Rattle.ja_files.specs.Files.{name_of}
use Rattle.ja_show.specs.Messages.{shown_name}
use Rattle.ja_rows.specs.declared.table.Warning.{Warning}
use Rattle.ja_top.specs.Statuses.{has_fault, is_fault}
use Rattle.ja_lint_top.specs.declared.asking.Format.{Format}
use Rattle.ja_lint_top.specs.declared.asking.Format.TheVariants as format

abbrev pub faults_of : List Warning → List Warning
faults_of warnings = filter (λ (w : Warning). is_fault w.kind) warnings

abbrev pub certain_of : List Warning → List Warning
certain_of warnings = filter (λ (w : Warning). w.certain) (faults_of warnings)

abbrev pub rows_of : List Warning → List Warning
rows_of warnings = filter (λ (w : Warning). not (is_fault w.kind)) warnings

-- a read, in a built-in function, of what the analysis doesn't know: it is told where rows are asked
-- for, and else counted
abbrev pub is_counted : Bool → Warning → Bool
is_counted rows w = not rows && (not (is_fault w.kind) && is_some w.builtin)

-- so many of a thing: `1 fault`, `2 faults`
abbrev pub plural : ℕ → List ℕ
plural count = if count == 1 then [] else codes "s"

abbrev pub so_many : ℕ → List ℕ → List ℕ
so_many count thing = decimal count ++ codes " " ++ thing ++ plural count

-- which option tells each; on a page there is none
abbrev pub option_text : Format → List ℕ
option_text format.Html = []
option_text form = codes " (--rows tells each)"

-- how many are counted and not told
unfoldable pub counted_line : Format → ℕ → List ℕ
counted_line form count =
    if count == 0 then [] else
    so_many count (codes "read") ++ codes " in built-in functions of what isn't known to this tool"
    ++ option_text form ++ codes "\n"

-- a name, as it is shown
abbrev pub name_shown : File → List ℕ
name_shown file = shown_name (name_of file)

-- what stands behind one of several names, by how many names are behind it
abbrev pub between : ℕ → List ℕ
between n = if n == 0 then [] else if n == 1 then codes " and " else codes ", "

-- names as people list them: `a`, `a and b`, `a, b and c`
unfoldable pub listed : List (List ℕ) → List ℕ
listed [] = []
listed (name ∷ names) = name ++ between (length names) ++ listed names

-- the theorem
unfoldable pub promise : List (List ℕ) → Bool → List ℕ
promise names rows =
    codes "no run of " ++ listed names
    ++ codes " calls a non-function, reads a property of null or undefined, or meets an unbound name"
    ++ (if rows then codes ", as long as it reads nothing that isn't known to this tool" else [])

-- the reads of what the analysis doesn't know, where there are some
abbrev pub reads_text : ℕ → List ℕ
reads_text count =
    if count == 0 then [] else
    codes "; " ++ so_many count (codes "read") ++ codes " of what isn't known to this tool"

-- the faults, those of them that are certain, and these reads
unfoldable pub counts_by : ℕ → ℕ → ℕ → List ℕ
counts_by faults certain reads =
    so_many faults (codes "fault") ++ codes ", " ++ decimal certain ++ codes " of them certain"
    ++ reads_text reads

abbrev pub counts_text : List Warning → List ℕ
counts_text warnings =
    counts_by (length (faults_of warnings)) (length (certain_of warnings))
    (length (rows_of warnings))

-- The last line: the promise stands exactly where no warning is of a fault.
unfoldable pub last_line : List (List ℕ) → List Warning → List ℕ
last_line names warnings =
    if has_fault warnings then counts_text warnings
    else promise names (not (length (rows_of warnings) == 0))
