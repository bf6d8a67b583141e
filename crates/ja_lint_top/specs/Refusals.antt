-- Why files aren't analysed, in words, and where.
use Rattle.std.specs.Prelude.{◌≡◌, ◌<◌, ◌⊎◌, ◌==◌, ℕ, Bool, false, if◌then◌else◌, List, [], ◌∷◌, ◌++◌, map, slice_get, Option, Some, None}
use Rattle.std.specs.Fmt.{decimal}
use Rattle.std.specs.Option.{option_map}
use Rattle.std.specs.Str.{bytes_eq, chars}
use lib.Chars.{codes}
use Rattle.ja_base.specs.declared.ids.Place.{Place}
use Rattle.ja_base.specs.declared.ids.ScopeKind.{ScopeKind}
use Rattle.ja_base.specs.declared.ids.ScopeKind.TheVariants as scope
use Rattle.ja_files.specs.declared.file.File.{File}
use Rattle.ja_files.specs.declared.file.Spot.{Spot}
use Rattle.ja_files.specs.Files.{bytes_of, characters_of, name_of, first_lines_of, joined_text, spot_at, spot_of, unmarked_text}
use Rattle.ja_graph.specs.declared.program.Program.{Program}
use Rattle.ja_grammar.specs.Language.{max_levels}
use Rattle.ja_grammar.specs.declared.fault.ParseFault.{ParseFault}
use Rattle.ja_grammar.specs.declared.fault.ParseFault.TheVariants as fault
use Rattle.ja_lex.specs.Spots.{max_bytes}
use Rattle.ja_lint_devices.specs.Devices.{is_among}
use Rattle.ja_load.specs.Loading.{IsProgramOf, IsTextOf, HasManyFunctions, HasManyNodes, IsNone}
use Rattle.ja_lower.specs.Limits.{max_functions, max_size}
use Rattle.ja_prim.specs.declared.signature.Signature.{Signature}
use Rattle.ja_rows.specs.declared.table.Item.{Item}
use Rattle.ja_solve.specs.Solving.{WasSpent}
use Rattle.ja_show.specs.declared.message.Level.TheVariants.{Error}
use Rattle.ja_sarif.specs.Sarif.{sarif_text}
use Rattle.ja_show.specs.declared.message.Message.{Message}
use Rattle.ja_show.specs.declared.message.Rule.TheVariants.{Refused}
use Rattle.ja_show.specs.Messages.{messages_text, shown_name}
use Rattle.ja_syntax.specs.declared.tree.Statement.{Statement}
use Rattle.ja_texts.specs.Texts.{scope_name}
use Rattle.ja_words.specs.Words.{default_budget}
use Rattle.ja_lint_top.specs.Replies.{Reply, told_line}
use Rattle.ja_lint_top.specs.declared.asking.Format.{Format}
use Rattle.ja_lint_top.specs.declared.asking.Format.TheVariants as format
use Rattle.ja_lint_top.specs.declared.help.TheConstants.{VERSION}
use Rattle.ja_lint_top.specs.declared.reply.Status.TheVariants.{Unfinished}

-- ---- files

-- standard input where no file is named; it is shown in words of its own
abbrev pub stdin : List ℕ
stdin = codes "-"

abbrev pub named : List (List ℕ) → List (List ℕ)
named [] = stdin ∷ []
named names = names

-- those of some names that weren't seen, each where it stands first
unfoldable pub unseen : List (List ℕ) → List (List ℕ) → List (List ℕ)
unseen seen [] = []
unseen seen (name ∷ names) =
    if is_among seen name then unseen seen names
    else name ∷ unseen (seen ++ name ∷ []) names

-- a file that is named again is taken once
abbrev pub names_of : List (List ℕ) → List (List ℕ)
names_of names = unseen [] (named names)

abbrev pub known_as : List ℕ → List ℕ
known_as name =
    if bytes_eq name stdin then codes "<stdin>"
    else if bytes_eq name [] then codes "''" else name

-- a file has the name that is shown, and its bytes but for a mark of their order
abbrev pub AreFiles : List (List ℕ) → List (List ℕ) → List File → Type 0
AreFiles [] [] files = files ≡ []
AreFiles (name ∷ names) (bytes ∷ contents) (file ∷ files) =
    (file.name.now ≡ known_as name) × (file.text.now ≡ unmarked_text bytes)
    × AreFiles names contents files
AreFiles names contents files = ⊥

-- the one text of files, and the lines at which they begin there
abbrev pub text_of : List File → List ℕ
text_of files = joined_text (map bytes_of files)

abbrev pub lines_of : List File → List ℕ
lines_of files = first_lines_of (map characters_of files)

-- what is said of a file
abbrev pub about : List ℕ → List ℕ → List ℕ
about name words = shown_name (chars (known_as name)) ++ codes ": " ++ words

-- messages about files, as lines
abbrev pub lines_about : List File → List Message → List ℕ
lines_about files messages =
    messages_text (map name_of files) (map characters_of files) messages

-- .. and as SARIF, with whether there is an answer, and what is said at its end
abbrev pub sarif_about : List File → List Message → Bool → List ℕ → List ℕ
sarif_about files messages answered ending =
    sarif_text VERSION.now (map (λ (file : File). file.name.now) files) (map characters_of files)
    messages answered ending

-- ---- a text that is refused

abbrev pub error_of : Option Spot → List ℕ → Message
error_of spot text = record {
  level = Error;
  rule = Refused;
  spot = spot;
  text = text;
  calls = [];
}

abbrev pub refused_words : List ℕ → List ℕ
refused_words words = codes "nothing is analysed: " ++ words

-- a line stands for a page too
abbrev pub refusal_text : Format → List File → Message → List ℕ → List ℕ
refusal_text format.Sarif files m why = sarif_about files (m ∷ []) false why
refusal_text form files m why = lines_about files (m ∷ [])

-- one error, at a place of a file or at none; nothing is analysed
abbrev pub Refuses : Format → List File → Option Spot → List ℕ → Reply → Type 0
Refuses form files spot words r =
    let why = refused_words words in
    (r.status ≡ Unfinished) × (r.out ≡ refusal_text form files (error_of spot words) why)
    × (r.line ≡ told_line why)

abbrev pub memory_words : List ℕ
memory_words = codes "memory was refused"

abbrev pub length_words : List ℕ
length_words = codes "more than " ++ decimal max_bytes ++ codes " bytes"

abbrev pub depth_words : List ℕ
depth_words = codes "nested deeper than " ++ decimal max_levels ++ codes " levels"

abbrev pub format_words : List ℕ
format_words = codes "the formats are text, html and sarif"

abbrev pub functions_words : List ℕ
functions_words = codes "more than " ++ decimal max_functions ++ codes " functions"

abbrev pub nodes_words : List ℕ
nodes_words = codes "more than " ++ decimal max_size ++ codes " nodes"

abbrev pub spent_words : List ℕ
spent_words = codes "not closed after " ++ decimal default_budget ++ codes " visits"

-- why and where a text is no program; want of memory has no place, and refuses none
abbrev pub fault_place : ParseFault → Option Place
fault_place (fault.Syntax place) = Some place
fault_place (fault.Scope kind place) = Some place
fault_place (fault.Depth place) = Some place
fault_place fault.Memory = None

-- what a text may not have, in words; what ends runs alone goes by its name
abbrev pub kind_words : ScopeKind → List ℕ
kind_words scope.Eval = codes "the name 'eval'"
kind_words scope.With = codes "a 'with' statement"
kind_words scope.RegExp = codes "a regular expression"
kind_words scope.Octal = codes "an octal number, or an octal escape"
kind_words scope.Number = codes "a number that isn't whole, or is too large"
kind_words scope.NonAscii = codes "a character past ASCII outside of strings and comments"
kind_words scope.IdentifierEscape = codes "an escape in a name"
kind_words scope.ReservedWord = codes "a word that is reserved for the future"
kind_words scope.ArgumentsName = codes "a variable or function with the name 'arguments'"
kind_words scope.TextLength = codes "a string or a name that is too long"
kind_words kind = scope_name kind

abbrev pub fault_words : ParseFault → List ℕ
fault_words (fault.Syntax place) = codes "syntax error"
fault_words (fault.Scope kind place) = codes "this tool doesn't take " ++ kind_words kind
fault_words (fault.Depth place) = depth_words
fault_words fault.Memory = memory_words

abbrev pub no_text_words : ℕ → List ℕ
no_text_words offset = codes "no character begins at byte " ++ decimal offset

-- a file is a program by itself
abbrev pub IsAlone : File → Type 0
IsAlone file = (statements : List Statement) × IsTextOf (bytes_of file) statements

-- a file that is no program by itself
abbrev pub RefusesOne : Format → List File → Reply → Type 0
RefusesOne form files r =
    (number : ℕ) × (file : File) × (why : ParseFault) × (place : Place)
    × (slice_get files number ≡ Some file) × IsNone (bytes_of file) why
    × (fault_place why ≡ Some place)
    × Refuses form files (Some (spot_at number place)) (fault_words why) r

-- the files together are no program, or pass a limit
abbrev pub RefusesAll : Format → List Signature → List File → Reply → Type 0
RefusesAll form signatures files r =
    let text = text_of files in
    ((why : ParseFault) × (place : Place) × IsNone text why × (fault_place why ≡ Some place)
    × Refuses form files (Some (spot_of (lines_of files) place)) (fault_words why) r)
    ⊎ ((HasManyFunctions text × Refuses form files None functions_words r)
    ⊎ ((HasManyNodes text signatures × Refuses form files None nodes_words r)
    ⊎ ((p : Program) × IsProgramOf text signatures p
    × ((visits : List Item) × WasSpent p default_budget visits)
    × Refuses form files None spent_words r)))
