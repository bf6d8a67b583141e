-- The answers of the program to words and files: the cause of each status, and what is written.
use Rattle.std.specs.Prelude.{◌≡◌, ◌<◌, ◌≤◌, ◌⊎◌, ℕ, Bool, true, false, if◌then◌else◌, List, [], ◌∷◌, ◌++◌, length, map, filter, not, Option, Some, None, Contains}
use Rattle.std.specs.List.{AllByRecursion}
use Rattle.std.specs.Str.{IsUtf8, bytes_eq}
use Rattle.std.specs.Str.Lossy.{utf8_valid_len}
use lib.Chars.{codes}
use Rattle.ja_base.specs.Streams.{Rose, Keeps, AppendsFront}
use Rattle.ja_device.specs.Devices.{AllSeen}
use Rattle.ja_files.specs.declared.file.File.{File}
use Rattle.ja_files.specs.Files.{characters_of, name_of, spot_of}
use Rattle.ja_graph.specs.declared.program.Program.{Program}
use Rattle.ja_lex.specs.Spots.{max_bytes}
use Rattle.ja_lint_devices.specs.Devices.{usual_values, AreDeclared, IsRefused}
use Rattle.ja_lint_devices.specs.Texts.{refused_text}
use Rattle.ja_lint_devices.specs.declared.refused.Refused.{Refused}
use Rattle.ja_lint_words.specs.Words.{Asked, Word, IsCommandLine}
use Rattle.ja_load.specs.Loading.{IsProgramOf}
use Rattle.ja_prim.specs.declared.signature.Signature.{Signature}
use Rattle.ja_rows.specs.declared.table.Item.{Item}
use Rattle.ja_rows.specs.declared.table.Warning.{Warning}
use Rattle.ja_rows.specs.Table.{Table, IsBuilt}
use Rattle.ja_show.specs.declared.message.Link.{Link as ShownLink}
use Rattle.ja_show.specs.declared.message.Message.{Message}
use Rattle.ja_show.specs.Messages.{tool_name}
use Rattle.ja_show.specs.Page.{page_text}
use Rattle.ja_top.specs.Answers.{Written}
use Rattle.ja_top.specs.Promises.{IsSound}
use Rattle.ja_top.specs.Runs.{signatures_of}
use Rattle.ja_top.specs.Statuses.{has_fault}
use Rattle.ja_words.specs.Words.{default_budget}
use Rattle.ja_lint_top.specs.Calls.{AreLinks}
use Rattle.ja_lint_top.specs.Ending.{counted_line, is_counted, last_line, name_shown}
use Rattle.ja_lint_top.specs.Reading.{Held, AreHeld, Holds, HoldsMore, HoldsNone}
use Rattle.ja_lint_top.specs.Refusals.{about, format_words, length_words, lines_about, lines_of, memory_words, no_text_words, text_of, AreFiles, IsAlone, RefusesAll, RefusesOne, names_of, sarif_about}
use Rattle.ja_lint_top.specs.Replies.{Reply, told_line, Fails, IsLineTold, IsWhole, Says}
use Rattle.ja_lint_top.specs.Telling.{AreTold}
use Rattle.ja_lint_top.specs.declared.asking.Format.{Format}
use Rattle.ja_lint_top.specs.declared.asking.Format.TheVariants as format
use Rattle.ja_lint_top.specs.declared.asking.Manner.{Manner}
use Rattle.ja_lint_top.specs.declared.help.TheConstants.{HELP, VERSION}
use Rattle.ja_lint_top.specs.declared.links.Link.{Link}
use Rattle.ja_lint_top.specs.declared.reply.Status.{Status}
use Rattle.ja_lint_top.specs.declared.reply.Status.TheVariants.{Clean, Faulty, Unfinished}

-- ---- files that are analysed

-- what stands behind the messages
abbrev pub ending_text : Manner → List File → List Warning → List ℕ
ending_text manner files warnings =
    counted_line manner.format (length (filter (is_counted manner.rows) warnings))
    ++ last_line (map name_shown files) warnings

-- a link by the places of its files
abbrev pub link_in : List ℕ → Link → ShownLink
link_in first_lines link = record {
  from = spot_of first_lines link.from;
  to = spot_of first_lines link.to;
}

-- What is shown of messages: lines that editors read, a page with the files, or SARIF. A page has
-- links too, one for each call of a function of the files.
abbrev pub IsShown : Format → List File → Program → Table → List Message → List ℕ → List ℕ
    → Type 0
IsShown format.Text files p t messages ending out =
    out ≡ lines_about files messages ++ ending ++ codes "\n"
IsShown format.Html files p t messages ending out =
    (links : List Link) × AreLinks p t links
    × (out ≡ page_text tool_name ending (map name_of files) (map characters_of files)
    messages (map (link_in (lines_of files)) links))
IsShown format.Sarif files p t messages ending out = out ≡ sarif_about files messages true ending

-- What is written of the one program of all files, each of which is a program by itself: a message
-- for each warning that isn't only counted, once and in order, and nothing else. They are those of a
-- table that some visits build, and of which all is promised.
pub record Lints (manner : Manner) (signatures : List Signature) (files : List File) (r : Reply)
    : Type 0 where
  pub alone : AllByRecursion IsAlone files
  pub program : Program
  pub program_is : IsProgramOf (text_of files) signatures program
  pub table : Table
  pub visits : List Item
  pub warnings : List Warning
  pub messages : List Message
  pub told : AreTold files program table
      (filter (λ (w : Warning). not (is_counted manner.rows w)) warnings) messages
  pub shown : IsShown manner.format files program table messages
      (ending_text manner files warnings) r.out
  pub status : r.status ≡ (if has_fault warnings then Faulty else Clean)
  pub line : r.line ≡ []
  pub built : IsBuilt program visits table
  pub few : length visits ≤ default_budget
  pub sound : IsSound program table warnings

-- the answer to files that are texts: they are too long, or no program, one of them or all, or they
-- are analysed
abbrev pub Answers : Manner → List Signature → List File → Reply → Type 0
Answers manner signatures files r =
    ((max_bytes < length (text_of files)) × Fails length_words r)
    ⊎ (RefusesOne manner.format files r
    ⊎ (RefusesAll manner.format signatures files r ⊎ Lints manner signatures files r))

-- ---- files by their names

-- some file can't be read, has too many bytes, or bytes that are no text
abbrev pub IsUnreadable : Held → List Word → Reply → Type 0
IsUnreadable held names r =
    (name : Word) × Contains names name
    × ((HoldsNone held name × ((reason : List ℕ) × Fails (about name reason) r))
    ⊎ ((HoldsMore held name × Fails (about name length_words) r)
    ⊎ ((bytes : List ℕ) × Holds held name bytes × (IsUtf8 bytes → ⊥)
    × Fails (about name (no_text_words (utf8_valid_len bytes))) r)))

abbrev pub Reads : Manner → List Signature → Held → List Word → Reply → Type 0
Reads manner signatures held names r =
    IsUnreadable held names r
    ⊎ ((contents : List (List ℕ)) × (files : List File) × AreHeld held names contents
    × AllByRecursion IsUtf8 contents × AreFiles names contents files
    × Answers manner signatures files r)

-- ---- words

abbrev pub usage_words : List ℕ
usage_words = codes "these words are none that it takes; --help tells which are"

abbrev pub format_of : Option Word → Option Format
format_of None = Some format.Text
format_of (Some name) =
    if bytes_eq name (codes "text") then Some format.Text
    else if bytes_eq name (codes "html") then Some format.Html
    else if bytes_eq name (codes "sarif") then Some format.Sarif else None

-- the values that declare devices, the usual ones where none is given
abbrev pub values_of : List Word → List Word
values_of [] = usual_values
values_of values = values

-- the answer to words that ask for an analysis
abbrev pub Analyses : Asked → Held → Reply → Type 0
Analyses asked held r =
    ((format_of asked.format ≡ None) × Fails format_words r)
    ⊎ (((why : Refused) × IsRefused (values_of asked.devices) why
    × Fails (refused_text why) r)
    ⊎ ((form : Format) × (devices : AllSeen) × (format_of asked.format ≡ Some form)
    × AreDeclared (values_of asked.devices) devices
    × Reads (record { format = form; rows = asked.rows }) (signatures_of devices) held
    (names_of asked.files) r))

abbrev pub version_text : List ℕ
version_text = tool_name ++ codes " " ++ VERSION.now ++ codes "\n"

-- the answer to what is asked for: help, the version, or an analysis
abbrev pub RepliesBy : Bool → Bool → Asked → Held → Reply → Type 0
RepliesBy true version asked held r = Says HELP.now r
RepliesBy false true asked held r = Says version_text r
RepliesBy false false asked held r = Analyses asked held r

abbrev pub Replies : Asked → Held → Reply → Type 0
Replies asked held r = RepliesBy asked.help asked.version asked held r

-- the words are no command line, or what they ask for is answered
abbrev pub HasCause : List Word → Held → Reply → Type 0
HasCause words held r =
    (((asked : Asked) → IsCommandLine words asked → ⊥) × Fails usage_words r)
    ⊎ ((asked : Asked) × IsCommandLine words asked × Replies asked held r)

-- ---- what is written

abbrev pub output_words : List ℕ
output_words = codes "the output failed"

-- A reply with its cause is written, its line to standard error; or the output failed, with a front
-- of it; or memory was refused, and nothing is written.
abbrev pub IsAnswered : List Word → Held → Written → Written → Status → Type 0
IsAnswered words held output errors status =
    ((r : Reply) × HasCause words held r
    × ((IsWhole output r.out × IsLineTold errors r.line × (status ≡ r.status))
    ⊎ (Rose output.faults output.faults_after
    × AppendsFront output.written output.written_after r.out
    × IsLineTold errors (told_line output_words) × (status ≡ Unfinished))))
    ⊎ (Keeps output.written output.written_after × Keeps output.finished output.finished_after
    × IsLineTold errors (told_line memory_words) × (status ≡ Unfinished))
