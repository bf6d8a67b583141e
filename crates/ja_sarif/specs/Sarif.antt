-- SARIF 2.1.0 (OASIS), the form in which build servers take what a static analysis tells: a JSON
-- object with one run of the tool, its rules, and a result for each message, in their order.
use Rattle.std.specs.Prelude.{ℕ, ◌-◌, ◌+◌, nat_eq, nat_lt, Bool, if◌then◌else◌, List, [], ◌∷◌, ◌++◌, filter, length, map, slice_get, take, Option, unwrap_or}
use Rattle.std.specs.List.{starts_with}
use Rattle.std.specs.Option.{option_map_or}
use Rattle.std.specs.Str.Lossy.{utf8_lossy}
use lib.Chars.{codes}
use Rattle.percent_encoding.specs.Percent.{percent_encode}
use Rattle.serde_json.specs.Data.{Data, boolean, number, unsigned, string, array, object, member, no_members}
use Rattle.serde_json.specs.View.{items_of}
use Rattle.serde_json.specs.Written.{compact_text}
use Rattle.ja_files.specs.declared.file.Spot.{Spot}
use Rattle.ja_files.specs.Lines.{line_at, lines_of}
use Rattle.ja_show.specs.declared.message.Level.{Level}
use Rattle.ja_show.specs.declared.message.Level.TheVariants.{Error, Certain, Possible, Note}
use Rattle.ja_show.specs.declared.message.Message.{Message}
use Rattle.ja_show.specs.declared.message.Rule.{Rule}
use Rattle.ja_show.specs.declared.message.Rule.TheVariants.{NotAFunction, NoObject, UnboundName, Unknown, Refused}
use Rattle.ja_show.specs.Messages.{name_at, others, standing}
use Rattle.ja_sarif.specs.declared.uris.TheConstants.{ESCAPED}

abbrev pub listed : List Data → Data
listed ds = array (items_of ds)

abbrev pub whole : ℕ → Data
whole n = number (unsigned n)

-- words for people
unfoldable pub text_data : List ℕ → Data
text_data words = object (member (codes "text") (string words) no_members)

-- ---- levels and rules

abbrev pub level_name : Level → List ℕ
level_name Error = codes "error"
level_name Certain = codes "error"
level_name Possible = codes "warning"
level_name Note = codes "note"

abbrev pub rules : List Rule
rules = NotAFunction ∷ NoObject ∷ UnboundName ∷ Unknown ∷ Refused ∷ []

-- the position of a rule among all
abbrev pub index_of : Rule → ℕ
index_of NotAFunction = 0
index_of NoObject = 1
index_of UnboundName = 2
index_of Unknown = 3
index_of Refused = 4

abbrev pub id_of : Rule → List ℕ
id_of NotAFunction = codes "not-a-function"
id_of NoObject = codes "no-object"
id_of UnboundName = codes "unbound-name"
id_of Unknown = codes "unknown"
id_of Refused = codes "refused"

abbrev pub title_of : Rule → List ℕ
title_of NotAFunction = codes "Call of what is no function"
title_of NoObject = codes "Property of undefined or null"
title_of UnboundName = codes "Name that is bound nowhere"
title_of Unknown = codes "Read of what isn't known to this tool"
title_of Refused = codes "Text that isn't analysed"

abbrev pub help_of : Rule → List ℕ
help_of NotAFunction = codes "To call or construct what is no function throws a TypeError."
help_of NoObject = codes "To read or set a property of undefined or null throws a TypeError."
help_of UnboundName = codes "To read a name that nothing binds throws a ReferenceError."
help_of Unknown = codes "No fault; but what a run does behind this read isn't checked."
help_of Refused = codes "The text is no program of the language, or is past a limit of this tool."

-- the level of a rule's results that have none of their own
abbrev pub usual_level : Rule → Level
usual_level Unknown = Note
usual_level Refused = Error
usual_level rule = Possible

unfoldable pub usual_data : Rule → Data
usual_data rule = object (member (codes "level") (string (level_name (usual_level rule))) no_members)

unfoldable pub rule_data : Rule → Data
rule_data rule =
    object (member (codes "defaultConfiguration") (usual_data rule)
    (member (codes "help") (text_data (help_of rule))
    (member (codes "id") (string (id_of rule))
    (member (codes "shortDescription") (text_data (title_of rule)) no_members))))

-- ---- places

-- A name as a relative URI reference (RFC 3986). Two slashes in front would name a host.
unfoldable pub uri_of : List ℕ → List ℕ
uri_of name =
    (if starts_with nat_eq name (codes "//") then codes "/." else [])
    ++ percent_encode ESCAPED name

-- a character takes two units of UTF-16
abbrev pub is_astral : ℕ → Bool
is_astral c = nat_lt 0xFFFF c

-- the column of a line in units of UTF-16, from 1, by that in characters
unfoldable pub unit_column : List ℕ → ℕ → ℕ
unit_column line column = column + length (filter is_astral (take (column - 1) line))

-- of the lines of all files, those of the file with this number
abbrev pub lines_at : List (List (List ℕ)) → ℕ → List (List ℕ)
lines_at sources file = unwrap_or (slice_get sources file) []

unfoldable pub region_data : List (List (List ℕ)) → Spot → Data
region_data sources at =
    let line = line_at (lines_at sources at.file) at.place.line in
    object (member (codes "startColumn") (whole (unit_column line at.place.column))
    (member (codes "startLine") (whole at.place.line) no_members))

-- by the URIs and the lines of all files
unfoldable pub physical_data : List (List ℕ) → List (List (List ℕ)) → Spot → Data
physical_data uris sources at =
    object (member (codes "artifactLocation")
    (object (member (codes "uri") (string (name_at uris at.file)) no_members))
    (member (codes "region") (region_data sources at) no_members))

-- where a message stands, and another call that leads to what it is about
unfoldable pub place_data : List (List ℕ) → List (List (List ℕ)) → Spot → Data
place_data uris sources at =
    object (member (codes "physicalLocation") (physical_data uris sources at) no_members)

unfoldable pub call_data : List (List ℕ) → List (List (List ℕ)) → Spot → Data
call_data uris sources at =
    object (member (codes "message") (text_data (codes "also called here"))
    (member (codes "physicalLocation") (physical_data uris sources at) no_members))

-- ---- results

abbrev pub places_of : Option Spot → List Spot
places_of at = option_map_or (λ (spot : Spot). spot ∷ []) at []

unfoldable pub result_data : List (List ℕ) → List (List (List ℕ)) → Message → Data
result_data uris sources m =
    object (member (codes "level") (string (level_name m.level))
    (member (codes "locations")
    (listed (map (place_data uris sources) (places_of (standing m.spot m.calls))))
    (member (codes "message") (text_data (utf8_lossy m.text))
    (member (codes "relatedLocations")
    (listed (map (call_data uris sources) (others m.spot m.calls)))
    (member (codes "ruleId") (string (id_of m.rule))
    (member (codes "ruleIndex") (whole (index_of m.rule)) no_members))))))

-- ---- the whole

-- what is said at the end: the counts or the promise, or why there is no answer
abbrev pub ending_level : Bool → Level
ending_level answered = if answered then Note else Error

unfoldable pub notification_data : Bool → List ℕ → Data
notification_data answered ending =
    object (member (codes "level") (string (level_name (ending_level answered)))
    (member (codes "message") (text_data (utf8_lossy ending)) no_members))

unfoldable pub invocation_data : Bool → List ℕ → Data
invocation_data answered ending =
    object (member (codes "executionSuccessful") (boolean answered)
    (member (codes "toolExecutionNotifications")
    (listed (notification_data answered ending ∷ [])) no_members))

unfoldable pub tool_data : List ℕ → Data
tool_data version =
    object (member (codes "driver")
    (object (member (codes "name") (string (codes "tajs-lint"))
    (member (codes "rules") (listed (map rule_data rules))
    (member (codes "version") (string version) no_members)))) no_members)

-- of files with these names and characters
unfoldable pub run_data : List ℕ → List (List ℕ) → List (List ℕ) → List Message → Bool → List ℕ
    → Data
run_data version names texts messages answered ending =
    object (member (codes "columnKind") (string (codes "utf16CodeUnits"))
    (member (codes "invocations") (listed (invocation_data answered ending ∷ []))
    (member (codes "results")
    (listed (map (result_data (map uri_of names) (map lines_of texts)) messages))
    (member (codes "tool") (tool_data version) no_members))))

abbrev pub schema : List ℕ
schema = codes "https://docs.oasis-open.org/sarif/sarif/v2.1.0/errata01/os/schemas/"
    ++ codes "sarif-schema-2.1.0.json"

unfoldable pub log_data : Data → Data
log_data run =
    object (member (codes "$schema") (string schema)
    (member (codes "runs") (listed (run ∷ []))
    (member (codes "version") (string (codes "2.1.0")) no_members)))

-- as it is written: without a space, on one line
abbrev pub sarif_text : List ℕ → List (List ℕ) → List (List ℕ) → List Message → Bool → List ℕ
    → List ℕ
sarif_text version names texts messages answered ending =
    compact_text (log_data (run_data version names texts messages answered ending)) ++ codes "\n"
