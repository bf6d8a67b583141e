-- How messages about files are written, in the form that editors read: each on a line of its own
-- with its file and place, and below it the line of the file with a caret, as compilers do.
use Rattle.std.specs.Prelude.{ℕ, List, [], ◌∷◌, ◌++◌, drop, map, slice_get, Option, Some, None, unwrap_or}
use Rattle.std.specs.List.{flat_map}
use Rattle.std.specs.Option.{option_map_or}
use lib.Chars.{codes}
use Rattle.ja_files.specs.declared.file.Spot.{Spot}
use Rattle.ja_files.specs.Lines.{lines_of}
use Rattle.ja_texts.specs.Texts.{place_text}
use Rattle.ja_show.specs.Lines.{excerpt, shown}
use Rattle.ja_show.specs.declared.message.Level.{Level}
use Rattle.ja_show.specs.declared.message.Level.TheVariants.{Error, Certain, Possible, Note}
use Rattle.ja_show.specs.declared.message.Message.{Message}

abbrev pub level_word : Level → List ℕ
level_word Error = codes "error"
level_word Certain = codes "warning"
level_word Possible = codes "warning"
level_word Note = codes "note"

-- ---- spots

-- the characters of a name as they are shown
abbrev pub shown_name : List ℕ → List ℕ
shown_name name = flat_map shown name

-- of the names that are shown, that of the file with this number; past them there is none
abbrev pub name_at : List (List ℕ) → ℕ → List ℕ
name_at names file = unwrap_or (slice_get names file) []

-- `NAME:LINE:COLUMN`
unfoldable pub spot_text : List (List ℕ) → Spot → List ℕ
spot_text names at = name_at names at.file ++ codes ":" ++ place_text at.place

-- A message stands at its spot, or else at the first call that leads to what it is about; it tells
-- of the other calls.
abbrev pub standing : Option Spot → List Spot → Option Spot
standing (Some at) calls = Some at
standing None calls = slice_get calls 0

abbrev pub others : Option Spot → List Spot → List Spot
others (Some at) calls = calls
others None calls = drop 1 calls

-- what is about no spot comes from the tool
abbrev pub tool_name : List ℕ
tool_name = codes "tajs-lint"

abbrev pub origin : List (List ℕ) → Option Spot → List ℕ
origin names None = tool_name
origin names (Some at) = spot_text names at

-- ---- messages

-- a call, behind another one
abbrev pub next_call : List (List ℕ) → Spot → List ℕ
next_call names at = codes ", " ++ spot_text names at

unfoldable pub calls_text : List (List ℕ) → List Spot → List ℕ
calls_text names [] = []
calls_text names (at ∷ calls) =
    codes ", also called at " ++ spot_text names at ++ flat_map (next_call names) calls

-- the line of its own
unfoldable pub heading : List (List ℕ) → Message → List ℕ
heading names m =
    origin names (standing m.spot m.calls) ++ codes ": " ++ level_word m.level ++ codes ": "
    ++ m.text ++ calls_text names (others m.spot m.calls) ++ codes "\n"

-- the line of the file where a message stands, of files by their lines
abbrev pub excerpt_at : List (List (List ℕ)) → Option Spot → List ℕ
excerpt_at sources None = []
excerpt_at sources (Some at) =
    option_map_or (λ (lines : List (List ℕ)). excerpt lines at.place) (slice_get sources at.file) []

unfoldable pub message_text : List (List ℕ) → List (List (List ℕ)) → Message → List ℕ
message_text names sources m =
    heading names m ++ excerpt_at sources (standing m.spot m.calls)

-- those about files with these names and texts
unfoldable pub messages_text : List (List ℕ) → List (List ℕ) → List Message → List ℕ
messages_text names texts messages =
    flat_map (message_text (map shown_name names) (map lines_of texts)) messages
