-- The command lines of the program. A word is its bytes.
use Rattle.std.specs.Prelude.{◌≡◌, ◌⊎◌, ℕ, Bool, true, false, List, [], ◌∷◌, ◌++◌, map}
use Rattle.std.specs.Prelude.{Option, Some, None, option_map, filter, filter_map}
use Rattle.std.specs.Borrow.{Bor}
use lib.Chars.{codes}
use Rattle.ja_lint_words.specs.declared.words.Words.{Words}

abbrev pub Word : Type 0
Word = List ℕ

-- ---- the words of a command line

-- a part of it: an option with its value, a flag, or a file
pub data Part : Type 0 where
  Device : Word → Part
  Format : Word → Part
  Rows : Part
  Help : Part
  Version : Part
  File : Word → Part

-- a word that is no option: nothing follows a hyphen at its front
abbrev pub IsPlain : Word → Type 0
IsPlain word = (rest : Word) → word ≡ codes "-" ++ rest → rest ≡ []

-- the words of an option with its value, which is the next word, if that is no option, or follows
-- `=` in the same word, whatever it looks like
abbrev pub IsOption : Word → Word → List Word → Type 0
IsOption name value words = ((words ≡ name ∷ value ∷ []) × IsPlain value)
    ⊎ (words ≡ (name ++ codes "=" ++ value) ∷ [])

-- the words of a part
abbrev pub IsPart : Part → List Word → Type 0
IsPart (Device value) words = IsOption (codes "--device") value words
IsPart (Format value) words = IsOption (codes "--format") value words
IsPart Rows words = words ≡ codes "--rows" ∷ []
IsPart Help words = words ≡ codes "--help" ∷ []
IsPart Version words = words ≡ codes "--version" ∷ []
IsPart (File name) words = (words ≡ name ∷ []) × IsPlain name

-- the words are those of the parts, one part after another
abbrev pub AreParts : List Part → List Word → Type 0
AreParts [] words = words ≡ []
AreParts (part ∷ parts) words = (first : List Word) × (rest : List Word) × (words ≡ first ++ rest)
    × IsPart part first × AreParts parts rest

-- the words behind the parts: none, or `--` and files, whatever these look like
abbrev pub IsEnd : List Word → List Word → Type 0
IsEnd files words = ((files ≡ []) × (words ≡ [])) ⊎ (words ≡ codes "--" ∷ files)

-- ---- what a command line asks for

-- the values of the options, which flags are set, and the names of the files
pub record Asked : Type 0 where
  pub devices : List Word
  pub format : Option Word
  pub rows : Bool
  pub help : Bool
  pub version : Bool
  pub files : List Word

-- what no words ask for
abbrev pub nothing : Asked
nothing = record {
  devices = [];
  format = None;
  rows = false;
  help = false;
  version = false;
  files = [];
}

-- the value of a part of one kind
abbrev pub device_in : Part → Option Word
device_in (Device value) = Some value
device_in _ = None

abbrev pub format_in : Part → Option Word
format_in (Format value) = Some value
format_in _ = None

abbrev pub file_in : Part → Option Word
file_in (File name) = Some name
file_in _ = None

-- whether a part is this flag
abbrev pub is_rows : Part → Bool
is_rows Rows = true
is_rows _ = false

abbrev pub is_help : Part → Bool
is_help Help = true
is_help _ = false

abbrev pub is_version : Part → Bool
is_version Version = true
is_version _ = false

-- an option that is given stands once, with its value; one that isn't doesn't stand at all
abbrev pub given : Option Word → List Word
given None = []
given (Some value) = value ∷ []

-- the same of a flag
abbrev pub set : Part → Bool → List Part
set flag false = []
set flag true = flag ∷ []

-- what the parts ask for, with the files behind them: devices and files in their order
pub record AskFor (parts : List Part) (behind : List Word) (asked : Asked) : Type 0 where
  pub devices : filter_map device_in parts ≡ asked.devices
  pub format : filter_map format_in parts ≡ given asked.format
  pub rows : filter is_rows parts ≡ set Rows asked.rows
  pub help : filter is_help parts ≡ set Help asked.help
  pub version : filter is_version parts ≡ set Version asked.version
  pub files : filter_map file_in parts ++ behind ≡ asked.files

-- the words are a command line that asks for this
abbrev pub IsCommandLine : List Word → Asked → Type 0
IsCommandLine words asked = (parts : List Part) × (behind : List Word)
    × (front : List Word) × (end : List Word) × (words ≡ front ++ end)
    × AreParts parts front × IsEnd behind end × AskFor parts behind asked

-- what the words ask for: what their command line does, and nothing exactly where they are none
abbrev pub AsksFor : List Word → Option Asked → Type 0
AsksFor words (Some asked) = IsCommandLine words asked
AsksFor words None = (asked : Asked) → IsCommandLine words asked → ⊥

-- ---- what an answer says

-- an answer of `asked`, its texts as bytes
abbrev pub texts : List (Bor Word) → List Word
texts = map (λ text. text.now)

abbrev pub asked_of : Words → Asked
asked_of words = record {
  devices = texts words.devices.items;
  format = option_map (λ text. text.now) words.format;
  rows = words.rows;
  help = words.help;
  version = words.version;
  files = texts words.files.items;
}
