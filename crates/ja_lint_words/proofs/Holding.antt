-- What rows of clap hold, as what is asked for; what each use of an argument adds, and where it
-- fails.
use Rattle.std.proofs.Common.{◌≡◌, ◌∙◌, ◌++◌, ◌&&◌, Bool, true, false, cond, List, [], ◌∷◌, Option}
use Rattle.std.proofs.Common.{Some, None, is_some, refl, sym, ap, codes, option_map}
use Rattle.std.specs.Str.{bytes_eq}
use Rattle.clap.specs.Walk.{Row, Rule, Text, has_row, reading_by, used}
use Rattle.clap.specs.Simple.{Shape, built, filled, with_index}
use Rattle.clap.specs.Kinds.{Kinds, or_else}
use Rattle.clap.specs.Faults.{use_fault}
use Rattle.clap.specs.declared.builder.action.ArgAction.TheVariants.{Append, Set}
use Rattle.clap.specs.declared.error.kind.ErrorKind.TheVariants as kind
use Rattle.clap.specs.declared.parser.matches.ValueSource.TheVariants.{CommandLine}
use Rattle.ja_lint_words.specs.Words.{Asked, nothing}
use Rattle.ja_lint_words.specs.code.App.{flag_rule, lint_app, list_rule, option_rule}
use Rattle.ja_lint_words.proofs.Rows.{has_look, look, look_more, look_past, look_past_set, look_set}
use Rattle.ja_lint_words.proofs.Rows.{new_row, values_in}

-- ---- the command as it is built

abbrev pub lint_shape : Shape
lint_shape = (built lint_app).top

abbrev pub device_rule : Rule
device_rule = with_index 1 (filled (option_rule (codes "device") Append))

abbrev pub format_rule : Rule
format_rule = with_index 1 (filled (option_rule (codes "format") Set))

abbrev pub set_rule : Text → Rule
set_rule name = with_index 1 (filled (flag_rule name))

abbrev pub file_rule : Rule
file_rule = with_index 1 (filled (list_rule (codes "file")))

abbrev pub lint_rules : List Rule
lint_rules = device_rule ∷ format_rule ∷ set_rule (codes "rows") ∷ set_rule (codes "help")
    ∷ set_rule (codes "version") ∷ file_rule ∷ []

pub rules_are : lint_shape.rules ≡ lint_rules
rules_are = refl

-- ---- what rows hold

abbrev pub format_row : Text → Row
format_row v = new_row (codes "format") (reading_by format_rule) CommandLine (v ∷ [])

abbrev pub set_row : Text → Row
set_row name = new_row name (reading_by (set_rule name)) CommandLine (codes "true" ∷ [])

abbrev pub flag_row : Text → Bool → Option Row
flag_row name false = None
flag_row name true = Some (set_row name)

pub record Holds (rs : List Row) (a : Asked) : Type 0 where
  pub devices : values_in (look (codes "device") rs) ≡ a.devices
  pub format : look (codes "format") rs ≡ option_map format_row a.format
  pub rows : look (codes "rows") rs ≡ flag_row (codes "rows") a.rows
  pub help : look (codes "help") rs ≡ flag_row (codes "help") a.help
  pub version : look (codes "version") rs ≡ flag_row (codes "version") a.version
  pub files : values_in (look (codes "file") rs) ≡ a.files

pub nothing_held_holds : Holds [] nothing
nothing_held_holds =
    record { devices = refl; format = refl; rows = refl; help = refl; version = refl; files = refl }

-- ---- one use

abbrev pub use_in : Rule → List Text → List Row → Kinds
use_in = use_fault false

module _ (rs : List Row) (a : Asked) (h : Holds rs a) (v : Text) where
  pub device_clean : use_in device_rule (v ∷ []) rs ≡ []
  device_clean = refl

  pub file_clean : use_in file_rule (v ∷ []) rs ≡ []
  file_clean = refl

  pub holds_device : Holds (used device_rule (v ∷ []) rs)
      (record a { devices = a.devices ++ v ∷ [] })
  holds_device =
      let how = reading_by device_rule in
      let past = λ (id : Text) (e : bytes_eq (codes "device") id ≡ false).
      look_past id (codes "device") e how CommandLine (v ∷ []) rs in
      record {
        devices = look_more (codes "device") how CommandLine (v ∷ []) rs
            ∙ ap (λ (vs : List Text). vs ++ v ∷ []) h.devices;
        format = past (codes "format") refl ∙ h.format;
        rows = past (codes "rows") refl ∙ h.rows;
        help = past (codes "help") refl ∙ h.help;
        version = past (codes "version") refl ∙ h.version;
        files = ap values_in (past (codes "file") refl) ∙ h.files;
      }

  pub holds_file : Holds (used file_rule (v ∷ []) rs) (record a { files = a.files ++ v ∷ [] })
  holds_file =
      let how = reading_by file_rule in
      let past = λ (id : Text) (e : bytes_eq (codes "file") id ≡ false).
      look_past id (codes "file") e how CommandLine (v ∷ []) rs in
      record {
        devices = ap values_in (past (codes "device") refl) ∙ h.devices;
        format = past (codes "format") refl ∙ h.format;
        rows = past (codes "rows") refl ∙ h.rows;
        help = past (codes "help") refl ∙ h.help;
        version = past (codes "version") refl ∙ h.version;
        files = look_more (codes "file") how CommandLine (v ∷ []) rs
            ∙ ap (λ (vs : List Text). vs ++ v ∷ []) h.files;
      }

  pub holds_format : a.format ≡ None
      → Holds (used format_rule (v ∷ []) rs) (record a { format = Some v })
  holds_format none =
      let how = reading_by format_rule in
      let past = λ (id : Text) (e : bytes_eq (codes "format") id ≡ false).
      look_past_set id (codes "format") e how CommandLine (v ∷ []) rs in
      record {
        devices = ap values_in (past (codes "device") refl) ∙ h.devices;
        format = look_set (codes "format") how CommandLine (v ∷ []) rs
            (h.format ∙ ap (option_map format_row) none);
        rows = past (codes "rows") refl ∙ h.rows;
        help = past (codes "help") refl ∙ h.help;
        version = past (codes "version") refl ∙ h.version;
        files = ap values_in (past (codes "file") refl) ∙ h.files;
      }

module _ (rs : List Row) (a : Asked) (h : Holds rs a) where
  abbrev set_past : (name id : Text) → bytes_eq name id ≡ false
      → look id (used (set_rule name) [] rs) ≡ look id rs
  set_past name id e = look_past_set id name e (reading_by (set_rule name)) CommandLine
      (codes "true" ∷ []) rs

  abbrev set_here : (name : Text) (b : Bool) → look name rs ≡ flag_row name b → b ≡ false
      → look name (used (set_rule name) [] rs) ≡ flag_row name true
  set_here name b is none = look_set name (reading_by (set_rule name)) CommandLine
      (codes "true" ∷ []) rs (is ∙ ap (flag_row name) none)

  pub holds_rows : a.rows ≡ false
      → Holds (used (set_rule (codes "rows")) [] rs) (record a { rows = true })
  holds_rows none = record {
    devices = ap values_in (set_past (codes "rows") (codes "device") refl) ∙ h.devices;
    format = set_past (codes "rows") (codes "format") refl ∙ h.format;
    rows = set_here (codes "rows") a.rows h.rows none;
    help = set_past (codes "rows") (codes "help") refl ∙ h.help;
    version = set_past (codes "rows") (codes "version") refl ∙ h.version;
    files = ap values_in (set_past (codes "rows") (codes "file") refl) ∙ h.files;
  }

  pub holds_help : a.help ≡ false
      → Holds (used (set_rule (codes "help")) [] rs) (record a { help = true })
  holds_help none = record {
    devices = ap values_in (set_past (codes "help") (codes "device") refl) ∙ h.devices;
    format = set_past (codes "help") (codes "format") refl ∙ h.format;
    rows = set_past (codes "help") (codes "rows") refl ∙ h.rows;
    help = set_here (codes "help") a.help h.help none;
    version = set_past (codes "help") (codes "version") refl ∙ h.version;
    files = ap values_in (set_past (codes "help") (codes "file") refl) ∙ h.files;
  }

  pub holds_version : a.version ≡ false
      → Holds (used (set_rule (codes "version")) [] rs) (record a { version = true })
  holds_version none = record {
    devices = ap values_in (set_past (codes "version") (codes "device") refl) ∙ h.devices;
    format = set_past (codes "version") (codes "format") refl ∙ h.format;
    rows = set_past (codes "version") (codes "rows") refl ∙ h.rows;
    help = set_past (codes "version") (codes "help") refl ∙ h.help;
    version = set_here (codes "version") a.version h.version none;
    files = ap values_in (set_past (codes "version") (codes "file") refl) ∙ h.files;
  }

-- ---- an option that stands at most once

abbrev repeated : Bool → Kinds → Kinds
repeated has next = or_else (cond (has && true) (kind.ArgumentConflict ∷ []) []) next

repeats : (has : Bool) → repeated has [] ≡ [] → has ≡ false
repeats true e = absurd (cc e)
repeats false e = refl

-- it stands for the first time where its use doesn't fail, and the other way round
pub format_first : (v : Text) (rs : List Row) → use_in format_rule (v ∷ []) rs ≡ []
    → has_row (codes "format") rs ≡ false
format_first v rs e = repeats (has_row (codes "format") rs) e

pub format_clean : (v : Text) (rs : List Row) → has_row (codes "format") rs ≡ false
    → use_in format_rule (v ∷ []) rs ≡ []
format_clean v rs e = ap (λ (b : Bool). repeated b []) e

pub set_first : (name : Text) (rs : List Row) → use_in (set_rule name) [] rs ≡ []
    → has_row name rs ≡ false
set_first name rs e = repeats (has_row name rs) e

pub set_clean : (name : Text) (rs : List Row) → has_row name rs ≡ false
    → use_in (set_rule name) [] rs ≡ []
set_clean name rs e = ap (λ (b : Bool). repeated b []) e

-- whether it stood is whether it is asked for
some_mapped : (o : Option Text) → is_some (option_map format_row o) ≡ is_some o
some_mapped None = refl
some_mapped (Some v) = refl

is_none_by : (o : Option Text) → is_some o ≡ false → o ≡ None
is_none_by None e = refl
is_none_by (Some v) e = absurd (cc e)

pub format_unasked : (rs : List Row) (a : Asked) → Holds rs a
    → has_row (codes "format") rs ≡ false → a.format ≡ None
format_unasked rs a h e = is_none_by a.format (sym (some_mapped a.format)
    ∙ ap is_some (sym h.format) ∙ sym (has_look (codes "format") rs) ∙ e)

pub format_unused : (rs : List Row) (a : Asked) → Holds rs a → a.format ≡ None
    → has_row (codes "format") rs ≡ false
format_unused rs a h none = has_look (codes "format") rs
    ∙ ap is_some (h.format ∙ ap (option_map format_row) none)

flag_some : (name : Text) (b : Bool) → is_some (flag_row name b) ≡ b
flag_some name false = refl
flag_some name true = refl

pub flag_has : (name : Text) (rs : List Row) (b : Bool) → look name rs ≡ flag_row name b
    → has_row name rs ≡ b
flag_has name rs b is = has_look name rs ∙ ap is_some is ∙ flag_some name b
