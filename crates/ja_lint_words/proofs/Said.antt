-- What the matches of clap say is what its rows hold.
use Rattle.std.proofs.Common.{◌≡◌, ◌∙◌, Bool, true, false, cond, List, [], ◌∷◌, Option, Some}
use Rattle.std.proofs.Common.{None, is_some, refl, sym, ap, codes, fold, option_map}
use Rattle.std.specs.Prelude.{option_and_then, slice_get}
use Rattle.std.specs.Str.{bytes_eq}
use Rattle.clap.specs.Values.{bool_text}
use Rattle.clap.specs.Walk.{Row, Text, one_of, reading_by, row_text}
use Rattle.clap.specs.Walk.{with_default, with_values}
use Rattle.clap.specs.declared.parser.matches.ValueSource.TheVariants.{DefaultValue}
use Rattle.ja_lint_words.specs.Words.{Asked}
use Rattle.ja_lint_words.specs.code.Answers.{Says, SaysFlag}
use Rattle.ja_lint_words.proofs.Holding.{Holds, device_rule, file_rule, flag_has, flag_row}
use Rattle.ja_lint_words.proofs.Holding.{format_row, format_rule, lint_rules, set_rule}
use Rattle.ja_lint_words.proofs.Rows.{default_past, defaults_past, look, look_new}
use Rattle.ja_lint_words.proofs.Rows.{no_default, values_in}

-- ---- flags, which have a default

abbrev flag_default : Text → List Row → List Row
flag_default name rs = with_values name (reading_by (set_rule name)) DefaultValue
    (codes "false" ∷ []) rs

-- the text of a flag behind its default
flag_text : (name : Text) (rs : List Row) (b : Bool) → look name rs ≡ flag_row name b
    → option_and_then row_text (look name (with_default rs (set_rule name)))
    ≡ Some (bool_text b)
flag_text name rs true is =
    ap (λ (t : Bool). option_and_then row_text (look name (cond t rs (flag_default name rs))))
    (flag_has name rs true is) ∙ ap (option_and_then row_text) is
flag_text name rs false is =
    ap (λ (t : Bool). option_and_then row_text (look name (cond t rs (flag_default name rs))))
    (flag_has name rs false is)
    ∙ ap (option_and_then row_text) (look_new name (reading_by (set_rule name)) DefaultValue
    (codes "false" ∷ []) rs is)

flag_is : (text : Option Text) (b asked : Bool) → text ≡ Some (bool_text b) → SaysFlag text asked
    → asked ≡ b
flag_is text true asked e says = says.0 e
flag_is text false asked e says = says.1 e

-- ---- the rows at the end

abbrev all_rows : List Row → List Row
all_rows rs = fold with_default rs lint_rules

device_end : (rs : List Row) → look (codes "device") (all_rows rs) ≡ look (codes "device") rs
device_end rs =
    defaults_past (codes "device") (format_rule ∷ set_rule (codes "rows")
    ∷ set_rule (codes "help") ∷ set_rule (codes "version") ∷ file_rule ∷ [])
    (with_default rs device_rule) (refl, (refl, (refl, (refl, (refl, tt)))))
    ∙ ap (look (codes "device")) (no_default device_rule rs refl)

format_end : (rs : List Row) → look (codes "format") (all_rows rs) ≡ look (codes "format") rs
format_end rs =
    defaults_past (codes "format") (set_rule (codes "rows") ∷ set_rule (codes "help")
    ∷ set_rule (codes "version") ∷ file_rule ∷ [])
    (with_default (with_default rs device_rule) format_rule) (refl, (refl, (refl, (refl, tt))))
    ∙ ap (look (codes "format")) (no_default format_rule (with_default rs device_rule) refl)
    ∙ ap (look (codes "format")) (no_default device_rule rs refl)

abbrev first_two : List Row → List Row
first_two rs = with_default (with_default rs device_rule) format_rule

two_past : (id : Text) (rs : List Row) → bytes_eq (codes "device") id ≡ false
    → bytes_eq (codes "format") id ≡ false → look id (first_two rs) ≡ look id rs
two_past id rs d f = default_past id format_rule (with_default rs device_rule) f
    ∙ default_past id device_rule rs d

rows_end : (rs : List Row) (b : Bool) → look (codes "rows") rs ≡ flag_row (codes "rows") b
    → one_of (codes "rows") (all_rows rs) ≡ Some (bool_text b)
rows_end rs b is =
    ap (option_and_then row_text) (defaults_past (codes "rows") (set_rule (codes "help")
    ∷ set_rule (codes "version") ∷ file_rule ∷ [])
    (with_default (first_two rs) (set_rule (codes "rows"))) (refl, (refl, (refl, tt))))
    ∙ flag_text (codes "rows") (first_two rs) b (two_past (codes "rows") rs refl refl ∙ is)

abbrev first_three : List Row → List Row
first_three rs = with_default (first_two rs) (set_rule (codes "rows"))

help_end : (rs : List Row) (b : Bool) → look (codes "help") rs ≡ flag_row (codes "help") b
    → one_of (codes "help") (all_rows rs) ≡ Some (bool_text b)
help_end rs b is =
    ap (option_and_then row_text) (defaults_past (codes "help") (set_rule (codes "version")
    ∷ file_rule ∷ []) (with_default (first_three rs) (set_rule (codes "help"))) (refl, (refl, tt)))
    ∙ flag_text (codes "help") (first_three rs) b
    (default_past (codes "help") (set_rule (codes "rows")) (first_two rs) refl
    ∙ two_past (codes "help") rs refl refl ∙ is)

abbrev first_four : List Row → List Row
first_four rs = with_default (first_three rs) (set_rule (codes "help"))

version_end : (rs : List Row) (b : Bool)
    → look (codes "version") rs ≡ flag_row (codes "version") b
    → one_of (codes "version") (all_rows rs) ≡ Some (bool_text b)
version_end rs b is =
    ap (option_and_then row_text) (defaults_past (codes "version") (file_rule ∷ [])
    (with_default (first_four rs) (set_rule (codes "version"))) (refl, tt))
    ∙ flag_text (codes "version") (first_four rs) b
    (default_past (codes "version") (set_rule (codes "help")) (first_three rs) refl
    ∙ default_past (codes "version") (set_rule (codes "rows")) (first_two rs) refl
    ∙ two_past (codes "version") rs refl refl ∙ is)

abbrev first_five : List Row → List Row
first_five rs = with_default (first_four rs) (set_rule (codes "version"))

file_end : (rs : List Row) → look (codes "file") (all_rows rs) ≡ look (codes "file") rs
file_end rs =
    ap (look (codes "file")) (no_default file_rule (first_five rs) refl)
    ∙ default_past (codes "file") (set_rule (codes "version")) (first_four rs) refl
    ∙ default_past (codes "file") (set_rule (codes "help")) (first_three rs) refl
    ∙ default_past (codes "file") (set_rule (codes "rows")) (first_two rs) refl
    ∙ two_past (codes "file") rs refl refl

-- ---- what they say

format_text : (o : Option Text)
    → option_and_then (λ (r : Row). slice_get r.values 0) (option_map format_row o) ≡ o
format_text None = refl
format_text (Some v) = refl

pub said : (rs : List Row) (a asked : Asked) → Holds rs a → Says (all_rows rs) asked → asked ≡ a
said rs a asked h says =
    let devices : asked.devices ≡ a.devices = says.devices
    ∙ ap values_in (device_end rs)
    ∙ h.devices in
    let format : asked.format ≡ a.format = says.format
    ∙ ap (option_and_then (λ (r : Row). slice_get r.values 0)) (format_end rs ∙ h.format)
    ∙ format_text a.format in
    let flag_rows = flag_is (one_of (codes "rows") (all_rows rs)) a.rows asked.rows
    (rows_end rs a.rows h.rows) says.rows in
    let flag_help = flag_is (one_of (codes "help") (all_rows rs)) a.help asked.help
    (help_end rs a.help h.help) says.help in
    let flag_version = flag_is (one_of (codes "version") (all_rows rs)) a.version asked.version
    (version_end rs a.version h.version) says.version in
    let files : asked.files ≡ a.files = says.files
    ∙ ap values_in (file_end rs)
    ∙ h.files in
    λ i. record {
      devices = devices i;
      format = format i;
      rows = flag_rows i;
      help = flag_help i;
      version = flag_version i;
      files = files i;
    }

-- ---- rows hold one thing at most

format_once : (x y : Option Text) → option_map format_row x ≡ option_map format_row y → x ≡ y
format_once x y e = sym (format_text x)
    ∙ ap (option_and_then (λ (r : Row). slice_get r.values 0)) e ∙ format_text y

flag_some : (name : Text) (b : Bool) → is_some (flag_row name b) ≡ b
flag_some name false = refl
flag_some name true = refl

flag_once : (name : Text) (b c : Bool) → flag_row name b ≡ flag_row name c → b ≡ c
flag_once name b c e = sym (flag_some name b) ∙ ap is_some e ∙ flag_some name c

pub holds_once : (rs : List Row) (a b : Asked) → Holds rs a → Holds rs b → a ≡ b
holds_once rs a b h k =
    let devices : a.devices ≡ b.devices = sym h.devices ∙ k.devices in
    let format = format_once a.format b.format (sym h.format ∙ k.format) in
    let flag_rows = flag_once (codes "rows") a.rows b.rows (sym h.rows ∙ k.rows) in
    let flag_help = flag_once (codes "help") a.help b.help (sym h.help ∙ k.help) in
    let flag_version = flag_once (codes "version") a.version b.version (sym h.version ∙ k.version) in
    let files : a.files ≡ b.files = sym h.files ∙ k.files in
    λ i. record {
      devices = devices i;
      format = format i;
      rows = flag_rows i;
      help = flag_help i;
      version = flag_version i;
      files = files i;
    }
