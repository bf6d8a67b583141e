-- What clap's answer says.
use Rattle.std.specs.Prelude.{◌≡◌, Bool, true, false, List, [], Option, Some, None}
use Rattle.std.specs.Prelude.{unwrap_or}
use lib.Chars.{codes}
use Rattle.clap.specs.Words.{Row, Text, all_of, fault_of, first_of, found_of, matches_of, one_of}
use Rattle.clap.specs.Words.{rows_of}
use Rattle.clap.specs.declared.parser.matches.ArgMatches.{ArgMatches}
use Rattle.ja_lint_words.specs.Words.{Asked}
use Rattle.ja_lint_words.specs.code.App.{lint_app}

-- all values of an argument
abbrev pub values_of : Text → List Row → List Text
values_of id rows = unwrap_or (all_of id rows) []

-- whether a flag is set, by its text in the matches
abbrev pub SaysFlag : Option Text → Bool → Type 0
SaysFlag text is_set =
    (text ≡ Some (codes "true") → is_set ≡ true) × (text ≡ Some (codes "false") → is_set ≡ false)

-- what the matches say
pub record Says (found : List Row) (asked : Asked) : Type 0 where
  pub devices : asked.devices ≡ values_of (codes "device") found
  pub format : asked.format ≡ first_of (codes "format") found
  pub rows : SaysFlag (one_of (codes "rows") found) asked.rows
  pub help : SaysFlag (one_of (codes "help") found) asked.help
  pub version : SaysFlag (one_of (codes "version") found) asked.version
  pub files : asked.files ≡ values_of (codes "file") found

-- what clap makes of the words: it takes them, with these matches, or it doesn't
abbrev pub IsClapAnswer : List Text → Option ArgMatches → Type 0
IsClapAnswer words None = fault_of lint_app words ≡ [] → ⊥
IsClapAnswer words (Some matches) = (fault_of lint_app words ≡ [])
    × (rows_of (found_of matches) ≡ matches_of lint_app words)
