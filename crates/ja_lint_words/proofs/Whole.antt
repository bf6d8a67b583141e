-- Words that are a command line, by what clap makes of them.
use Rattle.std.proofs.Common.{◌≡◌, ◌∙◌, ◌++◌, Bool, true, false, List, [], ◌∷◌, Option, Some, None}
use Rattle.std.proofs.Common.{is_some, refl, sym, ap₂, subst, map, inr, codes}
use Rattle.std.proofs.Common.{append-nil, append_assoc}
use Rattle.std.specs.Prelude.{IsUtf8, String}
use Rattle.std.specs.List.{AllByRecursion}
use Rattle.std.specs.String.{string_bytes}
use Rattle.std.proofs.lemmas.Str.{IsUtf8-string_bytes}
use Rattle.clap.specs.Walk.{Row, Text, Walk, finished, nothing_held}
use Rattle.clap.specs.Walk as walk
use Rattle.clap.specs.Words.{fault_of, found_of, rows_of}
use Rattle.clap.specs.Simple.{built, entered}
use Rattle.clap.specs.Kinds.{Kinds}
use Rattle.clap.specs.Faults.{check_fault, defaults_fault, entered_fault, settle_fault, walk_fault}
use Rattle.clap.specs.declared.parser.matches.ArgMatches.{ArgMatches}
use Rattle.ja_lint_words.specs.Words.{Asked, AsksFor, IsCommandLine, Word, nothing}
use Rattle.ja_lint_words.specs.code.Answers.{IsClapAnswer, Says}
use Rattle.ja_lint_words.specs.code.App.{lint_app}
use Rattle.ja_lint_words.proofs.Asking.{added_by, asked_by}
use Rattle.ja_lint_words.proofs.Holding.{lint_rules, lint_shape}
use Rattle.ja_lint_words.proofs.Holding.{nothing_held_holds}
use Rattle.ja_lint_words.specs.Words.Part.{Device, Format, Help, Rows, Version}
use Rattle.ja_lint_words.proofs.Lines.{Ends, Line, Taken, one_more, sound, taken}
use Rattle.ja_lint_words.proofs.Said.{holds_once, said}
use Rattle.ja_lint_words.proofs.Steps.{IsClean, end_rows, left_fault, standing}

abbrev pub start : Walk
start = standing false [] None

-- ---- no subcommand is entered

nothing_entered : (stop : Option (Text × List Text)) → entered (built lint_app) stop ≡ None
nothing_entered None = refl
nothing_entered (Some p) = refl

nothing_below : (stop : Option (Text × List Text)) → entered_fault (built lint_app) stop ≡ []
nothing_below None = refl
nothing_below (Some p) = refl

abbrev stop_at : List Text → Option (Text × List Text)
stop_at words = (walk.walk lint_rules [] nothing_held words).stopped

pub fault_is : (words : List Text) → fault_of lint_app words ≡ left_fault start words
fault_is words =
    ap₂ (λ (o : Option (Text × List Row)) (below : Kinds).
    Rattle.clap.specs.Faults.level_fault lint_shape [] nothing_held words (is_some o) below)
    (nothing_entered (stop_at words)) (nothing_below (stop_at words))

-- ---- a command line is taken

pub line_taken : (words : List Text) (a : Asked) → IsCommandLine words a
    → Taken false [] None words a
line_taken words a line =
    subst (λ (ws : List Text). Taken false [] None ws a) (sym line.4)
    (taken line.0 line.2 line.3 line.1 nothing a false [] None line.5 line.6
    (added_by line.0 line.1 a line.7) refl nothing_held_holds)

-- the words ask for one thing at most
pub one_thing : (words : List Text) (a b : Asked) → IsCommandLine words a → IsCommandLine words b
    → a ≡ b
one_thing words a b p q =
    holds_once (end_rows start words) a b (line_taken words a p).1 (line_taken words b q).1

-- ---- what is taken is a command line

pub taken_line : (words : List Text) → AllByRecursion IsUtf8 words → IsClean start words
    → (a : Asked) × IsCommandLine words a × Ends start words a
taken_line words utf8 e =
    let reads = (sound words utf8 false [] None e).1 nothing nothing_held_holds in
    let line = reads.1 in (
      reads.0,
      (
        line.0,
        line.1,
        line.2,
        line.3,
        line.4,
        line.5,
        line.6,
        asked_by line.0 line.1 reads.0 line.7,
      ),
      reads.2,
    )

-- ---- the answer

texts_are_utf8 : {Z : Type 0} (words : List (String Z)) → AllByRecursion IsUtf8 (map string_bytes words)
texts_are_utf8 [] = tt
texts_are_utf8 (word ∷ words) = (IsUtf8-string_bytes word, texts_are_utf8 words)

pub answer_asks : {Z : Type 0} (words : List (String Z)) (matches : ArgMatches) (asked : Asked)
    → IsClapAnswer (map string_bytes words) (Some matches)
    → Says (rows_of (found_of matches)) asked → AsksFor (map string_bytes words) (Some asked)
answer_asks words matches asked answer says =
    let texts = map string_bytes words in
    let line = taken_line texts (texts_are_utf8 words) (sym (fault_is texts) ∙ answer.0) in
    let is = said (end_rows start texts) line.0 asked line.2
    (subst (λ (rs : List Row). Says rs asked) answer.1 says) in
    subst (IsCommandLine texts) (sym is) line.1

pub refusal_asks_nothing : (words : List Text) → IsClapAnswer words None → AsksFor words None
refusal_asks_nothing words refused a line =
    refused (fault_is words ∙ (line_taken words a line).0)

-- ---- whatever can be asked for has words

abbrev asking : List Word → Option Word → Bool → Bool → Bool → List Word → Asked
asking d f r h v fs = record {
  devices = d;
  format = f;
  rows = r;
  help = h;
  version = v;
  files = fs;
}

module _ (d : List Word) (f : Option Word) (r h v : Bool) (fs : List Word) where
  -- words that ask for the rest, where this is asked for
  abbrev From : Asked → Type 0
  From a = (words : List Word) × Line a words (asking d f r h v fs)

  files_left : From (asking d f r h v [])
  files_left = (codes "--" ∷ fs, ([], fs, [], codes "--" ∷ fs, refl, refl, inr refl, refl))

  version_left : (b : Bool) → v ≡ b → From (asking d f r h false [])
  version_left false is = subst (λ (b : Bool). From (asking d f r h b [])) is files_left
  version_left true is =
      let rest = subst (λ (b : Bool). From (asking d f r h b [])) is files_left in (
        codes "--version" ∷ rest.0,
        one_more Version (codes "--version" ∷ []) rest.0 (asking d f r h false [])
            (asking d f r h true []) (asking d f r h v fs) refl (refl, refl) rest.1,
      )

  help_left : (b : Bool) → h ≡ b → From (asking d f r false false [])
  help_left false is =
      subst (λ (b : Bool). From (asking d f r b false [])) is (version_left v refl)
  help_left true is =
      let rest = subst (λ (b : Bool). From (asking d f r b false [])) is (version_left v refl) in (
        codes "--help" ∷ rest.0,
        one_more Help (codes "--help" ∷ []) rest.0 (asking d f r false false [])
            (asking d f r true false []) (asking d f r h v fs) refl (refl, refl) rest.1,
      )

  rows_left : (b : Bool) → r ≡ b → From (asking d f false false false [])
  rows_left false is =
      subst (λ (b : Bool). From (asking d f b false false [])) is (help_left h refl)
  rows_left true is =
      let rest = subst (λ (b : Bool). From (asking d f b false false [])) is (help_left h refl) in (
        codes "--rows" ∷ rest.0,
        one_more Rows (codes "--rows" ∷ []) rest.0 (asking d f false false false [])
            (asking d f true false false []) (asking d f r h v fs) refl (refl, refl) rest.1,
      )

  format_left : (o : Option Word) → f ≡ o → From (asking d None false false false [])
  format_left None is =
      subst (λ (o : Option Word). From (asking d o false false false [])) is (rows_left r refl)
  format_left (Some word) is =
      let rest = subst (λ (o : Option Word). From (asking d o false false false [])) is
      (rows_left r refl) in (
        (codes "--format=" ++ word) ∷ rest.0,
        one_more (Format word) ((codes "--format=" ++ word) ∷ []) rest.0
            (asking d None false false false []) (asking d (Some word) false false false [])
            (asking d f r h v fs) (inr refl) (refl, refl) rest.1,
      )

  devices_left : (had more : List Word) → d ≡ had ++ more
      → From (asking had None false false false [])
  devices_left had [] is = subst (λ (ws : List Word). From (asking ws None false false false []))
      (is ∙ append-nil had) (format_left f refl)
  devices_left had (word ∷ more) is =
      let rest = devices_left (had ++ word ∷ []) more
      (is ∙ sym (append_assoc had (word ∷ []) more)) in (
        (codes "--device=" ++ word) ∷ rest.0,
        one_more (Device word) ((codes "--device=" ++ word) ∷ []) rest.0
            (asking had None false false false [])
            (asking (had ++ word ∷ []) None false false false []) (asking d f r h v fs)
            (inr refl) refl rest.1,
      )

pub has_words : (asked : Asked) → (words : List Word) × IsCommandLine words asked
has_words asked =
    let all = devices_left asked.devices asked.format asked.rows asked.help asked.version
    asked.files [] asked.devices refl in
    let line = all.1 in (
      all.0,
      (
        line.0,
        line.1,
        line.2,
        line.3,
        line.4,
        line.5,
        line.6,
        asked_by line.0 line.1 asked line.7,
      ),
    )
