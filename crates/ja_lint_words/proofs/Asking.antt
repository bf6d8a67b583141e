-- What the parts of a command line ask for, as they are read one after another.
use Rattle.std.proofs.Common.{◌≡◌, ◌∙◌, ◌++◌, Bool, true, false, List, [], ◌∷◌, Option, Some, None}
use Rattle.std.proofs.Common.{refl, sym, ap, subst, filter, filter_map, append-nil, append_assoc}
use Rattle.ja_lint_words.specs.Words.{AskFor, Asked, Part, Word, device_in, file_in, format_in, given}
use Rattle.ja_lint_words.specs.Words.{is_help, is_rows, is_version, nothing, set}
use Rattle.ja_lint_words.specs.Words.Part.{Device, File, Format, Help, Rows, Version}

-- what one more part asks for
abbrev pub Adds : Asked → Part → Asked → Type 0
Adds a (Device v) b = b ≡ record a { devices = a.devices ++ v ∷ [] }
Adds a (Format v) b = (a.format ≡ None) × (b ≡ record a { format = Some v })
Adds a Rows b = (a.rows ≡ false) × (b ≡ record a { rows = true })
Adds a Help b = (a.help ≡ false) × (b ≡ record a { help = true })
Adds a Version b = (a.version ≡ false) × (b ≡ record a { version = true })
Adds a (File v) b = b ≡ record a { files = a.files ++ v ∷ [] }

abbrev pub behind_asked : Asked → List Word → Asked
behind_asked a files = record a { files = a.files ++ files }

-- what more parts ask for, and files behind them
abbrev pub AddAll : Asked → List Part → List Word → Asked → Type 0
AddAll a [] behind b = b ≡ behind_asked a behind
AddAll a (part ∷ parts) behind b =
    (next : Asked) × Adds a part next × AddAll next parts behind b

-- the same by the kinds of parts
pub record Grows (a : Asked) (parts : List Part) (behind : List Word) (b : Asked) : Type 0 where
  pub devices : a.devices ++ filter_map device_in parts ≡ b.devices
  pub format : given a.format ++ filter_map format_in parts ≡ given b.format
  pub rows : set Rows a.rows ++ filter is_rows parts ≡ set Rows b.rows
  pub help : set Help a.help ++ filter is_help parts ≡ set Help b.help
  pub version : set Version a.version ++ filter is_version parts ≡ set Version b.version
  pub files : a.files ++ (filter_map file_in parts ++ behind) ≡ b.files

-- ---- read one after another, they ask for what they do by kinds

grows_nothing : (a : Asked) (behind : List Word) (b : Asked) → b ≡ behind_asked a behind
    → Grows a [] behind b
grows_nothing a behind b e = subst (λ (x : Asked). Grows a [] behind x) (sym e) (record {
  devices = append-nil a.devices;
  format = append-nil (given a.format);
  rows = append-nil (set Rows a.rows);
  help = append-nil (set Help a.help);
  version = append-nil (set Version a.version);
  files = refl;
})

-- a list that begins with what was there
module _ {X : Type 0} (xs : List X) (x : X) (ys zs : List X) where
  pub longer : (xs ++ x ∷ []) ++ ys ≡ zs → xs ++ x ∷ ys ≡ zs
  longer e = sym (append_assoc xs (x ∷ []) ys) ∙ e

  pub shorter : xs ++ x ∷ ys ≡ zs → (xs ++ x ∷ []) ++ ys ≡ zs
  shorter e = append_assoc xs (x ∷ []) ys ∙ e

-- a text or a part, where none was before
no_value : (o : Option Word) (v : Word) (ys zs : List Word) → o ≡ None → v ∷ ys ≡ zs
    → given o ++ v ∷ ys ≡ zs
no_value o v ys zs none e = ap (λ (x : Option Word). given x ++ v ∷ ys) none ∙ e

not_set : (flag : Part) (b : Bool) (ys zs : List Part) → b ≡ false → flag ∷ ys ≡ zs
    → set flag b ++ flag ∷ ys ≡ zs
not_set flag b ys zs none e = ap (λ (x : Bool). set flag x ++ flag ∷ ys) none ∙ e

pub grows : (parts : List Part) (behind : List Word) (a b : Asked) → AddAll a parts behind b
    → Grows a parts behind b
grows [] behind a b e = grows_nothing a behind b e
grows (Device v ∷ parts) behind a b add =
    let g = subst (λ (x : Asked). Grows x parts behind b) add.1 (grows parts behind add.0 b add.2) in
    record {
      devices = longer a.devices v (filter_map device_in parts) b.devices g.devices;
      format = g.format;
      rows = g.rows;
      help = g.help;
      version = g.version;
      files = g.files;
    }
grows (Format v ∷ parts) behind a b add =
    let g = subst (λ (x : Asked). Grows x parts behind b) add.1.1
    (grows parts behind add.0 b add.2) in
    record {
      devices = g.devices;
      format = no_value a.format v (filter_map format_in parts) (given b.format) add.1.0 g.format;
      rows = g.rows;
      help = g.help;
      version = g.version;
      files = g.files;
    }
grows (Rows ∷ parts) behind a b add =
    let g = subst (λ (x : Asked). Grows x parts behind b) add.1.1
    (grows parts behind add.0 b add.2) in
    record {
      devices = g.devices;
      format = g.format;
      rows = not_set Rows a.rows (filter is_rows parts) (set Rows b.rows) add.1.0 g.rows;
      help = g.help;
      version = g.version;
      files = g.files;
    }
grows (Help ∷ parts) behind a b add =
    let g = subst (λ (x : Asked). Grows x parts behind b) add.1.1
    (grows parts behind add.0 b add.2) in
    record {
      devices = g.devices;
      format = g.format;
      rows = g.rows;
      help = not_set Help a.help (filter is_help parts) (set Help b.help) add.1.0 g.help;
      version = g.version;
      files = g.files;
    }
grows (Version ∷ parts) behind a b add =
    let g = subst (λ (x : Asked). Grows x parts behind b) add.1.1
    (grows parts behind add.0 b add.2) in
    record {
      devices = g.devices;
      format = g.format;
      rows = g.rows;
      help = g.help;
      version = not_set Version a.version (filter is_version parts) (set Version b.version)
          add.1.0 g.version;
      files = g.files;
    }
grows (File v ∷ parts) behind a b add =
    let g = subst (λ (x : Asked). Grows x parts behind b) add.1 (grows parts behind add.0 b add.2) in
    record {
      devices = g.devices;
      format = g.format;
      rows = g.rows;
      help = g.help;
      version = g.version;
      files = longer a.files v (filter_map file_in parts ++ behind) b.files g.files;
    }

pub asked_by : (parts : List Part) (behind : List Word) (b : Asked)
    → AddAll nothing parts behind b → AskFor parts behind b
asked_by parts behind b add =
    let g = grows parts behind nothing b add in
    record {
      devices = g.devices;
      format = g.format;
      rows = g.rows;
      help = g.help;
      version = g.version;
      files = g.files;
    }

-- ---- and the other way round

-- at most one value, and none before a first
given_none : (o : Option Word) (v : Word) (ys : List Word) (p : Option Word)
    → given o ++ v ∷ ys ≡ given p → (o ≡ None) × (v ∷ ys ≡ given p)
given_none None v ys p e = (refl, e)
given_none (Some x) v ys None e = absurd (cc e)
given_none (Some x) v [] (Some y) e = absurd (cc e)
given_none (Some x) v (z ∷ zs) (Some y) e = absurd (cc e)

set_false : (flag : Part) (b : Bool) (ys : List Part) (c : Bool)
    → set flag b ++ flag ∷ ys ≡ set flag c → (b ≡ false) × (flag ∷ ys ≡ set flag c)
set_false flag false ys c e = (refl, e)
set_false flag true ys false e = absurd (cc e)
set_false flag true ys true e = absurd (cc e)

-- one option or flag, by its list
given_same : (o p : Option Word) → given o ≡ given p → p ≡ o
given_same None None e = refl
given_same None (Some y) e = absurd (cc e)
given_same (Some x) None e = absurd (cc e)
given_same (Some x) (Some y) e = cc (sym e)

set_same : (flag : Part) (b c : Bool) → set flag b ≡ set flag c → c ≡ b
set_same flag false false e = refl
set_same flag false true e = absurd (cc e)
set_same flag true false e = absurd (cc e)
set_same flag true true e = refl

nothing_more : (behind : List Word) (a b : Asked) → Grows a [] behind b
    → b ≡ behind_asked a behind
nothing_more behind a b g =
    let devices : b.devices ≡ a.devices = sym g.devices ∙ append-nil a.devices in
    let format = given_same a.format b.format (sym (append-nil (given a.format)) ∙ g.format) in
    let flag_rows = set_same Rows a.rows b.rows (sym (append-nil (set Rows a.rows)) ∙ g.rows) in
    let flag_help = set_same Help a.help b.help (sym (append-nil (set Help a.help)) ∙ g.help) in
    let flag_version = set_same Version a.version b.version
    (sym (append-nil (set Version a.version)) ∙ g.version) in
    let files = g.files in
    λ i. record {
      devices = devices i;
      format = format i;
      rows = flag_rows i;
      help = flag_help i;
      version = flag_version i;
      files = sym files i;
    }

pub adds_all : (parts : List Part) (behind : List Word) (a b : Asked) → Grows a parts behind b
    → AddAll a parts behind b
adds_all [] behind a b g = nothing_more behind a b g
adds_all (Device v ∷ parts) behind a b g =
    let next : Asked = record a { devices = a.devices ++ v ∷ [] } in (
      next,
      refl,
      adds_all parts behind next b (record {
        devices = shorter a.devices v (filter_map device_in parts) b.devices g.devices;
        format = g.format;
        rows = g.rows;
        help = g.help;
        version = g.version;
        files = g.files;
      }),
    )
adds_all (Format v ∷ parts) behind a b g =
    let next : Asked = record a { format = Some v } in
    let first = given_none a.format v (filter_map format_in parts) b.format g.format in (
      next,
      (first.0, refl),
      adds_all parts behind next b (record {
        devices = g.devices;
        format = first.1;
        rows = g.rows;
        help = g.help;
        version = g.version;
        files = g.files;
      }),
    )
adds_all (Rows ∷ parts) behind a b g =
    let next : Asked = record a { rows = true } in
    let first = set_false Rows a.rows (filter is_rows parts) b.rows g.rows in (
      next,
      (first.0, refl),
      adds_all parts behind next b (record {
        devices = g.devices;
        format = g.format;
        rows = first.1;
        help = g.help;
        version = g.version;
        files = g.files;
      }),
    )
adds_all (Help ∷ parts) behind a b g =
    let next : Asked = record a { help = true } in
    let first = set_false Help a.help (filter is_help parts) b.help g.help in (
      next,
      (first.0, refl),
      adds_all parts behind next b (record {
        devices = g.devices;
        format = g.format;
        rows = g.rows;
        help = first.1;
        version = g.version;
        files = g.files;
      }),
    )
adds_all (Version ∷ parts) behind a b g =
    let next : Asked = record a { version = true } in
    let first = set_false Version a.version (filter is_version parts) b.version g.version in (
      next,
      (first.0, refl),
      adds_all parts behind next b (record {
        devices = g.devices;
        format = g.format;
        rows = g.rows;
        help = g.help;
        version = first.1;
        files = g.files;
      }),
    )
adds_all (File v ∷ parts) behind a b g =
    let next : Asked = record a { files = a.files ++ v ∷ [] } in (
      next,
      refl,
      adds_all parts behind next b (record {
        devices = g.devices;
        format = g.format;
        rows = g.rows;
        help = g.help;
        version = g.version;
        files = shorter a.files v (filter_map file_in parts ++ behind) b.files g.files;
      }),
    )

pub added_by : (parts : List Part) (behind : List Word) (b : Asked) → AskFor parts behind b
    → AddAll nothing parts behind b
added_by parts behind b ask = adds_all parts behind nothing b (record {
  devices = ask.devices;
  format = ask.format;
  rows = ask.rows;
  help = ask.help;
  version = ask.version;
  files = ask.files;
})
