-- Command lines that are written out, and words that are none.
use Rattle.std.proofs.Common.{◌≡◌, ℕ, true, List, [], ◌∷◌, Some}
use Rattle.std.proofs.Common.{refl, inl, inr, codes}
use Rattle.clap.proofs.OnLiterals.{clap_on_literals}
use Rattle.ja_lint_words.specs.Words.{Asked, IsCommandLine, IsPlain, Word, nothing}
use Rattle.ja_lint_words.specs.Words.Part.{Device, File, Format, Rows}
use Rattle.ja_lint_words.proofs.Steps.{IsClean}
use Rattle.ja_lint_words.proofs.Whole.{line_taken, start}

-- a word that begins with another byte is no option
plain : (x : ℕ) (xs : Word) → (x ≡ 45 → ⊥) → IsPlain (x ∷ xs)
plain x xs differs rest e = absurd (differs (cc e))

plain_hyphen : IsPlain (codes "-")
plain_hyphen rest e = cc e

plain_empty : IsPlain []
plain_empty rest e = absurd (cc e)

pub mixed : IsCommandLine (codes "--device" ∷ codes "a" ∷ codes "--rows" ∷ codes "x.js"
    ∷ codes "--device=b=null|string" ∷ codes "y.js" ∷ [])
    (record nothing {
      devices = codes "a" ∷ codes "b=null|string" ∷ [];
      rows = true;
      files = codes "x.js" ∷ codes "y.js" ∷ [];
    })
mixed =
    let words = codes "--device" ∷ codes "a" ∷ codes "--rows" ∷ codes "x.js"
    ∷ codes "--device=b=null|string" ∷ codes "y.js" ∷ [] in (
      Device (codes "a") ∷ Rows ∷ File (codes "x.js") ∷ Device (codes "b=null|string")
          ∷ File (codes "y.js") ∷ [],
      [],
      words,
      [],
      refl,
      (
        codes "--device" ∷ codes "a" ∷ [],
        codes "--rows" ∷ codes "x.js"
            ∷ codes "--device=b=null|string" ∷ codes "y.js" ∷ [],
        refl,
        inl (refl, plain 97 [] (λ e. cc e)),
        (
          codes "--rows" ∷ [],
          codes "x.js" ∷ codes "--device=b=null|string" ∷ codes "y.js" ∷ [],
          refl,
          refl,
          (
            codes "x.js" ∷ [],
            codes "--device=b=null|string" ∷ codes "y.js" ∷ [],
            refl,
            (refl, plain 120 (codes ".js") (λ e. cc e)),
            (
              codes "--device=b=null|string" ∷ [],
              codes "y.js" ∷ [],
              refl,
              inr refl,
              (codes "y.js" ∷ [], [], refl, (refl, plain 121 (codes ".js") (λ e. cc e)), refl),
            ),
          ),
        ),
      ),
      inl (refl, refl),
      record {
        devices = refl;
        format = refl;
        rows = refl;
        help = refl;
        version = refl;
        files = refl;
      },
    )

pub no_words : IsCommandLine [] nothing
no_words = (
  [],
  [],
  [],
  [],
  refl,
  refl,
  inl (refl, refl),
  record {
    devices = refl;
    format = refl;
    rows = refl;
    help = refl;
    version = refl;
    files = refl;
  },
)

pub format_apart : IsCommandLine (codes "--format" ∷ codes "html" ∷ [])
    (record nothing { format = Some (codes "html") })
format_apart = (
  Format (codes "html") ∷ [],
  [],
  codes "--format" ∷ codes "html" ∷ [],
  [],
  refl,
  (codes "--format" ∷ codes "html" ∷ [], [], refl, inl (refl, plain 104 (codes "tml") (λ e. cc e)), refl),
  inl (refl, refl),
  record {
    devices = refl;
    format = refl;
    rows = refl;
    help = refl;
    version = refl;
    files = refl;
  },
)

pub format_attached : IsCommandLine (codes "--format=html" ∷ [])
    (record nothing { format = Some (codes "html") })
format_attached = (
  Format (codes "html") ∷ [],
  [],
  codes "--format=html" ∷ [],
  [],
  refl,
  (codes "--format=html" ∷ [], [], refl, inr refl, refl),
  inl (refl, refl),
  record {
    devices = refl;
    format = refl;
    rows = refl;
    help = refl;
    version = refl;
    files = refl;
  },
)

pub format_of_no_bytes : IsCommandLine (codes "--format=" ∷ [])
    (record nothing { format = Some [] })
format_of_no_bytes = (
  Format [] ∷ [],
  [],
  codes "--format=" ∷ [],
  [],
  refl,
  (codes "--format=" ∷ [], [], refl, inr refl, refl),
  inl (refl, refl),
  record {
    devices = refl;
    format = refl;
    rows = refl;
    help = refl;
    version = refl;
    files = refl;
  },
)

pub device_hyphen : IsCommandLine (codes "--device" ∷ codes "-" ∷ [])
    (record nothing { devices = codes "-" ∷ [] })
device_hyphen = (
  Device (codes "-") ∷ [],
  [],
  codes "--device" ∷ codes "-" ∷ [],
  [],
  refl,
  (codes "--device" ∷ codes "-" ∷ [], [], refl, inl (refl, plain_hyphen), refl),
  inl (refl, refl),
  record {
    devices = refl;
    format = refl;
    rows = refl;
    help = refl;
    version = refl;
    files = refl;
  },
)

pub device_attached : IsCommandLine (codes "--device=-x" ∷ [])
    (record nothing { devices = codes "-x" ∷ [] })
device_attached = (
  Device (codes "-x") ∷ [],
  [],
  codes "--device=-x" ∷ [],
  [],
  refl,
  (codes "--device=-x" ∷ [], [], refl, inr refl, refl),
  inl (refl, refl),
  record {
    devices = refl;
    format = refl;
    rows = refl;
    help = refl;
    version = refl;
    files = refl;
  },
)

pub file_hyphen : IsCommandLine (codes "-" ∷ [])
    (record nothing { files = codes "-" ∷ [] })
file_hyphen = (
  File (codes "-") ∷ [],
  [],
  codes "-" ∷ [],
  [],
  refl,
  (codes "-" ∷ [], [], refl, (refl, plain_hyphen), refl),
  inl (refl, refl),
  record {
    devices = refl;
    format = refl;
    rows = refl;
    help = refl;
    version = refl;
    files = refl;
  },
)

pub file_of_no_bytes : IsCommandLine ([] ∷ [])
    (record nothing { files = [] ∷ [] })
file_of_no_bytes = (
  File [] ∷ [],
  [],
  [] ∷ [],
  [],
  refl,
  ([] ∷ [], [], refl, (refl, plain_empty), refl),
  inl (refl, refl),
  record {
    devices = refl;
    format = refl;
    rows = refl;
    help = refl;
    version = refl;
    files = refl;
  },
)

pub dashes : IsCommandLine (codes "--" ∷ [])
    (nothing)
dashes = (
  [],
  [],
  [],
  codes "--" ∷ [],
  refl,
  refl,
  inr refl,
  record {
    devices = refl;
    format = refl;
    rows = refl;
    help = refl;
    version = refl;
    files = refl;
  },
)

pub file_behind : IsCommandLine (codes "--" ∷ codes "--rows" ∷ [])
    (record nothing { files = codes "--rows" ∷ [] })
file_behind = (
  [],
  codes "--rows" ∷ [],
  [],
  codes "--" ∷ codes "--rows" ∷ [],
  refl,
  refl,
  inr refl,
  record {
    devices = refl;
    format = refl;
    rows = refl;
    help = refl;
    version = refl;
    files = refl;
  },
)

pub dashes_twice : IsCommandLine (codes "a" ∷ codes "--" ∷ codes "--" ∷ [])
    (record nothing { files = codes "a" ∷ codes "--" ∷ [] })
dashes_twice = (
  File (codes "a") ∷ [],
  codes "--" ∷ [],
  codes "a" ∷ [],
  codes "--" ∷ codes "--" ∷ [],
  refl,
  (codes "a" ∷ [], [], refl, (refl, plain 97 [] (λ e. cc e)), refl),
  inr refl,
  record {
    devices = refl;
    format = refl;
    rows = refl;
    help = refl;
    version = refl;
    files = refl;
  },
)

-- ---- words that are no command line

refused : (words : List Word) → (IsClean start words → ⊥) → (a : Asked) → IsCommandLine words a → ⊥
refused words fails a line = fails (line_taken words a line).0

pub flag_twice : (a : Asked) → IsCommandLine (codes "--rows" ∷ codes "--rows" ∷ []) a → ⊥
unfolding clap_on_literals
flag_twice a line = refused (codes "--rows" ∷ codes "--rows" ∷ []) (λ e. cc e) a line

pub format_twice : (a : Asked) → IsCommandLine (codes "--format" ∷ codes "a" ∷ codes "--format=b" ∷ []) a → ⊥
unfolding clap_on_literals
format_twice a line = refused (codes "--format" ∷ codes "a" ∷ codes "--format=b" ∷ []) (λ e. cc e) a line

pub flag_with_value : (a : Asked) → IsCommandLine (codes "--rows=1" ∷ []) a → ⊥
unfolding clap_on_literals
flag_with_value a line = refused (codes "--rows=1" ∷ []) (λ e. cc e) a line

pub other : (a : Asked) → IsCommandLine (codes "--other" ∷ []) a → ⊥
unfolding clap_on_literals
other a line = refused (codes "--other" ∷ []) (λ e. cc e) a line

pub short : (a : Asked) → IsCommandLine (codes "-r" ∷ []) a → ⊥
unfolding clap_on_literals
short a line = refused (codes "-r" ∷ []) (λ e. cc e) a line

pub format_alone : (a : Asked) → IsCommandLine (codes "--format" ∷ []) a → ⊥
unfolding clap_on_literals
format_alone a line = refused (codes "--format" ∷ []) (λ e. cc e) a line

pub device_alone : (a : Asked) → IsCommandLine (codes "--device" ∷ []) a → ⊥
unfolding clap_on_literals
device_alone a line = refused (codes "--device" ∷ []) (λ e. cc e) a line

pub device_option : (a : Asked) → IsCommandLine (codes "--device" ∷ codes "-x" ∷ []) a → ⊥
unfolding clap_on_literals
device_option a line = refused (codes "--device" ∷ codes "-x" ∷ []) (λ e. cc e) a line

pub device_dashes : (a : Asked) → IsCommandLine (codes "--device" ∷ codes "--" ∷ []) a → ⊥
unfolding clap_on_literals
device_dashes a line = refused (codes "--device" ∷ codes "--" ∷ []) (λ e. cc e) a line

pub device_behind_dashes : (a : Asked) → IsCommandLine (codes "--device" ∷ codes "--" ∷ codes "a" ∷ []) a → ⊥
unfolding clap_on_literals
device_behind_dashes a line = refused (codes "--device" ∷ codes "--" ∷ codes "a" ∷ []) (λ e. cc e) a line
