-- What a word is that clap reads without a fault.
use Rattle.std.proofs.Common.{◌≡◌, ◌⊎◌, ◌∙◌, ◌++◌, ◌&&◌, ◌||◌, ℕ, Bool, true, false, cond, List, []}
use Rattle.std.proofs.Common.{◌∷◌, Option, Some, None, is_some, not, refl, sym, ap, subst, inl, inr}
use Rattle.std.proofs.Common.{codes, length}
use Rattle.std.specs.Prelude.{IsUtf8, slice_get}
use Rattle.std.specs.Option.{option_map_or}
use Rattle.std.specs.Str.{bytes_eq, chars}
use Rattle.std.proofs.lemmas.Option.{same_Some}
use Rattle.std.proofs.lemmas.Slice.Eq.{bytes_eq-Decides}
use Rattle.clap.specs.Lexer.{long_of, short_of}
use Rattle.clap.specs.Walk.{Held, Row, Rule, Text, arg_by_long, has_long, takes_values}
use Rattle.clap.specs.Kinds.{Kinds}
use Rattle.clap.specs.Faults.{bundle_fault, bundle_step_fault, flag_word_fault, flags_fault}
use Rattle.clap.specs.Faults.{long_fault, option_fault, react_fault}
use Rattle.clap.specs.declared.error.kind.ErrorKind.TheVariants as kind
use Rattle.ja_lint_words.specs.Words.{IsPlain}
use Rattle.ja_lint_words.proofs.NoFaults.{or_else_split}
use Rattle.ja_lint_words.proofs.Lexed.{has_first, long_is, long_word, no_option_is_plain, short_is}
use Rattle.ja_lint_words.proofs.Holding.{device_rule, file_rule, format_rule, lint_rules, set_rule}
use Rattle.ja_lint_words.proofs.Steps.{held, own_fault, settle_in, Pending}

-- ---- no word of short options is read

abbrev bundle_in : Text → Held → Kinds
bundle_in = bundle_fault lint_rules false

module _ (rs : List Row) (p : Pending) where
  no_flag : (x : ℕ) (xs : Text) (o : Option ℕ) → (o ≡ None → ⊥)
      → bundle_step_fault lint_rules false o (x ∷ xs) 0 (held rs p)
      (flags_fault lint_rules false (length xs)) ≡ [] → ⊥
  no_flag x xs None some e = some refl
  no_flag x xs (Some y) some e = cc e

  no_bundle : (x : ℕ) (xs : Text) → (slice_get (chars (x ∷ xs)) 0 ≡ None → ⊥)
      → bundle_in (x ∷ xs) (held rs p) ≡ [] → ⊥
  unfolding flags_fault
  no_bundle x xs some e = no_flag x xs (slice_get (chars (x ∷ xs)) 0) some e

  -- ---- a word is `--`, it is no option, or it is a long one that is read

  pub data Sorted (word : Text) : Type 0 where
    dashes : word ≡ codes "--" → Sorted word
    plain : IsPlain word → Sorted word
    long : (name : Text) (v : Option Text) → word ≡ long_word name v
        → long_fault lint_rules false (arg_by_long lint_rules name) v (held rs p) ≡ [] → Sorted word

  pub sorted : (word : Text) → IsUtf8 word → own_fault word (held rs p) ≡ [] → Sorted word
  sorted word utf8 e = by_dashes (bytes_eq word (45 ∷ 45 ∷ [])) refl e
    where
      by_short : (o : Option Text) → bytes_eq word (45 ∷ 45 ∷ []) ≡ false → long_of word ≡ None
          → short_of word ≡ o → option_map_or (λ t. bundle_in t (held rs p)) o [] ≡ []
          → Sorted word
      by_short None other none is e =
          plain (no_option_is_plain word (record { long = none; short = is; dashes = other }))
      by_short (Some text) other none is e =
          let text_is = short_is word text is in
          let x = text_is.1.0 in
          let xs = text_is.1.1 in
          let first = has_first text x xs text_is.1.2 (subst IsUtf8 text_is.0 utf8) in
          absurd (no_bundle x xs
          (subst (λ (t : Text). slice_get (chars t) 0 ≡ None → ⊥) text_is.1.2 first)
          (subst (λ (t : Text). bundle_in t (held rs p) ≡ []) text_is.1.2 e))

      by_long : (o : Option (Text × Option Text)) → bytes_eq word (45 ∷ 45 ∷ []) ≡ false
          → long_of word ≡ o → flag_word_fault lint_rules false o word (held rs p) ≡ []
          → Sorted word
      by_long None other is e = by_short (short_of word) other is refl e
      by_long (Some q) other is e = long q.0 q.1 (long_is word q is) e

      by_dashes : (b : Bool) → bytes_eq word (45 ∷ 45 ∷ []) ≡ b
          → cond b [] (flag_word_fault lint_rules false (long_of word) word (held rs p)) ≡ []
          → Sorted word
      by_dashes true is e = dashes ((bytes_eq-Decides word (45 ∷ 45 ∷ [])).0 is)
      by_dashes false is e = by_long (long_of word) is refl e

-- ---- the option of a name

first_or_later : (r : Rule) (c : List Rule) (name : Text) (a : Rule)
    → arg_by_long (r ∷ c) name ≡ Some a
    → ((has_long r name ≡ true) × (a ≡ r)) ⊎ (arg_by_long c name ≡ Some a)
first_or_later r c name a e = go (not (is_some r.index)) (has_long r name) refl e
  where
    go : (x y : Bool) → has_long r name ≡ y → cond (x && y) (Some r) (arg_by_long c name) ≡ Some a
        → ((has_long r name ≡ true) × (a ≡ r)) ⊎ (arg_by_long c name ≡ Some a)
    go true true is e = inl (is, sym (same_Some r a e))
    go true false is e = inr e
    go false y is e = inr e

is_name_of : (id name : Text) → (bytes_eq id name || false) ≡ true → name ≡ id
is_name_of id name e = go (bytes_eq id name) refl e
  where
    go : (b : Bool) → bytes_eq id name ≡ b → (b || false) ≡ true → name ≡ id
    go true is e = sym ((bytes_eq-Decides id name).0 is)
    go false is e = absurd (cc e)

data Named (name : Text) (a : Rule) : Type 0 where
  a_device : name ≡ codes "device" → a ≡ device_rule → Named name a
  a_format : name ≡ codes "format" → a ≡ format_rule → Named name a
  a_rows : name ≡ codes "rows" → a ≡ set_rule (codes "rows") → Named name a
  a_help : name ≡ codes "help" → a ≡ set_rule (codes "help") → Named name a
  a_version : name ≡ codes "version" → a ≡ set_rule (codes "version") → Named name a

abbrev with_file : List Rule
with_file = file_rule ∷ []

abbrev with_version : List Rule
with_version = set_rule (codes "version") ∷ with_file

abbrev with_help : List Rule
with_help = set_rule (codes "help") ∷ with_version

abbrev with_rows : List Rule
with_rows = set_rule (codes "rows") ∷ with_help

abbrev with_format : List Rule
with_format = format_rule ∷ with_rows

by_version : (name : Text) (a : Rule) → arg_by_long with_version name ≡ Some a → Named name a
by_version name a e = elim (first_or_later (set_rule (codes "version")) with_file name a e) [
  | inl h ↦ a_version (is_name_of (codes "version") name h.0) h.1
  | inr none ↦ absurd (cc none)
]

by_help : (name : Text) (a : Rule) → arg_by_long with_help name ≡ Some a → Named name a
by_help name a e = elim (first_or_later (set_rule (codes "help")) with_version name a e) [
  | inl h ↦ a_help (is_name_of (codes "help") name h.0) h.1
  | inr later ↦ by_version name a later
]

by_rows : (name : Text) (a : Rule) → arg_by_long with_rows name ≡ Some a → Named name a
by_rows name a e = elim (first_or_later (set_rule (codes "rows")) with_help name a e) [
  | inl h ↦ a_rows (is_name_of (codes "rows") name h.0) h.1
  | inr later ↦ by_help name a later
]

by_format : (name : Text) (a : Rule) → arg_by_long with_format name ≡ Some a → Named name a
by_format name a e = elim (first_or_later format_rule with_rows name a e) [
  | inl h ↦ a_format (is_name_of (codes "format") name h.0) h.1
  | inr later ↦ by_rows name a later
]

by_device : (name : Text) (a : Rule) → arg_by_long lint_rules name ≡ Some a → Named name a
by_device name a e = elim (first_or_later device_rule with_format name a e) [
  | inl h ↦ a_device (is_name_of (codes "device") name h.0) h.1
  | inr later ↦ by_format name a later
]

-- ---- between two parts

pub data Known (word : Text) : Type 0 where
  dashes : word ≡ codes "--" → Known word
  plain : IsPlain word → Known word
  device_name : word ≡ codes "--device" → Known word
  format_name : word ≡ codes "--format" → Known word
  device_with : (v : Text) → word ≡ codes "--device=" ++ v → Known word
  format_with : (v : Text) → word ≡ codes "--format=" ++ v → Known word
  rows : word ≡ codes "--rows" → Known word
  help : word ≡ codes "--help" → Known word
  version : word ≡ codes "--version" → Known word

module _ (rs : List Row) (p : Pending) (word : Text) where
  abbrev long_in : Option Rule → Option Text → Kinds
  long_in o v = long_fault lint_rules false o v (held rs p)

  no_value : (name : Text) (v : Text) → long_in (Some (set_rule name)) (Some v) ≡ [] → ⊥
  no_value name v e = cc e

  by_named : (name : Text) (a : Rule) (v : Option Text) → word ≡ long_word name v → Named name a
      → long_in (Some a) v ≡ [] → Known word
  by_named name a None is (a_device named by) e =
      device_name (is ∙ ap (λ (t : Text). long_word t None) named)
  by_named name a (Some v) is (a_device named by) e =
      device_with v (is ∙ ap (λ (t : Text). long_word t (Some v)) named)
  by_named name a None is (a_format named by) e =
      format_name (is ∙ ap (λ (t : Text). long_word t None) named)
  by_named name a (Some v) is (a_format named by) e =
      format_with v (is ∙ ap (λ (t : Text). long_word t (Some v)) named)
  by_named name a None is (a_rows named by) e =
      rows (is ∙ ap (λ (t : Text). long_word t None) named)
  by_named name a (Some v) is (a_rows named by) e =
      absurd (no_value (codes "rows") v (subst (λ (r : Rule). long_in (Some r) (Some v) ≡ []) by e))
  by_named name a None is (a_help named by) e =
      help (is ∙ ap (λ (t : Text). long_word t None) named)
  by_named name a (Some v) is (a_help named by) e =
      absurd (no_value (codes "help") v (subst (λ (r : Rule). long_in (Some r) (Some v) ≡ []) by e))
  by_named name a None is (a_version named by) e =
      version (is ∙ ap (λ (t : Text). long_word t None) named)
  by_named name a (Some v) is (a_version named by) e =
      absurd (no_value (codes "version") v
      (subst (λ (r : Rule). long_in (Some r) (Some v) ≡ []) by e))

  by_name : (name : Text) (v : Option Text) (o : Option Rule) → arg_by_long lint_rules name ≡ o
      → word ≡ long_word name v → long_in o v ≡ [] → Known word
  by_name name v None found is e = absurd (cc e)
  by_name name v (Some a) found is e = by_named name a v is (by_device name a found) e

  -- a word between two parts
  pub known : IsUtf8 word → own_fault word (held rs p) ≡ [] → Known word
  known utf8 e = elim (sorted rs p word utf8 e) [
    | dashes is ↦ dashes is
    | plain is ↦ plain is
    | long name v is clean ↦ by_name name v (arg_by_long lint_rules name) refl is clean
  ]

-- ---- where an option waits for its value

module _ (rs : List Row) (p : Pending) (fails : settle_in rs p ≡ [] → ⊥) where
  waits_for : (v : Option Text) (o : Option Rule)
      → long_fault lint_rules false o v (held rs p) ≡ [] → ⊥
  waits_for v None e = cc e
  waits_for v (Some b) e = go (takes_values b) v e
    where
      go : (t : Bool) (v : Option Text)
          → cond t (option_fault lint_rules false b v (held rs p))
          (cond (is_some v) (kind.TooManyValues ∷ [])
          (react_fault lint_rules false b [] (held rs p))) ≡ [] → ⊥
      go true (Some x) e = fails (or_else_split (settle_in rs p) _ e).0
      go true None e = fails e
      go false (Some x) e = cc e
      go false None e = fails (or_else_split (settle_in rs p) _ e).0

  -- a word that comes next
  pub next_word : (word : Text) → IsUtf8 word → own_fault word (held rs p) ≡ []
      → (word ≡ codes "--") ⊎ IsPlain word
  next_word word utf8 e = elim (sorted rs p word utf8 e) [
    | dashes is ↦ inl is
    | plain is ↦ inr is
    | long name v is clean ↦ absurd (waits_for v (arg_by_long lint_rules name) clean)
  ]
