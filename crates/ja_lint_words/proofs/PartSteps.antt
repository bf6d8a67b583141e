-- The walk of clap over the words of one part: it is a use of the part's argument.
use Rattle.std.proofs.Common.{◌≡◌, ◌∙◌, ◌++◌, Bool, true, false, List, [], ◌∷◌, Some, None}
use Rattle.std.proofs.Common.{refl, sym, subst, inl, inr, codes}
use Rattle.clap.specs.Walk.{Row, Rule, Text, used}
use Rattle.clap.specs.Kinds.{or_else}
use Rattle.ja_lint_words.specs.Words.{Asked, IsOption, IsPart, Part}
use Rattle.ja_lint_words.specs.Words.Part.{Device, File, Format, Help, Rows, Version}
use Rattle.ja_lint_words.proofs.NoFaults.{or_else_join, or_else_split}
use Rattle.ja_lint_words.proofs.Lexed.{IsNoOption, plain_is_no_option}
use Rattle.ja_lint_words.proofs.Asking.{Adds}
use Rattle.ja_lint_words.proofs.Holding.{Holds, device_rule, file_rule, flag_has, format_clean}
use Rattle.ja_lint_words.proofs.Holding.{format_first, format_rule, format_unasked, format_unused}
use Rattle.ja_lint_words.proofs.Holding.{holds_device, holds_file, holds_format, holds_help}
use Rattle.ja_lint_words.proofs.Holding.{holds_rows, holds_version, set_clean, set_first, set_rule}
use Rattle.ja_lint_words.proofs.Holding.{use_in}
use Rattle.ja_lint_words.proofs.Steps.{IsClean, Pending, awaiting, device_goes, device_turn}
use Rattle.ja_lint_words.proofs.Steps.{device_value_goes, device_value_turn, device_with_goes}
use Rattle.ja_lint_words.proofs.Steps.{device_with_turn, end_rows, file_goes, file_turn, format_goes}
use Rattle.ja_lint_words.proofs.Steps.{format_turn, format_value_goes, format_value_turn}
use Rattle.ja_lint_words.proofs.Steps.{format_with_goes, format_with_turn, given_value, help_goes}
use Rattle.ja_lint_words.proofs.Steps.{help_turn, now, onward, rows_goes, rows_turn, settle_in}
use Rattle.ja_lint_words.proofs.Steps.{standing, step_in, step_out, step_rows, turn, version_goes}
use Rattle.ja_lint_words.proofs.Steps.{version_turn}

-- the argument of a part, and the values that it gives
abbrev pub rule_of_part : Part → Rule
rule_of_part (Device v) = device_rule
rule_of_part (Format v) = format_rule
rule_of_part Rows = set_rule (codes "rows")
rule_of_part Help = set_rule (codes "help")
rule_of_part Version = set_rule (codes "version")
rule_of_part (File v) = file_rule

abbrev pub values_of_part : Part → List Text
values_of_part (Device v) = v ∷ []
values_of_part (Format v) = v ∷ []
values_of_part (File v) = v ∷ []
values_of_part _ = []

-- ---- what one more use holds

-- where it doesn't fail, it adds its part
pub part_adds : (part : Part) (rs : List Row) (a : Asked) → Holds rs a
    → use_in (rule_of_part part) (values_of_part part) rs ≡ []
    → (next : Asked) × Adds a part next
    × Holds (used (rule_of_part part) (values_of_part part) rs) next
part_adds (Device v) rs a h e =
    (record a { devices = a.devices ++ v ∷ [] }, refl, holds_device rs a h v)
part_adds (File v) rs a h e = (record a { files = a.files ++ v ∷ [] }, refl, holds_file rs a h v)
part_adds (Format v) rs a h e =
    let none = format_unasked rs a h (format_first v rs e) in
    (record a { format = Some v }, (none, refl), holds_format rs a h v none)
part_adds Rows rs a h e =
    let none = sym (flag_has (codes "rows") rs a.rows h.rows) ∙ set_first (codes "rows") rs e in
    (record a { rows = true }, (none, refl), holds_rows rs a h none)
part_adds Help rs a h e =
    let none = sym (flag_has (codes "help") rs a.help h.help) ∙ set_first (codes "help") rs e in
    (record a { help = true }, (none, refl), holds_help rs a h none)
part_adds Version rs a h e =
    let none = sym (flag_has (codes "version") rs a.version h.version)
    ∙ set_first (codes "version") rs e in
    (record a { version = true }, (none, refl), holds_version rs a h none)

-- where the part adds, it doesn't fail
pub part_clean : (part : Part) (rs : List Row) (a next : Asked) → Holds rs a → Adds a part next
    → (use_in (rule_of_part part) (values_of_part part) rs ≡ [])
    × Holds (used (rule_of_part part) (values_of_part part) rs) next
part_clean (Device v) rs a next h adds =
    (refl, subst (Holds (used device_rule (v ∷ []) rs)) (sym adds) (holds_device rs a h v))
part_clean (File v) rs a next h adds =
    (refl, subst (Holds (used file_rule (v ∷ []) rs)) (sym adds) (holds_file rs a h v))
part_clean (Format v) rs a next h adds = (
  format_clean v rs (format_unused rs a h adds.0),
  subst (Holds (used format_rule (v ∷ []) rs)) (sym adds.1) (holds_format rs a h v adds.0),
)
part_clean Rows rs a next h adds = (
  set_clean (codes "rows") rs (flag_has (codes "rows") rs a.rows h.rows ∙ adds.0),
  subst (Holds (used (set_rule (codes "rows")) [] rs)) (sym adds.1) (holds_rows rs a h adds.0),
)
part_clean Help rs a next h adds = (
  set_clean (codes "help") rs (flag_has (codes "help") rs a.help h.help ∙ adds.0),
  subst (Holds (used (set_rule (codes "help")) [] rs)) (sym adds.1) (holds_help rs a h adds.0),
)
part_clean Version rs a next h adds = (
  set_clean (codes "version") rs (flag_has (codes "version") rs a.version h.version ∙ adds.0),
  subst (Holds (used (set_rule (codes "version")) [] rs)) (sym adds.1)
      (holds_version rs a h adds.0),
)

-- ---- the walk

-- the words `first` are a use of this argument, with these values
pub record IsUse (b : Bool) (rs : List Row) (p : Pending) (a : Rule) (vs : List Text)
    (first : List Text) : Type 0 where
  pub free : Bool
  pub left : List Row
  pub pending : Pending
  pub now_is : now left pending ≡ used a vs (now rs p)
  pub settles : use_in a vs (now rs p) ≡ [] → settle_in left pending ≡ []
  pub into : (rest : List Text) → IsClean (standing b rs p) (first ++ rest)
      → (settle_in rs p ≡ []) × IsClean (standing free left pending) rest
      × (settle_in left pending ≡ [] → use_in a vs (now rs p) ≡ [])
  pub out : (rest : List Text) → settle_in rs p ≡ [] → use_in a vs (now rs p) ≡ []
      → IsClean (standing free left pending) rest → IsClean (standing b rs p) (first ++ rest)
  pub ends : (rest : List Text)
      → end_rows (standing b rs p) (first ++ rest) ≡ end_rows (standing free left pending) rest

module _ (b : Bool) (rs : List Row) (p : Pending) where
  -- one word, which is the use
  at_once : (a : Rule) (vs : List Text) (word : Text)
      → turn (standing b rs p) word
      ≡ or_else (or_else (settle_in rs p) (use_in a vs (now rs p))) []
      → onward (standing b rs p) word ≡ standing false (used a vs (now rs p)) None
      → IsUse b rs p a vs (word ∷ [])
  at_once a vs word fails goes = record {
    free = false;
    left = used a vs (now rs p);
    pending = None;
    now_is = refl;
    settles = λ e. refl;
    into = λ rest e.
        let step = step_in (standing b rs p) (standing false (used a vs (now rs p)) None) word rest
        (or_else (or_else (settle_in rs p) (use_in a vs (now rs p))) []) fails goes e in
        let outer = or_else_split (or_else (settle_in rs p) (use_in a vs (now rs p))) [] step.0 in
        let inner = or_else_split (settle_in rs p) (use_in a vs (now rs p)) outer.0 in
        (inner.0, step.1, λ s. inner.1);
    out = λ rest settle clean e.
        step_out (standing b rs p) (standing false (used a vs (now rs p)) None) word rest
        (or_else (or_else (settle_in rs p) (use_in a vs (now rs p))) []) fails goes
        (or_else_join (or_else (settle_in rs p) (use_in a vs (now rs p))) []
        (or_else_join (settle_in rs p) (use_in a vs (now rs p)) settle clean) refl) e;
    ends = λ rest. step_rows (standing b rs p) (standing false (used a vs (now rs p)) None) word rest
        (or_else (or_else (settle_in rs p) (use_in a vs (now rs p))) []) fails goes;
  }

  -- the name of an option, and its value in the next word
  in_two : (a : Rule) (name v : Text)
      → turn (standing b rs p) name ≡ or_else (settle_in rs p) []
      → onward (standing b rs p) name ≡ awaiting a (now rs p)
      → turn (awaiting a (now rs p)) v ≡ []
      → onward (awaiting a (now rs p)) v ≡ standing false (now rs p) (given_value a v)
      → now (now rs p) (given_value a v) ≡ used a (v ∷ []) (now rs p)
      → settle_in (now rs p) (given_value a v) ≡ use_in a (v ∷ []) (now rs p)
      → IsUse b rs p a (v ∷ []) (name ∷ v ∷ [])
  in_two a name v fails goes value_fails value_goes now_is settles_as = record {
    free = false;
    left = now rs p;
    pending = given_value a v;
    now_is = now_is;
    settles = λ e. settles_as ∙ e;
    into = λ rest e.
        let step = step_in (standing b rs p) (awaiting a (now rs p)) name (v ∷ rest)
        (or_else (settle_in rs p) []) fails goes e in
        let value = step_in (awaiting a (now rs p)) (standing false (now rs p) (given_value a v)) v
        rest [] value_fails value_goes step.1 in
        ((or_else_split (settle_in rs p) [] step.0).0, value.1, λ s. sym settles_as ∙ s);
    out = λ rest settle clean e.
        step_out (standing b rs p) (awaiting a (now rs p)) name (v ∷ rest)
        (or_else (settle_in rs p) []) fails goes (or_else_join (settle_in rs p) [] settle refl)
        (step_out (awaiting a (now rs p)) (standing false (now rs p) (given_value a v)) v rest []
        value_fails value_goes refl e);
    ends = λ rest. step_rows (standing b rs p) (awaiting a (now rs p)) name (v ∷ rest)
        (or_else (settle_in rs p) []) fails goes
        ∙ step_rows (awaiting a (now rs p)) (standing false (now rs p) (given_value a v)) v rest []
        value_fails value_goes;
  }

  -- a file
  a_file : (word : Text) → IsNoOption word → IsUse b rs p file_rule (word ∷ []) (word ∷ [])
  a_file word is =
      let after = standing true (now rs p) (given_value file_rule word) in
      let fails = file_turn rs p word is b in
      let goes = file_goes rs p word is b in
      record {
        free = true;
        left = now rs p;
        pending = given_value file_rule word;
        now_is = refl;
        settles = λ e. refl;
        into = λ rest e.
            let step = step_in (standing b rs p) after word rest (settle_in rs p) fails goes e in
            (step.0, step.1, λ s. refl);
        out = λ rest settle clean e.
            step_out (standing b rs p) after word rest (settle_in rs p) fails goes settle e;
        ends = λ rest. step_rows (standing b rs p) after word rest (settle_in rs p) fails goes;
      }

  device_use : (v : Text) (first : List Text) → IsOption (codes "--device") v first
      → IsUse b rs p device_rule (v ∷ []) first
  device_use v first (inl (is, plain)) =
      let no_option = plain_is_no_option v plain in
      subst (IsUse b rs p device_rule (v ∷ [])) (sym is)
      (in_two device_rule (codes "--device") v (device_turn rs p b) (device_goes rs p b)
      (device_value_turn (now rs p) v no_option) (device_value_goes (now rs p) v no_option)
      refl refl)
  device_use v first (inr is) =
      subst (IsUse b rs p device_rule (v ∷ [])) (sym is)
      (at_once device_rule (v ∷ []) (codes "--device=" ++ v) (device_with_turn rs p v b)
      (device_with_goes rs p v b))

  format_use : (v : Text) (first : List Text) → IsOption (codes "--format") v first
      → IsUse b rs p format_rule (v ∷ []) first
  format_use v first (inl (is, plain)) =
      let no_option = plain_is_no_option v plain in
      subst (IsUse b rs p format_rule (v ∷ [])) (sym is)
      (in_two format_rule (codes "--format") v (format_turn rs p b) (format_goes rs p b)
      (format_value_turn (now rs p) v no_option) (format_value_goes (now rs p) v no_option)
      refl refl)
  format_use v first (inr is) =
      subst (IsUse b rs p format_rule (v ∷ [])) (sym is)
      (at_once format_rule (v ∷ []) (codes "--format=" ++ v) (format_with_turn rs p v b)
      (format_with_goes rs p v b))

  -- the words of a part are a use of its argument
  pub part_use : (part : Part) (first : List Text) → IsPart part first
      → IsUse b rs p (rule_of_part part) (values_of_part part) first
  part_use (Device v) first is = device_use v first is
  part_use (Format v) first is = format_use v first is
  part_use Rows first is =
      subst (IsUse b rs p (set_rule (codes "rows")) []) (sym is)
      (at_once (set_rule (codes "rows")) [] (codes "--rows") (rows_turn rs p b) (rows_goes rs p b))
  part_use Help first is =
      subst (IsUse b rs p (set_rule (codes "help")) []) (sym is)
      (at_once (set_rule (codes "help")) [] (codes "--help") (help_turn rs p b) (help_goes rs p b))
  part_use Version first is =
      subst (IsUse b rs p (set_rule (codes "version")) []) (sym is)
      (at_once (set_rule (codes "version")) [] (codes "--version") (version_turn rs p b)
      (version_goes rs p b))
  part_use (File word) first is =
      subst (IsUse b rs p file_rule (word ∷ [])) (sym is.0)
      (a_file word (plain_is_no_option word is.1))
