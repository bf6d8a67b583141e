-- A command line is what clap takes, and what clap takes is a command line: by its parts.
use Rattle.std.proofs.Common.{◌≡◌, ◌∙◌, ◌++◌, Bool, true, false, cond, List, [], ◌∷◌, Some}
use Rattle.std.proofs.Common.{refl, sym, ap, subst, inl, inr, codes, append-nil, append_assoc}
use Rattle.std.specs.Prelude.{IsUtf8}
use Rattle.std.specs.List.{AllByRecursion}
use Rattle.clap.specs.Walk.{Row, Rule, Text, Walk, finished, option, with_default}
use Rattle.clap.specs.Kinds.{Kinds, or_else}
use Rattle.clap.specs.Faults.{check_fault, default_fault, defaults_fault, walk_fault, word_fault}
use Rattle.ja_lint_words.specs.Words.{AreParts, Asked, IsEnd, IsPart, IsPlain, Part}
use Rattle.ja_lint_words.specs.Words.Part.{Device, File, Format, Help, Rows, Version}
use Rattle.ja_lint_words.proofs.NoFaults.{or_else_join, or_else_split}
use Rattle.ja_lint_words.proofs.Lexed.{IsNoOption}
use Rattle.ja_lint_words.proofs.Asking.{AddAll, Adds, behind_asked}
use Rattle.ja_lint_words.proofs.Holding.{Holds, device_rule, file_rule, format_rule, holds_file}
use Rattle.ja_lint_words.proofs.Holding.{lint_rules, lint_shape}
use Rattle.ja_lint_words.proofs.Known.{Known, dashes, device_name, device_with, format_name}
use Rattle.ja_lint_words.proofs.Known.{format_with, help, known, next_word, plain, rows, version}
use Rattle.ja_lint_words.proofs.PartSteps.{part_adds, part_clean, part_use}
use Rattle.ja_lint_words.proofs.Steps.{IsClean, Pending, at, awaiting, behind_goes, behind_turn}
use Rattle.ja_lint_words.proofs.Steps.{between, dashes_goes, dashes_turn, device_goes, device_turn}
use Rattle.ja_lint_words.proofs.Steps.{device_value_goes, device_value_turn, end_fault, end_rows}
use Rattle.ja_lint_words.proofs.Steps.{fails_by_itself, format_goes, format_turn}
use Rattle.ja_lint_words.proofs.Steps.{format_value_goes, format_value_turn, given_value, held, now}
use Rattle.ja_lint_words.proofs.Steps.{onward, own_fault, settle_in, standing, step_in, step_out}
use Rattle.ja_lint_words.proofs.Steps.{step_rows, turn}

-- the rows that the words come to hold what is asked for
abbrev pub Ends : Walk → List Text → Asked → Type 0
Ends w words a = Holds (end_rows w words) a

-- ---- at the end of the words

defaults_clean : (rs : List Row) (c : List Rule)
    → AllByRecursion (λ (a : Rule). (rs : List Row) → default_fault rs a ≡ []) c
    → defaults_fault rs c ≡ []
unfolding defaults_fault
defaults_clean rs [] all = refl
defaults_clean rs (a ∷ c) all =
    or_else_join (default_fault rs a) (defaults_fault (with_default rs a) c) (all.0 rs)
    (defaults_clean (with_default rs a) c all.1)

same_either : (b : Bool) → cond {A = Kinds} b [] [] ≡ []
same_either false = refl
same_either true = refl

lint_defaults_clean : (rs : List Row) → defaults_fault rs lint_rules ≡ []
lint_defaults_clean rs =
    defaults_clean rs lint_rules (
      λ rs. same_either _,
      (
        λ rs. same_either _,
        (
          λ rs. same_either _,
          (λ rs. same_either _, (λ rs. same_either _, (λ rs. same_either _, tt))),
        ),
      ),
    )

end_clean : (rs : List Row) (p : Pending) → settle_in rs p ≡ [] → end_fault (held rs p) ≡ []
end_clean rs p settle =
    or_else_join (settle_in rs p) (or_else (defaults_fault (now rs p) lint_rules)
    (check_fault lint_shape (finished lint_rules (held rs p)) false)) settle
    (or_else_join (defaults_fault (now rs p) lint_rules)
    (check_fault lint_shape (finished lint_rules (held rs p)) false)
    (lint_defaults_clean (now rs p)) refl)

end_settles : (rs : List Row) (p : Pending) → end_fault (held rs p) ≡ [] → settle_in rs p ≡ []
end_settles rs p e = (or_else_split (settle_in rs p) _ e).0

-- ---- behind `--`

abbrev behind : Bool → List Row → Pending → Walk
behind b rs p = at true (between b) rs p

behind_settles : (words : List Text) (b : Bool) (rs : List Row) (p : Pending)
    → IsClean (behind b rs p) words → settle_in rs p ≡ []
unfolding walk_fault
behind_settles [] b rs p e = end_settles rs p e
behind_settles (word ∷ rest) b rs p e =
    (step_in (behind b rs p) (behind true (now rs p) (given_value file_rule word)) word rest
    (settle_in rs p) (behind_turn rs p (between b) word) (behind_goes rs p (between b) word) e).0

behind_clean : (words : List Text) (b : Bool) (rs : List Row) (p : Pending) → settle_in rs p ≡ []
    → IsClean (behind b rs p) words
unfolding walk_fault
behind_clean [] b rs p settle = end_clean rs p settle
behind_clean (word ∷ rest) b rs p settle =
    step_out (behind b rs p) (behind true (now rs p) (given_value file_rule word)) word rest
    (settle_in rs p) (behind_turn rs p (between b) word) (behind_goes rs p (between b) word) settle
    (behind_clean rest true (now rs p) (given_value file_rule word) refl)

behind_ends : (words : List Text) (b : Bool) (rs : List Row) (p : Pending) (a : Asked)
    → Holds (now rs p) a → Ends (behind b rs p) words (behind_asked a words)
behind_ends [] b rs p a h =
    subst (λ (fs : List Text). Holds (now rs p) (record a { files = fs })) (sym (append-nil a.files))
    h
behind_ends (word ∷ rest) b rs p a h =
    let more = behind_ends rest true (now rs p) (given_value file_rule word)
    (record a { files = a.files ++ word ∷ [] }) (holds_file (now rs p) a h word) in
    subst (λ (r : List Row). Holds r (behind_asked a (word ∷ rest)))
    (sym (step_rows (behind b rs p) (behind true (now rs p) (given_value file_rule word)) word rest
    (settle_in rs p) (behind_turn rs p (between b) word) (behind_goes rs p (between b) word)))
    (subst (λ (fs : List Text). Holds
    (end_rows (behind true (now rs p) (given_value file_rule word)) rest)
    (record a { files = fs })) (append_assoc a.files (word ∷ []) rest) more)

-- ---- a command line is taken

abbrev pub Taken : Bool → List Row → Pending → List Text → Asked → Type 0
Taken b rs p words c = IsClean (standing b rs p) words × Ends (standing b rs p) words c

no_part_taken : (end files : List Text) (a c : Asked) (b : Bool) (rs : List Row) (p : Pending)
    → IsEnd files end → c ≡ behind_asked a files → settle_in rs p ≡ [] → Holds (now rs p) a
    → Taken b rs p end c
unfolding walk_fault
no_part_taken end files a c b rs p (inl (none, is)) asked settle h =
    subst (λ (ws : List Text). Taken b rs p ws c) (sym is) (
      end_clean rs p settle,
      subst (Holds (now rs p)) (sym (asked ∙ ap (behind_asked a) none))
          (behind_ends [] b rs p a h),
    )
no_part_taken end files a c b rs p (inr is) asked settle h =
    subst (λ (ws : List Text). Taken b rs p ws c) (sym is) (
      step_out (standing b rs p) (behind b rs p) (codes "--") files [] (dashes_turn rs p (between b))
          (dashes_goes rs p (between b)) refl (behind_clean files b rs p settle),
      subst (λ (r : List Row). Holds r c)
          (sym (step_rows (standing b rs p) (behind b rs p) (codes "--") files []
          (dashes_turn rs p (between b)) (dashes_goes rs p (between b))))
          (subst (Holds (end_rows (behind b rs p) files)) (sym asked)
          (behind_ends files b rs p a h)),
    )

pub taken : (parts : List Part) (front end files : List Text) (a c : Asked) (b : Bool)
    (rs : List Row) (p : Pending) → AreParts parts front → IsEnd files end
    → AddAll a parts files c → settle_in rs p ≡ [] → Holds (now rs p) a
    → Taken b rs p (front ++ end) c
taken [] front end files a c b rs p are is add settle h =
    subst (λ (ws : List Text). Taken b rs p (ws ++ end) c) (sym are)
    (no_part_taken end files a c b rs p is add settle h)
taken (part ∷ parts) front end files a c b rs p are is add settle h =
    let u = part_use b rs p part are.0 are.3 in
    let n = part_clean part (now rs p) a add.0 h add.1 in
    let more = taken parts are.1 end files add.0 c u.free u.left u.pending are.4 is add.2
    (u.settles n.0) (subst (λ (r : List Row). Holds r add.0) (sym u.now_is) n.1) in
    subst (λ (ws : List Text). Taken b rs p ws c)
    (sym (ap (λ (ws : List Text). ws ++ end) are.2 ∙ append_assoc are.0 are.1 end)) (
      u.out (are.1 ++ end) settle n.0 more.0,
      subst (λ (r : List Row). Holds r c) (sym (u.ends (are.1 ++ end))) more.1,
    )

-- ---- what is taken is a command line

-- the words are parts, and files behind them, that add to what is asked for
abbrev pub Line : Asked → List Text → Asked → Type 0
Line a words c = (parts : List Part) × (files : List Text) × (front : List Text) × (end : List Text)
    × (words ≡ front ++ end) × AreParts parts front × IsEnd files end × AddAll a parts files c

pub one_more : (part : Part) (first rest : List Text) (a next c : Asked) → IsPart part first
    → Adds a part next → Line next rest c → Line a (first ++ rest) c
one_more part first rest a next c is adds line = (
  part ∷ line.0,
  line.1,
  first ++ line.2,
  line.3,
  ap (λ (ws : List Text). first ++ ws) line.4 ∙ sym (append_assoc first line.2 line.3),
  (first, line.2, refl, is, line.5),
  line.6,
  (next, adds, line.7),
)

-- what is pending is used, and the words that are left are a command line
abbrev pub Reads : Bool → List Row → Pending → List Text → Type 0
Reads b rs p words = (settle_in rs p ≡ [])
    × ((a : Asked) → Holds (now rs p) a → (c : Asked) × Line a words c
    × Ends (standing b rs p) words c)

abbrev pub Sound : List Text → Type 0
Sound words = (b : Bool) (rs : List Row) (p : Pending) → IsClean (standing b rs p) words
    → Reads b rs p words

part_reads : (part : Part) (first rest : List Text) (b : Bool) (rs : List Row) (p : Pending)
    → IsPart part first → Sound rest → IsClean (standing b rs p) (first ++ rest)
    → Reads b rs p (first ++ rest)
part_reads part first rest b rs p is sound e =
    let u = part_use b rs p part first is in
    let into = u.into rest e in
    let more = sound u.free u.left u.pending into.1 in (
      into.0,
      λ a h.
          let n = part_adds part (now rs p) a h (into.2 more.0) in
          let m = more.1 n.0 (subst (λ (r : List Row). Holds r n.0) (sym u.now_is) n.2) in (
            m.0,
            one_more part first rest a n.0 m.0 is n.1 m.1,
            subst (λ (r : List Row). Holds r m.0) (sym (u.ends rest)) m.2,
          ),
    )

no_words : Sound []
unfolding walk_fault
no_words b rs p e = (
  end_settles rs p e,
  λ a h. (
    behind_asked a [],
    ([], [], [], [], refl, refl, inl (refl, refl), refl),
    behind_ends [] b rs p a h,
  ),
)

dashes_read : (rest : List Text) (b : Bool) (rs : List Row) (p : Pending)
    → IsClean (standing b rs p) (codes "--" ∷ rest) → Reads b rs p (codes "--" ∷ rest)
dashes_read rest b rs p e =
    let step = step_in (standing b rs p) (behind b rs p) (codes "--") rest []
    (dashes_turn rs p (between b)) (dashes_goes rs p (between b)) e in (
      behind_settles rest b rs p step.1,
      λ a h. (
        behind_asked a rest,
        ([], rest, [], codes "--" ∷ rest, refl, refl, inr refl, refl),
        subst (λ (r : List Row). Holds r (behind_asked a rest))
            (sym (step_rows (standing b rs p) (behind b rs p) (codes "--") rest []
            (dashes_turn rs p (between b)) (dashes_goes rs p (between b))))
            (behind_ends rest b rs p a h),
      ),
    )

-- ---- the value of an option, in the next word

module _ (a : Rule) (rs : List Row) (fails : settle_in rs (Some (a.id, [])) ≡ [] → ⊥)
    (value_turn : (word : Text) → IsNoOption word → turn (awaiting a rs) word ≡ [])
    (value_goes : (word : Text) → IsNoOption word
    → onward (awaiting a rs) word ≡ standing false rs (given_value a word)) where
  abbrev waiting : Pending
  waiting = Some (a.id, [])

  -- `--` is none
  none_behind : (words : List Text) → IsClean (at true (option a.id) rs waiting) words → ⊥
  unfolding walk_fault
  none_behind [] e = fails (end_settles rs waiting e)
  none_behind (word ∷ rest) e = fails
      (step_in (at true (option a.id) rs waiting)
      (onward (at true (option a.id) rs waiting) word) word rest (settle_in rs waiting)
      (behind_turn rs waiting (option a.id) word) refl e).0

  abbrev Value : List Text → Type 0
  Value words = (v : Text) × (rest : List Text) × (words ≡ v ∷ rest) × IsPlain v

  next_value : (words : List Text) → AllByRecursion IsUtf8 words → IsClean (awaiting a rs) words
      → Value words
  unfolding walk_fault
  next_value [] utf8 e = absurd (fails (end_settles rs waiting e))
  next_value (word ∷ rest) utf8 e =
      let step = step_in (awaiting a rs) (onward (awaiting a rs) word) word rest
      (turn (awaiting a rs) word) refl refl e in
      let clean = (or_else_split (word_fault lint_shape [] false
      (option a.id) word (held rs waiting)) _ step.0).0 in
      elim (next_word rs waiting fails word utf8.0
      (sym (fails_by_itself (option a.id) word (held rs waiting)) ∙ clean)) [
        | inl is ↦ absurd (none_behind rest
            (step_in (awaiting a rs) (at true (option a.id) rs waiting) (codes "--") rest []
            (dashes_turn rs waiting (option a.id)) (dashes_goes rs waiting (option a.id))
            (subst (λ (w : Text). IsClean (awaiting a rs) (w ∷ rest)) is e)).1)
        | inr is ↦ (word, rest, refl, is)
      ]

device_value : (rs : List Row) (words : List Text) → AllByRecursion IsUtf8 words
    → IsClean (awaiting device_rule rs) words
    → (v : Text) × (rest : List Text) × (words ≡ v ∷ rest) × IsPlain v
device_value rs words utf8 e = next_value device_rule rs (λ e. cc e)
    (λ word is. device_value_turn rs word is) (λ word is. device_value_goes rs word is) words utf8 e

format_value : (rs : List Row) (words : List Text) → AllByRecursion IsUtf8 words
    → IsClean (awaiting format_rule rs) words
    → (v : Text) × (rest : List Text) × (words ≡ v ∷ rest) × IsPlain v
format_value rs words utf8 e = next_value format_rule rs (λ e. cc e)
    (λ word is. format_value_turn rs word is) (λ word is. format_value_goes rs word is) words utf8 e

-- ---- all words

tail : (v word : Text) (rest words : List Text) → word ∷ words ≡ v ∷ rest → words ≡ rest
tail v word rest words e = cc e

module _ (word : Text) (rest : List Text) (utf8 : AllByRecursion IsUtf8 (word ∷ rest))
    (sound : Sound rest)
    (sound_tail : (v : Text) (later : List Text) → rest ≡ v ∷ later → Sound later) where
  module _ (b : Bool) (rs : List Row) (p : Pending) (e : IsClean (standing b rs p) (word ∷ rest))
    where
      abbrev At : Text → Type 0
      At w = Reads b rs p (w ∷ rest)

      abbrev clean_at : (w : Text) → word ≡ w → IsClean (standing b rs p) (w ∷ rest)
      clean_at w is = subst (λ (w : Text). IsClean (standing b rs p) (w ∷ rest)) is e

      -- a part that is this word
      one_word : (part : Part) (w : Text) → word ≡ w → IsPart part (w ∷ []) → At word
      one_word part w is part_is = subst At (sym is)
          (part_reads part (w ∷ []) rest b rs p part_is sound (clean_at w is))

      -- an option whose value is the next word
      two_words : (part : Part) (name v : Text) (later : List Text) → word ≡ name
          → rest ≡ v ∷ later → IsPart part (name ∷ v ∷ []) → At word
      two_words part name v later is rest_is part_is =
          subst At (sym is) (subst (λ (ws : List Text). Reads b rs p (name ∷ ws)) (sym rest_is)
          (part_reads part (name ∷ v ∷ []) later b rs p part_is (sound_tail v later rest_is)
          (subst (λ (ws : List Text). IsClean (standing b rs p) (name ∷ ws)) rest_is
          (clean_at name is))))

      by_known : Known word → At word
      by_known (dashes is) = subst At (sym is) (dashes_read rest b rs p (clean_at (codes "--") is))
      by_known (plain is) = one_word (File word) word refl (refl, is)
      by_known (device_name is) =
          let step = step_in (standing b rs p) (awaiting device_rule (now rs p)) (codes "--device") rest
          (or_else (settle_in rs p) []) (device_turn rs p b) (device_goes rs p b)
          (clean_at (codes "--device") is) in
          let value = device_value (now rs p) rest utf8.1 step.1 in
          two_words (Device value.0) (codes "--device") value.0 value.1 is value.2
          (inl (refl, value.3))
      by_known (format_name is) =
          let step = step_in (standing b rs p) (awaiting format_rule (now rs p)) (codes "--format") rest
          (or_else (settle_in rs p) []) (format_turn rs p b) (format_goes rs p b)
          (clean_at (codes "--format") is) in
          let value = format_value (now rs p) rest utf8.1 step.1 in
          two_words (Format value.0) (codes "--format") value.0 value.1 is value.2
          (inl (refl, value.3))
      by_known (device_with v is) = one_word (Device v) (codes "--device=" ++ v) is (inr refl)
      by_known (format_with v is) = one_word (Format v) (codes "--format=" ++ v) is (inr refl)
      by_known (rows is) = one_word Rows (codes "--rows") is refl
      by_known (help is) = one_word Help (codes "--help") is refl
      by_known (version is) = one_word Version (codes "--version") is refl

  word_clean : (b : Bool) (rs : List Row) (p : Pending) → IsClean (standing b rs p) (word ∷ rest)
      → own_fault word (held rs p) ≡ []
  word_clean b rs p e =
      let step = step_in (standing b rs p) (onward (standing b rs p) word) word rest
      (turn (standing b rs p) word) refl refl e in
      sym (fails_by_itself (between b) word (held rs p))
      ∙ (or_else_split (word_fault lint_shape [] false (between b) word
      (held rs p)) _ step.0).0

  one_word_more : Sound (word ∷ rest)
  one_word_more b rs p e =
      by_known b rs p e (known rs p word utf8.0 (word_clean b rs p e))

both : (words : List Text) → AllByRecursion IsUtf8 words
    → Sound words × ((v : Text) (later : List Text) → words ≡ v ∷ later → Sound later)
both [] utf8 = (no_words, λ v later e. absurd (cc e))
both (word ∷ rest) utf8 =
    let ih = both rest utf8.1 in (
      one_word_more word rest utf8 ih.0 ih.1,
      λ v later e. subst Sound (tail v word later rest e) ih.0,
    )

-- what clap takes is a command line
pub sound : (words : List Text) → AllByRecursion IsUtf8 words → Sound words
sound words utf8 = (both words utf8).0
