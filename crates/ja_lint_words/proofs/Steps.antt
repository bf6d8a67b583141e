-- The walk of clap over the words of a command line, word by word: how each word fails, and where
-- the walk stands behind it.
use Rattle.std.proofs.Common.{◌≡◌, ◌∙◌, ◌++◌, ◌&&◌, Bool, true, false, cond, List, [], ◌∷◌, Option}
use Rattle.std.proofs.Common.{Some, None, refl, sym, ap, ap₂, subst, fold, codes}
use Rattle.clap.specs.Walk.{Held, Row, Rule, Step, Text, Waiting, Walk, idle, is_pending, option}
use Rattle.clap.specs.Walk.{positional, settled, settled_rows, used, value, walked, word_met}
use Rattle.clap.specs.Walk.{finished, long_or_other, plain_word, short_or_plain, to_positional}
use Rattle.clap.specs.Walk.{after_step, pushed, subcommand_met, subcommand_or_other}
use Rattle.clap.specs.Walk as walk
use Rattle.clap.specs.Kinds.{Kinds, or_else}
use Rattle.clap.specs.Faults.{bundle_fault, check_fault, defaults_fault, flag_word_fault, other_fault}
use Rattle.clap.specs.Faults.{settle_fault, step_fault, turn_fault, walk_fault, word_fault}
use Rattle.std.specs.Option.{option_map_or}
use Rattle.clap.specs.Lexer.{long_of}
use Rattle.ja_lint_words.proofs.NoFaults.{or_else_join, or_else_split}
use Rattle.ja_lint_words.proofs.Lexed.{IsNoOption}
use Rattle.ja_lint_words.proofs.Holding.{device_rule, file_rule, format_rule, lint_rules, lint_shape}
use Rattle.ja_lint_words.proofs.Holding.{set_rule, use_in}

-- ---- where the walk stands

abbrev pub Pending : Type 0
Pending = Option (Text × List Text)

abbrev pub held : List Row → Pending → Held
held rs p = record { rows = rs; pending = p; skip = 0 }

abbrev pub at : Bool → Waiting → List Row → Pending → Walk
at is_trailing waiting rs p = record {
  held = held rs p;
  waiting = waiting;
  position = 1;
  is_trailing = is_trailing;
  stopped = None;
}

-- what waits between two parts: nothing, or the files
abbrev pub between : Bool → Waiting
between false = idle
between true = positional

abbrev pub standing : Bool → List Row → Pending → Walk
standing b rs p = at false (between b) rs p

-- an option waits for its value
abbrev pub awaiting : Rule → List Row → Walk
awaiting a rs = at false (option a.id) rs (Some (a.id, []))

abbrev pub given_value : Rule → Text → Pending
given_value a v = Some (a.id, v ∷ [])

-- how what is pending fails when it is used, and the rows behind it
abbrev pub settle_in : List Row → Pending → Kinds
settle_in rs p = settle_fault lint_rules false (held rs p)

abbrev pub now : List Row → Pending → List Row
now rs p = settled_rows lint_rules p rs

abbrev pub turn : Walk → Text → Kinds
turn w word = turn_fault lint_shape [] w word

abbrev pub onward : Walk → Text → Walk
onward w word = walked lint_rules [] w word

-- ---- the words that are left

abbrev pub end_fault : Held → Kinds
end_fault h = or_else (settle_fault lint_rules false h)
    (or_else (defaults_fault (settled lint_rules h).rows lint_rules)
    (check_fault lint_shape (finished lint_rules h) false))

abbrev pub end_held : Walk → List Text → Held
end_held w words = (fold (walked lint_rules []) w words).held

abbrev pub left_fault : Walk → List Text → Kinds
left_fault w words =
    or_else (walk_fault lint_shape [] w words) (end_fault (end_held w words))

abbrev pub IsClean : Walk → List Text → Type 0
IsClean w words = left_fault w words ≡ []

-- the rows that the words come to
abbrev pub end_rows : Walk → List Text → List Row
end_rows w words = (settled lint_rules (end_held w words)).rows

-- one word, and then the rest
module _ (w after : Walk) (word : Text) (rest : List Text) (fault : Kinds)
    (fails : turn w word ≡ fault) (goes : onward w word ≡ after) where
  pub step_in : IsClean w (word ∷ rest) → (fault ≡ []) × IsClean after rest
  unfolding walk_fault
  step_in e =
      let outer = or_else_split (walk_fault lint_shape [] w (word ∷ rest))
      (end_fault (end_held w (word ∷ rest))) e in
      let inner = or_else_split (turn w word)
      (walk_fault lint_shape [] (onward w word) rest) outer.0 in (
        sym fails ∙ inner.0,
        subst (λ (x : Walk). IsClean x rest) goes
            (or_else_join (walk_fault lint_shape [] (onward w word) rest)
            (end_fault (end_held (onward w word) rest)) inner.1 outer.1),
      )

  pub step_out : fault ≡ [] → IsClean after rest → IsClean w (word ∷ rest)
  unfolding walk_fault
  step_out none e =
      let left = subst (λ (x : Walk). IsClean x rest) (sym goes) e in
      let parts = or_else_split (walk_fault lint_shape [] (onward w word) rest)
      (end_fault (end_held (onward w word) rest)) left in
      or_else_join (or_else (turn w word) (walk_fault lint_shape [] (onward w word) rest))
      (end_fault (end_held (onward w word) rest))
      (or_else_join (turn w word) (walk_fault lint_shape [] (onward w word) rest)
      (fails ∙ none) parts.0) parts.1

  pub step_rows : end_rows w (word ∷ rest) ≡ end_rows after rest
  step_rows = ap (λ (x : Walk). end_rows x rest) goes

-- ---- a word that is no option

no_subcommand : (waiting : Waiting) (word : Text) → subcommand_met [] waiting word ≡ None
no_subcommand idle word = refl
no_subcommand (option id) word = refl
no_subcommand positional word = refl

no_option_meets : (waiting : Waiting) (word : Text) (h : Held) → IsNoOption word
    → word_met lint_rules [] false waiting 1 word h ≡ plain_word lint_rules waiting word h
no_option_meets waiting word h is =
    ap (λ (o : Option Text). subcommand_or_other lint_rules o waiting 1 word h)
    (no_subcommand waiting word)
    ∙ ap (λ (b : Bool). cond b (h, walk.trailing 1)
    (long_or_other lint_rules waiting word (long_of word) h)) is.dashes
    ∙ ap (λ (o : Option (Text × Option Text)). long_or_other lint_rules waiting word o h) is.long
    ∙ ap (λ (o : Option Text). short_or_plain lint_rules waiting word o h) is.short

-- how a word fails that is no subcommand
abbrev pub own_fault : Text → Held → Kinds
own_fault word h = other_fault lint_shape None word h

pub fails_by_itself : (waiting : Waiting) (word : Text) (h : Held)
    → word_fault lint_shape [] false waiting word h ≡ own_fault word h
fails_by_itself waiting word h =
    ap (λ (o : Option Text). other_fault lint_shape o word h) (no_subcommand waiting word)

no_option_clean : (waiting : Waiting) (word : Text) (h : Held) → IsNoOption word
    → word_fault lint_shape [] false waiting word h ≡ []
no_option_clean waiting word h is = fails_by_itself waiting word h
    ∙ ap (λ (b : Bool). cond b [] (flag_word_fault lint_rules false (long_of word) word h)) is.dashes
    ∙ ap (λ (o : Option (Text × Option Text)). flag_word_fault lint_rules false o word h) is.long
    ∙ ap (λ (o : Option Text). option_map_or (λ t. bundle_fault lint_rules false t h) o []) is.short

-- where the walk stands behind a word that goes to the files
abbrev held_file : Bool → Text → Held → Walk
held_file is_trailing word h = record {
  held = pushed (codes "file") word h;
  waiting = positional;
  position = 1;
  is_trailing = is_trailing;
  stopped = None;
}

-- ---- a flag

module _ (rs : List Row) (p : Pending) where
  abbrev flag_fault : Text → Kinds
  flag_fault name = or_else (or_else (settle_in rs p) (use_in (set_rule name) [] (now rs p))) []

  abbrev flag_after : Text → Walk
  flag_after name = standing false (used (set_rule name) [] (now rs p)) None

  pub rows_turn : (b : Bool) → turn (standing b rs p) (codes "--rows") ≡ flag_fault (codes "rows")
  rows_turn false = refl
  rows_turn true = refl

  pub rows_goes : (b : Bool)
      → onward (standing b rs p) (codes "--rows") ≡ flag_after (codes "rows")
  unfolding walked
  rows_goes false = refl
  rows_goes true = refl

  pub help_turn : (b : Bool) → turn (standing b rs p) (codes "--help") ≡ flag_fault (codes "help")
  help_turn false = refl
  help_turn true = refl

  pub help_goes : (b : Bool)
      → onward (standing b rs p) (codes "--help") ≡ flag_after (codes "help")
  unfolding walked
  help_goes false = refl
  help_goes true = refl

  pub version_turn : (b : Bool)
      → turn (standing b rs p) (codes "--version") ≡ flag_fault (codes "version")
  version_turn false = refl
  version_turn true = refl

  pub version_goes : (b : Bool)
      → onward (standing b rs p) (codes "--version") ≡ flag_after (codes "version")
  unfolding walked
  version_goes false = refl
  version_goes true = refl

  -- ---- the name of an option, whose value comes next

  pub device_turn : (b : Bool)
      → turn (standing b rs p) (codes "--device") ≡ or_else (settle_in rs p) []
  device_turn false = refl
  device_turn true = refl

  pub device_goes : (b : Bool)
      → onward (standing b rs p) (codes "--device") ≡ awaiting device_rule (now rs p)
  unfolding walked
  device_goes false = refl
  device_goes true = refl

  pub format_turn : (b : Bool)
      → turn (standing b rs p) (codes "--format") ≡ or_else (settle_in rs p) []
  format_turn false = refl
  format_turn true = refl

  pub format_goes : (b : Bool)
      → onward (standing b rs p) (codes "--format") ≡ awaiting format_rule (now rs p)
  unfolding walked
  format_goes false = refl
  format_goes true = refl

  -- ---- an option with its value in the same word

  module _ (v : Text) where
    abbrev with_fault : Rule → Kinds
    with_fault a = or_else (or_else (settle_in rs p) (use_in a (v ∷ []) (now rs p))) []

    abbrev with_after : Rule → Walk
    with_after a = standing false (used a (v ∷ []) (now rs p)) None

    pub device_with_turn : (b : Bool)
        → turn (standing b rs p) (codes "--device=" ++ v) ≡ with_fault device_rule
    device_with_turn false = refl
    device_with_turn true = refl

    pub device_with_goes : (b : Bool)
        → onward (standing b rs p) (codes "--device=" ++ v) ≡ with_after device_rule
    unfolding walked
    device_with_goes false = refl
    device_with_goes true = refl

    pub format_with_turn : (b : Bool)
        → turn (standing b rs p) (codes "--format=" ++ v) ≡ with_fault format_rule
    format_with_turn false = refl
    format_with_turn true = refl

    pub format_with_goes : (b : Bool)
        → onward (standing b rs p) (codes "--format=" ++ v) ≡ with_after format_rule
    unfolding walked
    format_with_goes false = refl
    format_with_goes true = refl

  -- ---- `--`

  pub dashes_turn : (waiting : Waiting) → turn (at false waiting rs p) (codes "--") ≡ []
  dashes_turn idle = refl
  dashes_turn (option id) = refl
  dashes_turn positional = refl

  pub dashes_goes : (waiting : Waiting)
      → onward (at false waiting rs p) (codes "--") ≡ at true waiting rs p
  unfolding walked
  dashes_goes idle = refl
  dashes_goes (option id) = refl
  dashes_goes positional = refl

  -- ---- a word that goes to the files

  no_several : {X : Type 0} (b : Bool) (x y : X) → cond (b && false) x y ≡ y
  no_several false x y = refl
  no_several true x y = refl

  abbrev file_after : Bool → Text → Walk
  file_after is_trailing word =
      at is_trailing positional (now rs p) (given_value file_rule word)

  value_turn : step_fault lint_shape 1 (held rs p) value ≡ settle_in rs p
  value_turn = no_several (is_pending file_rule p) [] (settle_in rs p)

  value_goes : (is_trailing : Bool) (waiting : Waiting) (word : Text)
      → to_positional lint_rules (Some file_rule) word (at is_trailing waiting rs p) (held rs p)
      ≡ file_after is_trailing word
  value_goes false waiting word =
      ap (λ (h : Held). held_file false word h)
      (no_several (is_pending file_rule p) (held rs p) (settled lint_rules (held rs p)))
  value_goes true waiting word =
      ap (λ (h : Held). held_file true word h)
      (no_several (is_pending file_rule p) (held rs p) (settled lint_rules (held rs p)))

  -- behind `--` each word does
  pub behind_turn : (waiting : Waiting) (word : Text)
      → turn (at true waiting rs p) word ≡ settle_in rs p
  behind_turn waiting word = value_turn

  pub behind_goes : (waiting : Waiting) (word : Text)
      → onward (at true waiting rs p) word ≡ file_after true word
  unfolding walked
  behind_goes waiting word = value_goes true waiting word

  -- before it a word that is no option does
  module _ (word : Text) (is : IsNoOption word) where
    file_meets : (b : Bool)
        → word_met lint_rules [] false (between b) 1 word (held rs p) ≡ (held rs p, value)
    file_meets false = no_option_meets idle word (held rs p) is
    file_meets true = no_option_meets positional word (held rs p) is

    file_fails : (b : Bool) → word_fault lint_shape [] false (between b) word (held rs p) ≡ []
    file_fails b = no_option_clean (between b) word (held rs p) is

    pub file_turn : (b : Bool) → turn (standing b rs p) word ≡ settle_in rs p
    file_turn b =
        ap₂ (λ (k : Kinds) (m : Held × Step). or_else k (step_fault lint_shape 1 m.0 m.1))
        (file_fails b) (file_meets b) ∙ value_turn

    pub file_goes : (b : Bool) → onward (standing b rs p) word ≡ file_after false word
    unfolding walked
    file_goes b =
        ap (λ (m : Held × Step). after_step lint_rules word (standing b rs p) m.0 m.1)
        (file_meets b) ∙ value_goes false (between b) word

-- ---- the value of an option, in the next word

module _ (a : Rule) (rs : List Row) (word : Text) (is : IsNoOption word)
    (takes : plain_word lint_rules (option a.id) word (held rs (Some (a.id, [])))
    ≡ (held rs (given_value a word), walk.next idle)) where
  value_meets : word_met lint_rules [] false (option a.id) 1 word (held rs (Some (a.id, [])))
      ≡ (held rs (given_value a word), walk.next idle)
  value_meets = no_option_meets (option a.id) word (held rs (Some (a.id, []))) is ∙ takes

  taken_turn : turn (awaiting a rs) word ≡ []
  taken_turn =
      ap₂ (λ (k : Kinds) (m : Held × Step). or_else k (step_fault lint_shape 1 m.0 m.1))
      (no_option_clean (option a.id) word (held rs (Some (a.id, []))) is) value_meets

  taken_goes : onward (awaiting a rs) word ≡ standing false rs (given_value a word)
  unfolding walked
  taken_goes = ap (λ (m : Held × Step). after_step lint_rules word (awaiting a rs) m.0 m.1)
      value_meets

pub device_value_turn : (rs : List Row) (word : Text) → IsNoOption word
    → turn (awaiting device_rule rs) word ≡ []
device_value_turn rs word is = taken_turn device_rule rs word is refl

pub device_value_goes : (rs : List Row) (word : Text) → IsNoOption word
    → onward (awaiting device_rule rs) word ≡ standing false rs (given_value device_rule word)
device_value_goes rs word is = taken_goes device_rule rs word is refl

pub format_value_turn : (rs : List Row) (word : Text) → IsNoOption word
    → turn (awaiting format_rule rs) word ≡ []
format_value_turn rs word is = taken_turn format_rule rs word is refl

pub format_value_goes : (rs : List Row) (word : Text) → IsNoOption word
    → onward (awaiting format_rule rs) word ≡ standing false rs (given_value format_rule word)
format_value_goes rs word is = taken_goes format_rule rs word is refl
