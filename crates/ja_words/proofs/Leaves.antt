-- How clap reads the words of a command that has no subcommands and no positionals, and whose
-- options are long ones with at most one value: as uses of its options, one after another.
use Rattle.std.proofs.Common.{◌≡◌, ◌⊎◌, ◌∙◌, ℕ, Bool, true, false, cond}
use Rattle.std.proofs.Common.{List, [], ◌∷◌, length, Option, Some, None, is_some, refl}
use Rattle.std.proofs.Common.{sym, ap, ap₂, subst, inl, inr, fold, nat_lt}
use Rattle.std.specs.Prelude.{drop, encode_utf8, slice_get}
use Rattle.std.specs.Option.{option_map_or}
use Rattle.std.specs.Str.{bytes_eq, chars}
use Rattle.std.proofs.lemmas.Slice.Eq.{bytes_eq-Decides}
use Rattle.clap.specs.Lexer.{long_of, short_of}
use Rattle.clap.specs.Facts.{unwrap_or_range}
use Rattle.clap.specs.Walk.{Held, Names, Outcome, Row, Rule, Step, Text, Waiting, Walk, after_flag}
use Rattle.clap.specs.Walk.{action_of, after_step, arg_by_id, arg_by_index, arg_by_long}
use Rattle.clap.specs.Walk.{arg_by_short, bundle}
use Rattle.clap.specs.Walk.{bundle_met, finished, flag_met, idle, long_met, long_or_other}
use Rattle.clap.specs.Walk.{most_values}
use Rattle.clap.specs.Walk.{nothing_held, option, option_met, option_word, pending_count, plain}
use Rattle.clap.specs.Walk.{plain_word, settled, settled_rows, short_or_plain, subcommand_met}
use Rattle.clap.specs.Walk.{subcommand_or_other, takes_values, used, used_by_id, value, walked}
use Rattle.clap.specs.Walk.{values_or_missing, with_default, word_met}
use Rattle.clap.specs.Walk as walk
use Rattle.clap.specs.Simple.{Shape}
use Rattle.clap.specs.Kinds.{Kinds, or_else, range_kinds}
use Rattle.clap.specs.Faults.{bundle_fault, bundle_step_fault, check_fault, defaults_fault}
use Rattle.clap.specs.Faults.{flag_word_fault, flags_fault, long_fault, option_fault, other_fault}
use Rattle.clap.specs.Faults.{positional_fault, react_fault, settle_fault, short_fault, step_fault}
use Rattle.clap.specs.Faults.{stray_fault}
use Rattle.clap.specs.Faults.{action_fault, turn_fault, use_fault, walk_fault, word_fault}
use Rattle.clap.specs.declared.builder.range.ValueRange.{ValueRange}
use Rattle.clap.specs.declared.error.kind.ErrorKind.TheVariants as kind
use Rattle.clap.proofs.WalkLemmas.{bundle_ends, walked_is}
use Rattle.ja_base.proofs.Tests.{or_left_false, or_right_false}
use Rattle.ja_words.specs.code.Apps.{has_dashes, is_dashes}
use Rattle.ja_words.proofs.NoFaults.{or_else_join, or_else_split}
use Rattle.ja_words.proofs.Lexed.{IsNoOption, long_is, long_word}

-- ---- such commands

pub record IsNamed (c : List Rule) (a : Rule) : Type 0 where
  pub by_id : arg_by_id c a.id ≡ Some a
  pub one : takes_values a ≡ true
      → a.range ≡ Some (record { start_inclusive = 1; end_inclusive = 1 })

pub record IsPlainLeaf (s : Shape) : Type 0 where
  pub no_short : (x : ℕ) → arg_by_short s.rules x ≡ None
  pub no_index : arg_by_index s.rules 1 ≡ None
  pub named : (name : Text) (a : Rule) → arg_by_long s.rules name ≡ Some a → IsNamed s.rules a

-- ---- the faults of a command's options

abbrev pub use_in : Shape → Rule → List Text → List Row → Kinds
use_in s = use_fault s.args_override_self

abbrev settle_in : Shape → Held → Kinds
settle_in s = settle_fault s.rules s.args_override_self

abbrev react_in : Shape → Rule → List Text → Held → Kinds
react_in s = react_fault s.rules s.args_override_self

abbrev option_in : Shape → Rule → Option Text → Held → Kinds
option_in s = option_fault s.rules s.args_override_self

abbrev long_in : Shape → Option Rule → Option Text → Held → Kinds
long_in s = long_fault s.rules s.args_override_self

abbrev short_in : Shape → Option Rule → Text → Held → (Held → Kinds) → Kinds
short_in s = short_fault s.rules s.args_override_self

abbrev flags_in : Shape → ℕ → Text → ℕ → Held → Kinds
flags_in s = flags_fault s.rules s.args_override_self

abbrev bundle_step_in : Shape → Option ℕ → Text → ℕ → Held → (Text → ℕ → Held → Kinds) → Kinds
bundle_step_in s = bundle_step_fault s.rules s.args_override_self

abbrev bundle_in : Shape → Text → Held → Kinds
bundle_in s = bundle_fault s.rules s.args_override_self

abbrev flag_word_in : Shape → Option (Text × Option Text) → Text → Held → Kinds
flag_word_in s = flag_word_fault s.rules s.args_override_self

abbrev positional_in : Shape → Rule → Held → Kinds
positional_in s = positional_fault s.rules s.args_override_self

-- ---- uses

-- a use of an option: its name, the option, and its value where it takes one
abbrev pub Use : Type 0
Use = Text × Rule × Option Text

abbrev pub values : Option Text → List Text
values None = []
values (Some v) = v ∷ []

-- the words begin with a use, and this is the rest
abbrev pub Stands : Text → Option Text → List Text → List Text → Type 0
Stands name None words rest = words ≡ long_word name None ∷ rest
Stands name (Some v) words rest = (words ≡ long_word name None ∷ v ∷ rest)
    ⊎ (words ≡ long_word name (Some v) ∷ rest)

-- the words are these uses
abbrev pub AreUses : List Rule → List Use → List Text → Type 0
AreUses c [] words = words ≡ []
AreUses c (u ∷ us) words = (rest : List Text) × (arg_by_long c u.0 ≡ Some u.1)
    × (takes_values u.1 ≡ is_some u.2) × Stands u.0 u.2 words rest × AreUses c us rest

-- how the uses fail, from these rows on
abbrev pub uses_fault : Shape → List Row → List Use → Kinds
uses_fault s rows [] = or_else (defaults_fault rows s.rules)
    (check_fault s (fold with_default rows s.rules) false)
uses_fault s rows (u ∷ us) = or_else (use_in s u.1 (values u.2) rows)
    (uses_fault s (used u.1 (values u.2) rows) us)

-- the rows behind the uses
abbrev pub uses_rows : List Row → List Use → List Row
uses_rows rows [] = rows
uses_rows rows (u ∷ us) = uses_rows (used u.1 (values u.2) rows) us

-- ---- the walk

abbrev pub held : List Row → Option (Text × List Text) → Held
held rows pending = record { rows = rows; pending = pending; skip = 0 }

abbrev pub standing : Waiting → Held → Walk
standing waiting h = record {
  held = h;
  waiting = waiting;
  position = 1;
  is_trailing = false;
  stopped = None;
}

-- nothing waits, or an option for its value
abbrev pub idle_at : List Row → Option (Text × List Text) → Walk
idle_at rows pending = standing idle (held rows pending)

abbrev pub awaiting : Rule → List Row → Walk
awaiting a rows = standing (option a.id) (held rows (Some (a.id, [])))

abbrev pub end_fault : Shape → Held → Kinds
end_fault s h = or_else (settle_in s h)
    (or_else (defaults_fault (settled s.rules h).rows s.rules)
    (check_fault s (finished s.rules h) false))

abbrev pub end_held : Shape → Walk → List Text → Held
end_held s w words = (fold (walked s.rules []) w words).held

-- how the words that are left fail
abbrev pub left_fault : Shape → Walk → List Text → Kinds
left_fault s w words = or_else (walk_fault s [] w words) (end_fault s (end_held s w words))

pub left_more : (s : Shape) (w : Walk) (word : Text) (rest : List Text)
    → left_fault s w (word ∷ rest) ≡ []
    → (turn_fault s [] w word ≡ []) × (left_fault s (walked s.rules [] w word) rest ≡ [])
unfolding walk_fault
left_more s w word rest e =
    let outer = or_else_split (walk_fault s [] w (word ∷ rest))
    (end_fault s (end_held s w (word ∷ rest))) e in
    let inner = or_else_split (turn_fault s [] w word)
    (walk_fault s [] (walked s.rules [] w word) rest) outer.0 in (
      inner.0,
      or_else_join (walk_fault s [] (walked s.rules [] w word) rest)
          (end_fault s (end_held s (walked s.rules [] w word) rest)) inner.1 outer.1,
    )

-- what is pending is used, and the words that are left
pub record Reads (s : Shape) (w : Walk) (words : List Text) (rows : List Row) : Type 0 where
  pub uses : List Use
  pub words_are : AreUses s.rules uses words
  pub clean : uses_fault s rows uses ≡ []
  pub last : (settled s.rules (end_held s w words)).rows ≡ uses_rows rows uses

-- what a word was, before which nothing waited: a use of an option, or its name, whose value comes
-- next
pub data Turned (s : Shape) (rows : List Row) (word : Text) (after : Walk) : Type 0 where
  is_use : (name : Text) (a : Rule) (v : Option Text) → arg_by_long s.rules name ≡ Some a
      → takes_values a ≡ is_some v → word ≡ long_word name v
      → use_in s a (values v) rows ≡ []
      → after ≡ standing idle (held (used a (values v) rows) None) → Turned s rows word after
  is_name : (name : Text) (a : Rule) → arg_by_long s.rules name ≡ Some a → takes_values a ≡ true
      → word ≡ long_word name None
      → after ≡ awaiting a rows → Turned s rows word after

abbrev stepped : Shape → Waiting → Text → Held → Held × Step → Walk
stepped s waiting word h m = after_step s.rules word (standing waiting h) m.0 m.1

is_stepped : (s : Shape) (names : Names) (waiting : Waiting) (word : Text) (h : Held)
    (m : Held × Step)
    → word_met s.rules names false waiting 1 word h ≡ m
    → walked s.rules names (standing waiting h) word ≡ stepped s waiting word h m
is_stepped s names waiting word h m e =
    sym (walked_is s.rules names (standing waiting h) word m.0 m.1 (sym e))

stray_fails : (s : Shape) → stray_fault s ≡ [] → ⊥
stray_fails s = go s.is_leaf
  where
    go : (b : Bool) → cond b (kind.UnknownArgument ∷ [])
        (kind.UnknownArgument ∷ kind.InvalidSubcommand ∷ []) ≡ [] → ⊥
    go true e = cc e
    go false e = cc e

-- what a word is, by how it is lexed, where it names no subcommand and isn't `--`
module _ (s : Shape) (names : Names) (waiting : Waiting) (word : Text) (h : Held)
    (none : subcommand_met names waiting word ≡ None) (dashes : is_dashes word ≡ false) where
  long_fails : (p : Text × Option Text) → long_of word ≡ Some p
      → word_fault s names false waiting word h ≡ long_in s (arg_by_long s.rules p.0) p.1 h
  long_fails p long =
      ap (λ (o : Option Text). other_fault s o word h) none
      ∙ ap (λ (b : Bool). cond b [] (flag_word_in s (long_of word) word h)) dashes
      ∙ ap (λ (o : Option (Text × Option Text)). flag_word_in s o word h) long

  other_fails : (o : Option Text) → long_of word ≡ None → short_of word ≡ o
      → word_fault s names false waiting word h ≡ option_map_or (λ t. bundle_in s t h) o []
  other_fails o long short =
      ap (λ (x : Option Text). other_fault s x word h) none
      ∙ ap (λ (b : Bool). cond b [] (flag_word_in s (long_of word) word h)) dashes
      ∙ ap (λ (x : Option (Text × Option Text)). flag_word_in s x word h) long
      ∙ ap (λ (x : Option Text). option_map_or (λ t. bundle_in s t h) x []) short

  long_meets : (p : Text × Option Text) → long_of word ≡ Some p
      → word_met s.rules names false waiting 1 word h
      ≡ walk.long_word s.rules waiting word p.0 p.1 h
  long_meets p long =
      ap (λ (o : Option Text). subcommand_or_other s.rules o waiting 1 word h) none
      ∙ ap (λ (b : Bool). cond b (h, walk.trailing 1)
      (long_or_other s.rules waiting word (long_of word) h)) dashes
      ∙ ap (λ (o : Option (Text × Option Text)). long_or_other s.rules waiting word o h) long

  other_meets : (o : Option Text) → long_of word ≡ None → short_of word ≡ o
      → word_met s.rules names false waiting 1 word h ≡ short_or_plain s.rules waiting word o h
  other_meets o long short =
      ap (λ (x : Option Text). subcommand_or_other s.rules x waiting 1 word h) none
      ∙ ap (λ (b : Bool). cond b (h, walk.trailing 1)
      (long_or_other s.rules waiting word (long_of word) h)) dashes
      ∙ ap (λ (x : Option (Text × Option Text)). long_or_other s.rules waiting word x h) long
      ∙ ap (λ (x : Option Text). short_or_plain s.rules waiting word x h) short

abbrev uses_at : Shape → Rule → Option Text → List Row → Kinds
uses_at s a v rows = use_in s a (values v) rows

abbrev settles_at : Shape → List Row → Option (Text × List Text) → Kinds
settles_at s rows p = settle_in s (held rows p)

-- ---- a word before which nothing waits

module _ (s : Shape) (rows : List Row) (p : Option (Text × List Text)) (word : Text) where
  -- by the option that its name names, and whether that takes a value
  by_rule : (name : Text) (a : Rule) (t : Bool) (v : Option Text)
      → arg_by_long s.rules name ≡ Some a
      → takes_values a ≡ t → word ≡ long_word name v
      → cond t (option_in s a v (held rows p))
      (cond (is_some v) (kind.TooManyValues ∷ []) (react_in s a [] (held rows p))) ≡ []
      → (after : Walk)
      → after ≡ stepped s idle word (held rows p) (after_flag s.rules idle word
      (cond t (option_met s.rules a v (held rows p)) (flag_met s.rules a v (held rows p))).0
      (cond t (option_met s.rules a v (held rows p)) (flag_met s.rules a v (held rows p))).1)
      → (settles_at s rows p ≡ []) × Turned s (settled_rows s.rules p rows) word after
  by_rule name a true (Some v) found takes is e after eq =
      let parts = or_else_split (settles_at s rows p)
      (uses_at s a (Some v) (settled_rows s.rules p rows)) e in
      (parts.0, is_use name a (Some v) found takes is parts.1 eq)
  by_rule name a true None found takes is e after eq = (e, is_name name a found takes is eq)
  by_rule name a false (Some v) found takes is e after eq = absurd (cc e)
  by_rule name a false None found takes is e after eq =
      let parts = or_else_split (settles_at s rows p)
      (uses_at s a None (settled_rows s.rules p rows)) e in
      (parts.0, is_use name a None found takes is parts.1 eq)

  by_long : (q : Text × Option Text) (o : Option Rule) → arg_by_long s.rules q.0 ≡ o
      → word ≡ long_word q.0 q.1
      → long_in s o q.1 (held rows p) ≡ []
      → (after : Walk)
      → after ≡ stepped s idle word (held rows p) (after_flag s.rules idle word
      (long_met s.rules o q.1 (held rows p)).0 (long_met s.rules o q.1 (held rows p)).1)
      → (settles_at s rows p ≡ []) × Turned s (settled_rows s.rules p rows) word after
  by_long q None found is e after eq = absurd (cc e)
  by_long q (Some a) found is e after eq =
      by_rule q.0 a (takes_values a) q.1 found refl is e after eq

module _ (s : Shape) (leaf : IsPlainLeaf s) where
  no_flag : (x : ℕ) (xs : Text) (rows : List Row) (p : Option (Text × List Text)) (y : ℕ)
      → bundle_step_in s (Some y) (x ∷ xs) 0 (held rows p) (flags_in s (length xs)) ≡ [] → ⊥
  no_flag x xs rows p y e =
      let unknown = subst (λ (o : Option Rule). short_in s o
      (drop (length (encode_utf8 y)) (x ∷ xs)) (held rows p)
      (flags_in s (length xs) (drop (length (encode_utf8 y)) (x ∷ xs)) 0) ≡ [])
      (leaf.no_short y) e in
      cc unknown

  -- no word of short options is taken, so one that doesn't fail is none
  bundle_plain : (text : Text) (rows : List Row) (p : Option (Text × List Text))
      → bundle_in s text (held rows p) ≡ []
      → bundle s.rules text (held rows p) ≡ (held rows p, plain)
  unfolding bundle_met flags_fault
  bundle_plain [] rows p e = refl
  bundle_plain (x ∷ xs) rows p e = go (slice_get (chars (x ∷ xs)) 0) refl
    where
      go : (o : Option ℕ) → slice_get (chars (x ∷ xs)) 0 ≡ o
          → bundle s.rules (x ∷ xs) (held rows p) ≡ (held rows p, plain)
      go None is = sym (bundle_ends s.rules (length (x ∷ xs)) (x ∷ xs) 0 plain (held rows p)
          (sym is))
      go (Some y) is = absurd (no_flag x xs rows p y (subst (λ (o : Option ℕ).
          bundle_step_in s o (x ∷ xs) 0 (held rows p) (flags_in s (length xs)) ≡ []) is e))

  module _ (names : Names) (rows : List Row) (p : Option (Text × List Text)) (word : Text)
      (none : subcommand_met names idle word ≡ None) (dashes : is_dashes word ≡ false)
      (e : turn_fault s names (idle_at rows p) word ≡ []) where
    abbrev idle_met : Held × Step
    idle_met = word_met s.rules names false idle 1 word (held rows p)

    idle_parts : (word_fault s names false idle word (held rows p) ≡ [])
        × (step_fault s 1 idle_met.0 idle_met.1 ≡ [])
    idle_parts = or_else_split (word_fault s names false idle word (held rows p))
        (step_fault s 1 idle_met.0 idle_met.1) e

    no_value : idle_met ≡ (held rows p, value) → ⊥
    no_value meets =
        let strays = subst (λ (m : Held × Step). step_fault s 1 m.0 m.1 ≡ []) meets idle_parts.1 in
        stray_fails s (subst (λ (o : Option Rule). option_map_or
        (λ a. positional_in s a (held rows p)) o (stray_fault s) ≡ []) leaf.no_index strays)

    no_other : (o : Option Text) → long_of word ≡ None → short_of word ≡ o → ⊥
    no_other None long short =
        no_value (other_meets s names idle word (held rows p) none dashes None long short)
    no_other (Some text) long short =
        let clean = sym (other_fails s names idle word (held rows p) none dashes
        (Some text) long short) ∙ idle_parts.0 in
        no_value (other_meets s names idle word (held rows p) none dashes (Some text) long short
        ∙ ap (λ (m : Held × Outcome). after_flag s.rules idle word m.0 m.1)
        (bundle_plain text rows p clean))

    pub idle_turn : (settles_at s rows p ≡ [])
        × Turned s (settled_rows s.rules p rows) word (walked s.rules names (idle_at rows p) word)
    idle_turn = go (long_of word) refl
      where
        go : (o : Option (Text × Option Text)) → long_of word ≡ o
            → (settles_at s rows p ≡ [])
            × Turned s (settled_rows s.rules p rows) word
            (walked s.rules names (idle_at rows p) word)
        go None long = absurd (no_other (short_of word) long refl)
        go (Some q) long = by_long s rows p word q (arg_by_long s.rules q.0) refl
            (long_is word q long)
            (sym (long_fails s names idle word (held rows p) none dashes q long) ∙ idle_parts.0)
            (walked s.rules names (idle_at rows p) word)
            (is_stepped s names idle word (held rows p) _
            (long_meets s names idle word (held rows p) none dashes q long))

  -- ---- a word where an option waits for its value

  module _ (a : Rule) (named : IsNamed s.rules a) (takes : takes_values a ≡ true)
      (rows : List Row) where
    abbrev waiting_held : Held
    waiting_held = held rows (Some (a.id, []))

    abbrev use_of : Option Rule → List Text → Kinds
    use_of o vs = option_map_or (λ b. use_in s b vs rows) o []

    -- without its value it fails
    waits_fails : settle_in s waiting_held ≡ [] → ⊥
    waits_fails e =
        let used_none = subst (λ (o : Option Rule). use_of o [] ≡ []) named.by_id e in
        let none = subst (λ (r : Option ValueRange). or_else
        (range_kinds (unwrap_or_range r).start_inclusive (unwrap_or_range r).end_inclusive 0)
        (action_fault (action_of a) s.args_override_self a (values_or_missing a []) rows) ≡ [])
        (named.one takes) used_none in
        cc none

    no_rule : (v : Option Text) (o : Option Rule) → long_in s o v waiting_held ≡ [] → ⊥
    no_rule v None e = cc e
    no_rule v (Some b) e = go (takes_values b) v e
      where
        go : (t : Bool) (v : Option Text) → cond t (option_in s b v waiting_held)
            (cond (is_some v) (kind.TooManyValues ∷ []) (react_in s b [] waiting_held)) ≡ [] → ⊥
        go true (Some x) e = waits_fails
            (or_else_split (settle_in s waiting_held)
            (use_in s b (x ∷ []) (settled s.rules waiting_held).rows) e).0
        go true None e = waits_fails e
        go false (Some x) e = cc e
        go false None e = waits_fails
            (or_else_split (settle_in s waiting_held)
            (use_in s b [] (settled s.rules waiting_held).rows) e).0

    abbrev given : Text → Held
    given word = held rows (Some (a.id, word ∷ []))

    same_id : bytes_eq a.id a.id ≡ true
    same_id = (bytes_eq-Decides a.id a.id).1 refl

    -- the word becomes the value
    takes_word : (word : Text)
        → plain_word s.rules (option a.id) word waiting_held ≡ (given word, walk.next idle)
    takes_word word =
        ap (λ (o : Option Rule). (
          (option_word o a.id word waiting_held).0,
          walk.next
              (option_word o a.id word waiting_held).1,
        )) named.by_id
        ∙ ap₂ (λ (b : Bool) (r : Option ValueRange). (
          given word,
          walk.next (cond (nat_lt (cond b 1 0) (unwrap_or_range r).end_inclusive)
              (option a.id) idle),
        )) same_id (named.one takes)

    -- a word that is no option is taken as the value
    value_meets : (word : Text) → IsNoOption word
        → word_met s.rules [] false (option a.id) 1 word waiting_held ≡ (given word, walk.next idle)
    value_meets word is = other_meets s []
        (option a.id) word waiting_held refl is.dashes None is.long is.short ∙ takes_word word

    value_turns : (word : Text) → IsNoOption word → turn_fault s [] (awaiting a rows) word ≡ []
    value_turns word is = or_else_join (word_fault s [] false (option a.id) word waiting_held)
        (step_fault s 1 (word_met s.rules [] false (option a.id) 1 word waiting_held).0
        (word_met s.rules [] false (option a.id) 1 word waiting_held).1)
        (other_fails s [] (option a.id) word waiting_held refl is.dashes None is.long is.short)
        (ap (λ (m : Held × Step). step_fault s 1 m.0 m.1) (value_meets word is))

    value_walks : (word : Text) → IsNoOption word
        → walked s.rules [] (awaiting a rows) word ≡ standing idle (given word)
    value_walks word is = is_stepped s [] (option a.id) word waiting_held
        (given word, walk.next idle) (value_meets word is)

    pub value_left : (word : Text) (rest : List Text) → IsNoOption word
        → left_fault s (awaiting a rows) (word ∷ rest) ≡ left_fault s
        (standing idle (given word)) rest
    unfolding walk_fault
    value_left word rest is =
        ap₂ (λ (k : Kinds) (w : Walk). or_else (or_else k (walk_fault s [] w rest))
        (end_fault s (end_held s w rest)))
        (value_turns word is) (value_walks word is)

    pub value_held : (word : Text) (rest : List Text) → IsNoOption word
        → end_held s (awaiting a rows) (word ∷ rest) ≡ end_held s (standing idle (given word)) rest
    value_held word rest is = ap (λ (w : Walk). end_held s w rest) (value_walks word is)

    module _ (word : Text) (dashes : is_dashes word ≡ false)
        (e : turn_fault s [] (awaiting a rows) word ≡ []) where
      word_clean : word_fault s [] false (option a.id) word waiting_held ≡ []
      word_clean = (or_else_split (word_fault s [] false (option a.id) word waiting_held)
          (step_fault s 1 (word_met s.rules [] false (option a.id) 1 word waiting_held).0
          (word_met s.rules [] false (option a.id) 1 word waiting_held).1) e).0

      meets_value : (o : Option Text) → long_of word ≡ None → short_of word ≡ o
          → word_met s.rules [] false (option a.id) 1 word waiting_held ≡
          (given word, walk.next idle)
      meets_value None long short =
          other_meets s [] (option a.id) word waiting_held refl dashes None long short
          ∙ takes_word word
      meets_value (Some text) long short =
          let clean = sym (other_fails s [] (option a.id) word waiting_held refl dashes
          (Some text) long short) ∙ word_clean in
          other_meets s [] (option a.id) word waiting_held refl dashes (Some text) long short
          ∙ ap (λ (m : Held × Outcome). after_flag s.rules (option a.id) word m.0 m.1)
          (bundle_plain text rows (Some (a.id, [])) clean)
          ∙ takes_word word

      waiting_turn : walked s.rules [] (awaiting a rows) word ≡ standing idle (given word)
      waiting_turn = go (long_of word) refl
        where
          go : (o : Option (Text × Option Text)) → long_of word ≡ o
              → walked s.rules [] (awaiting a rows) word ≡ standing idle (given word)
          go None long = is_stepped s [] (option a.id) word waiting_held
              (given word, walk.next idle) (meets_value (short_of word) long refl)
          go (Some q) long = absurd (no_rule q.1 (arg_by_long s.rules q.0)
              (sym (long_fails s [] (option a.id) word waiting_held refl dashes q long)
              ∙ word_clean))

  -- ---- all words

  abbrev Idle : List Text → Type 0
  Idle words = (rows : List Row) (p : Option (Text × List Text))
      → left_fault s (idle_at rows p) words ≡ []
      → (settles_at s rows p ≡ []) × Reads s (idle_at rows p) words (settled_rows s.rules p rows)

  abbrev Waits : List Text → Type 0
  Waits words = (name : Text) (a : Rule) (rows : List Row) → arg_by_long s.rules name ≡ Some a
      → takes_values a ≡ true → left_fault s (awaiting a rows) words ≡ []
      → (v : Text) × (rest : List Text) × (us : List Use) × (words ≡ v ∷ rest)
      × AreUses s.rules us rest
      × (uses_fault s rows ((name, a, Some v) ∷ us) ≡ [])
      × ((settled s.rules (end_held s (awaiting a rows) words)).rows ≡ uses_rows rows
      ((name, a, Some v) ∷ us))

  idle_end : Idle []
  unfolding walk_fault
  idle_end rows p e =
      let parts = or_else_split (settles_at s rows p)
      (uses_fault s (settled_rows s.rules p rows) []) e in
      (parts.0, record { uses = []; words_are = refl; clean = parts.1; last = refl })

  waits_end : Waits []
  unfolding walk_fault
  waits_end name a rows found takes e =
      let parts = or_else_split (settles_at s rows (Some (a.id, [])))
      (uses_fault s (settled_rows s.rules (Some (a.id, [])) rows) []) e in
      absurd (waits_fails a (leaf.named name a found) takes rows parts.0)

  stands : (name : Text) (v : Option Text) (word : Text) (rest : List Text)
      → word ≡ long_word name v
      → Stands name v (word ∷ rest) rest
  stands name None word rest is = ap (λ (w : Text). w ∷ rest) is
  stands name (Some v) word rest is = inr (ap (λ (w : Text). w ∷ rest) is)

  module _ (word : Text) (rest : List Text) (ih : Idle rest × Waits rest) where
    idle_by : (rows : List Row) (p : Option (Text × List Text)) → settles_at s rows p ≡ []
        → left_fault s (walked s.rules [] (idle_at rows p) word) rest ≡ []
        → Turned s (settled_rows s.rules p rows) word (walked s.rules [] (idle_at rows p) word)
        → (settles_at s rows p ≡ [])
        × Reads s (idle_at rows p) (word ∷ rest) (settled_rows s.rules p rows)
    idle_by rows p settles left (is_use name a v found takes is clean after) =
        let more = ih.0 (used a (values v) (settled_rows s.rules p rows)) None
        (subst (λ (w : Walk). left_fault s w rest ≡ []) after left) in (
          settles,
          record {
            uses = (name, a, v) ∷ more.1.uses;
            words_are = (rest, found, takes, stands name v word rest is, more.1.words_are);
            clean = or_else_join (uses_at s a v (settled_rows s.rules p rows))
                (uses_fault s (used a (values v) (settled_rows s.rules p rows)) more.1.uses) clean
                more.1.clean;
            last = ap (λ (w : Walk). (settled s.rules (end_held s w rest)).rows) after
                ∙ more.1.last;
          },
        )
    idle_by rows p settles left (is_name name a found takes is after) =
        let more = ih.1 name a (settled_rows s.rules p rows) found takes
        (subst (λ (w : Walk). left_fault s w rest ≡ []) after left) in (
          settles,
          record {
            uses = (name, a, Some more.0) ∷ more.2;
            words_are = (
              more.1,
              found,
              takes,
              inl
                  (ap (λ (w : Text). w ∷ rest) is
                  ∙ ap (λ (ws : List Text). long_word name None ∷ ws) more.3),
              more.4,
            );
            clean = more.5;
            last = ap (λ (w : Walk). (settled s.rules (end_held s w rest)).rows) after ∙ more.6;
          },
        )

    idle_more : is_dashes word ≡ false → Idle (word ∷ rest)
    idle_more dashes rows p e =
        let parts = left_more s (idle_at rows p) word rest e in
        let turned = idle_turn [] rows p word refl dashes parts.0 in
        idle_by rows p turned.0 parts.1 turned.1

    waits_more : is_dashes word ≡ false → Waits (word ∷ rest)
    waits_more dashes name a rows found takes e =
        let named = leaf.named name a found in
        let parts = left_more s (awaiting a rows) word rest e in
        let after = waiting_turn a named takes rows word dashes parts.0 in
        let more = ih.0 rows (Some (a.id, word ∷ []))
        (subst (λ (w : Walk). left_fault s w rest ≡ []) after parts.1) in
        let clean = subst (λ (o : Option Rule). option_map_or
        (λ b. use_in s b (word ∷ []) rows) o [] ≡ []) named.by_id more.0 in
        let same = ap (λ (o : Option Rule). used_by_id o (word ∷ []) rows) named.by_id in (
          word,
          rest,
          more.1.uses,
          refl,
          more.1.words_are,
          or_else_join (uses_at s a (Some word) rows)
              (uses_fault s (used a (word ∷ []) rows) more.1.uses) clean
              (subst (λ (r : List Row). uses_fault s r more.1.uses ≡ []) same more.1.clean),
          ap (λ (w : Walk). (settled s.rules (end_held s w rest)).rows) after ∙ more.1.last
              ∙ ap (λ (r : List Row). uses_rows r more.1.uses) same,
        )

  -- what clap reads without a fault are uses of its options
  both : (words : List Text) → has_dashes words ≡ false → Idle words × Waits words
  both [] none = (idle_end, waits_end)
  both (word ∷ rest) none =
      let ih = both rest (or_right_false (is_dashes word) (has_dashes rest) none) in
      let dashes = or_left_false (is_dashes word) (has_dashes rest) none in
      (idle_more word rest ih dashes, waits_more word rest ih dashes)

  pub leaf_reads : (words : List Text) → has_dashes words ≡ false
      → left_fault s (standing idle nothing_held) words ≡ []
      → Reads s (standing idle nothing_held) words []
  leaf_reads words none e = ((both words none).0 [] None e).1
