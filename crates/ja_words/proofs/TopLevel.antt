-- What clap makes of the first word: it names a command, whose options the other words are.
use Rattle.std.proofs.Common.{◌≡◌, ◌||◌, ◌∙◌, ◌++◌, Bool, true, false, cond, List, [], ◌∷◌}
use Rattle.std.proofs.Common.{Option, Some, None, option_map, refl, sym, ap, ap₂, subst, fold}
use Rattle.std.proofs.Common.{codes}
use Rattle.std.proofs.Common.{find, is_some}
use Rattle.std.specs.Str.{bytes_eq}
use Rattle.std.proofs.lemmas.Slice.Eq.{bytes_eq-Decides}
use Rattle.clap.specs.Walk.{Names, Row, Text, Walk, answers_to, finished, idle}
use Rattle.clap.specs.Walk.{nothing_held, rows_after, settled, subcommand_met, walk, walked}
use Rattle.clap.specs.Simple.{App, Shape, built, entered, label_of, names_of, subcommand_of}
use Rattle.clap.specs.Kinds.{Kinds, or_else}
use Rattle.clap.specs.Faults.{check_fault, defaults_fault, entered_fault, fault_of, settle_fault}
use Rattle.clap.specs.Faults.{turn_fault, walk_fault}
use Rattle.clap.proofs.OnLiterals.{clap_on_literals}
use Rattle.clap.proofs.WalkLemmas.{walk_stopped}
use Rattle.ja_words.specs.code.Apps.{is_dashes, tajs_app}
use Rattle.ja_words.proofs.NoFaults.{or_else_join, or_else_split}
use Rattle.ja_words.proofs.Leaves.{IsPlainLeaf, Turned, idle_turn, is_name, is_use, left_fault}
use Rattle.ja_words.proofs.Leaves.{standing}
use Rattle.ja_words.proofs.Options.{analyse_leaf, check_leaf, generate_leaf, run_leaf}

abbrev pub app : App
app = built tajs_app

abbrev pub names : Names
names = names_of app

abbrev pub start : Walk
start = standing idle nothing_held

-- ---- the words behind a word that names a command are left to it

abbrev stopped_at : Text → List Text → Walk
stopped_at name words = record start { stopped = Some (name, words) }

stopped_clean : (name : Text) (seen words : List Text)
    → walk_fault app.top names (stopped_at name seen) words ≡ []
unfolding walk_fault walked
stopped_clean name seen [] = refl
stopped_clean name seen (word ∷ rest) = stopped_clean name (seen ++ (word ∷ [])) rest

abbrev top_fault : Kinds → Walk → Kinds
top_fault first w = or_else first (or_else (entered_fault app w.stopped)
    (or_else (settle_fault app.top.rules app.top.args_override_self w.held)
    (or_else (defaults_fault (settled app.top.rules w.held).rows app.top.rules)
    (check_fault app.top (finished app.top.rules w.held) (is_some (entered app w.stopped))))))

module _ (name : Text) (leaf : Shape) (is : leaf.name ≡ name)
    (found : find (λ s. answers_to name (label_of s)) app.subs ≡ Some leaf)
    (met : walked app.top.rules names start name ≡ stopped_at name [])
    (turn : turn_fault app.top names start name ≡ []) (rest : List Text) where
  walk_is : walk app.top.rules names nothing_held (name ∷ rest) ≡ stopped_at name rest
  walk_is = ap (λ (w : Walk). fold (walked app.top.rules names) w rest) met
      ∙ sym (walk_stopped app.top.rules names start name [] rest)

  walk_clean : walk_fault app.top names start (name ∷ rest) ≡ []
  unfolding walk_fault
  walk_clean = or_else_join (turn_fault app.top names start name)
      (walk_fault app.top names (walked app.top.rules names start name) rest) turn
      (subst (λ (w : Walk). walk_fault app.top names w rest ≡ []) (sym met)
      (stopped_clean name [] rest))

  fault_is : fault_of tajs_app (name ∷ rest) ≡ top_fault [] (stopped_at name rest)
  fault_is = ap₂ top_fault walk_clean walk_is

  entered_is : entered app (Some (name, rest)) ≡ Some (name, rows_after leaf.rules [] rest)
  entered_is = ap (λ (o : Option Shape). option_map
      (λ (s : Shape). (s.name, rows_after s.rules [] rest)) o) found
      ∙ ap (λ (n : Text). Some (n, rows_after leaf.rules [] rest)) is

  subcommand_is : subcommand_of tajs_app (name ∷ rest) ≡ Some (name, rows_after leaf.rules [] rest)
  subcommand_is = ap (λ (w : Walk). entered app w.stopped) walk_is ∙ entered_is

-- the words behind the name of a command are read as its options
pub record Enters (name : Text) (leaf : Shape) (rest : List Text) : Type 0 where
  pub fault : fault_of tajs_app (name ∷ rest) ≡ or_else (left_fault leaf start rest) []
  pub subcommand : subcommand_of tajs_app (name ∷ rest) ≡ Some (name, rows_after leaf.rules [] rest)

pub enters_analyse : (rest : List Text) → Enters (codes "analyse") analyse_leaf rest
unfolding clap_on_literals
enters_analyse rest = record {
  fault = fault_is (codes "analyse") analyse_leaf refl refl refl refl rest;
  subcommand = subcommand_is (codes "analyse") analyse_leaf refl refl refl refl rest;
}

pub enters_check : (rest : List Text) → Enters (codes "check") check_leaf rest
unfolding clap_on_literals
enters_check rest = record {
  fault = fault_is (codes "check") check_leaf refl refl refl refl rest;
  subcommand = subcommand_is (codes "check") check_leaf refl refl refl refl rest;
}

pub enters_run : (rest : List Text) → Enters (codes "run") run_leaf rest
unfolding clap_on_literals
enters_run rest = record {
  fault = fault_is (codes "run") run_leaf refl refl refl refl rest;
  subcommand = subcommand_is (codes "run") run_leaf refl refl refl refl rest;
}

pub enters_generate : (rest : List Text) → Enters (codes "generate") generate_leaf rest
unfolding clap_on_literals
enters_generate rest = record {
  fault = fault_is (codes "generate") generate_leaf refl refl refl refl rest;
  subcommand = subcommand_is (codes "generate") generate_leaf refl refl refl refl rest;
}

-- ---- which command a word names

pub data Which (word : Text) : Type 0 where
  analyse : word ≡ codes "analyse" → Which word
  check : word ≡ codes "check" → Which word
  run : word ≡ codes "run" → Which word
  generate : word ≡ codes "generate" → Which word
  other : subcommand_met names idle word ≡ None → Which word

abbrev met_by : Bool → Bool → Bool → Bool → Option Text
met_by a b c d = option_map (λ (s : Text × List Text). s.0)
    (cond (a || false) (Some (codes "analyse", []))
    (cond (b || false) (Some (codes "check", []))
    (cond (c || false) (Some (codes "run", []))
    (cond (d || false) (Some (codes "generate", [])) None))))

same_text : (a b : Text) → bytes_eq a b ≡ true → b ≡ a
same_text a b e = sym ((bytes_eq-Decides a b).0 e)

pub which : (word : Text) → Which word
which word = go (bytes_eq (codes "analyse") word) (bytes_eq (codes "check") word)
    (bytes_eq (codes "run") word) (bytes_eq (codes "generate") word) refl refl refl refl
  where
    go : (a b c d : Bool) → bytes_eq (codes "analyse") word ≡ a → bytes_eq (codes "check") word ≡ b
        → bytes_eq (codes "run") word ≡ c → bytes_eq (codes "generate") word ≡ d → Which word
    go true b c d is_a is_b is_c is_d = analyse (same_text (codes "analyse") word is_a)
    go false true c d is_a is_b is_c is_d = check (same_text (codes "check") word is_b)
    go false false true d is_a is_b is_c is_d = run (same_text (codes "run") word is_c)
    go false false false true is_a is_b is_c is_d =
        generate (same_text (codes "generate") word is_d)
    go false false false false is_a is_b is_c is_d =
        other (λ i. met_by (is_a i) (is_b i) (is_c i) (is_d i))

top_is_plain : IsPlainLeaf app.top
top_is_plain = record { no_short = λ x. refl; no_index = refl; named = λ name a e. absurd (cc e) }

no_turn : (rows : List Row) (word : Text) (after : Walk) → Turned app.top rows word after → ⊥
no_turn rows word after (is_use name a v found takes is clean after_is) = cc found
no_turn rows word after (is_name name a found takes is after_is) = cc found

-- a word that names no command fails
pub other_fails : (word : Text) (rest : List Text) → is_dashes word ≡ false
    → subcommand_met names idle word ≡ None → fault_of tajs_app (word ∷ rest) ≡ [] → ⊥
unfolding walk_fault
other_fails word rest dashes none e =
    let w = walk app.top.rules names nothing_held (word ∷ rest) in
    let first = walk_fault app.top names start (word ∷ rest) in
    let clean = or_else_split first (top_fault [] w) e in
    let turn = or_else_split (turn_fault app.top names start word)
    (walk_fault app.top names (walked app.top.rules names start word) rest) clean.0 in
    no_turn [] word (walked app.top.rules names start word)
    (idle_turn app.top top_is_plain names [] None word none dashes turn.0).1
