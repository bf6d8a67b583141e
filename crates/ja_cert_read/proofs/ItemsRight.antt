-- Visits that are read.
use Rattle.std.specs.Prelude.{◌≡◌, ◌<◌, ◌==◌, ℕ, zero, suc, Bool, List, [], ◌∷◌, length, get_or, map, is_some, Option, Some, None}
use Rattle.std.specs.Option.{option_map_or}
use Rattle.std.proofs.Common.{refl, sym, ap, arith, ◌∙◌}
use Rattle.std.proofs.lemmas.Bool.{cond-false, ne_eqb}
use lib.Chars.{codes}
use Rattle.serde_json.specs.Data.{Data, string}
use Rattle.ja_cert_json.specs.View.{view}
use Rattle.ja_cert_json.specs.declared.value.Json.{Json}
use Rattle.ja_base.specs.declared.ids.Context.{Context}
use Rattle.ja_base.specs.declared.ids.NodeId.{NodeId}
use Rattle.ja_graph.specs.declared.program.Program.{Program}
use Rattle.ja_rows.specs.declared.table.Edge.{Edge}
use Rattle.ja_rows.specs.declared.table.Item.{Item}
use Rattle.ja_rows.specs.declared.table.Item.TheVariants.{Open, Step, Fill, Back}
use Rattle.ja_cert_parts.specs.declared.fault.Fault.{Fault}
use Rattle.ja_cert.specs.Certificate.{edge_data, item_data, label_data, listed, whole}
use Rattle.ja_cert.specs.Wrong.{Path, along_wrong, at, behind_word_wrong, edge_shape_wrong, first_of, here, here_unless, is_function, is_label, is_node, item_fields_wrong, item_words, item_wrong, list_of, open_wrong, position_of, step_wrong}
use Rattle.ja_cert_read.specs.code.Items.{item_word}
use Rattle.ja_cert_parts.specs.code.Reading.{Tells}
use Rattle.ja_cert_read.proofs.Told.{all_right, tells_after, tells_found, tells_missing, tells_same}
use Rattle.ja_cert_parts.proofs.WordLemmas.{word_is}
use Rattle.ja_cert_parts.proofs.FaultLemmas.{tells_any}

-- ---- a step

other_count : (p : Program) (ds : List Data) → (length ds ≡ 3 → ⊥) → step_wrong p ds ≡ here
unfolding step_wrong
other_count p [] other = refl
other_count p (f ∷ []) other = refl
other_count p (f ∷ r ∷ []) other = refl
other_count p (f ∷ r ∷ n ∷ []) other = absurd (other (omega arith))
other_count p (f ∷ r ∷ n ∷ d ∷ ds) other = refl

pub step_told_count : (p : Program) (ds : List Data) (e : Fault) → (length ds ≡ 3 → ⊥)
    → Tells here e → Tells (step_wrong p ds) e
step_told_count p ds e other told =
    tells_same (step_wrong p ds) here e (other_count p ds other) told

module _ (p : Program) (ds : List Data) {f r n : Data} (is : ds ≡ f ∷ r ∷ n ∷ []) where
  abbrev function_wrong : Option Path
  function_wrong = at 1 (here_unless (is_function p f))

  abbrev receiver_wrong : Option Path
  receiver_wrong = at 2 (here_unless (is_label p r))

  abbrev node_wrong : Option Path
  node_wrong = at 3 (here_unless (is_node p f n))

  step_is : step_wrong p ds ≡ first_of (function_wrong ∷ receiver_wrong ∷ node_wrong ∷ [])
  unfolding step_wrong
  step_is = ap (step_wrong p) is

  pub step_told_function : (e : Fault) → Tells function_wrong e → Tells (step_wrong p ds) e
  step_told_function e told =
      tells_same _ _ e step_is
      (tells_after [] function_wrong (receiver_wrong ∷ node_wrong ∷ []) e tt told)

  pub step_told_receiver : (e : Fault) → function_wrong ≡ None → Tells receiver_wrong e
      → Tells (step_wrong p ds) e
  step_told_receiver e a told =
      tells_same _ _ e step_is (tells_after (function_wrong ∷ []) receiver_wrong (node_wrong ∷ []) e
      (a, tt) told)

  pub step_told_node : (e : Fault) → function_wrong ≡ None → receiver_wrong ≡ None
      → Tells node_wrong e → Tells (step_wrong p ds) e
  step_told_node e a b told =
      tells_same _ _ e step_is (tells_after (function_wrong ∷ receiver_wrong ∷ []) node_wrong [] e
      (a, (b, tt)) told)

  pub step_right : function_wrong ≡ None → receiver_wrong ≡ None → node_wrong ≡ None
      → step_wrong p ds ≡ None
  step_right a b c =
      step_is ∙ all_right (function_wrong ∷ receiver_wrong ∷ node_wrong ∷ []) (a, (b, (c, tt)))

-- ---- a visit along an edge

no_edge : (p : Program) (ds : List Data) → (length ds ≡ 1 → ⊥) → along_wrong p ds ≡ here
unfolding along_wrong
no_edge p [] other = refl
no_edge p (d ∷ []) other = absurd (other (omega arith))
no_edge p (d ∷ e ∷ ds) other = refl

pub along_told_count : (p : Program) (ds : List Data) (e : Fault) → (length ds ≡ 1 → ⊥)
    → Tells here e → Tells (along_wrong p ds) e
along_told_count p ds e other told = tells_same (along_wrong p ds) here e (no_edge p ds other) told

pub along_is : (p : Program) (ds : List Data) (d : Data) → ds ≡ d ∷ []
    → along_wrong p ds ≡ at 1 (edge_shape_wrong p d)
unfolding along_wrong
along_is p ds d is = ap (along_wrong p) is

-- ---- behind a word

pub behind_open : (p : Program) (n : ℕ) (ds : List Data) → n ≡ 0
    → behind_word_wrong p (Some n) ds ≡ open_wrong ds
unfolding behind_word_wrong
behind_open p n ds is = ap (λ m. behind_word_wrong p (Some m) ds) is

pub behind_step : (p : Program) (n : ℕ) (ds : List Data) → n ≡ 1
    → behind_word_wrong p (Some n) ds ≡ step_wrong p ds
unfolding behind_word_wrong
behind_step p n ds is = ap (λ m. behind_word_wrong p (Some m) ds) is

pub behind_along : (p : Program) (n : ℕ) (ds : List Data) → (n ≡ 0 → ⊥) → (n ≡ 1 → ⊥)
    → behind_word_wrong p (Some n) ds ≡ along_wrong p ds
unfolding behind_word_wrong
behind_along p zero ds a b = absurd (a refl)
behind_along p (suc zero) ds a b = absurd (b refl)
behind_along p (suc (suc n)) ds a b = refl

pub open_is : (vs : List Json) (b : Bool) → b ≡ (length vs == 0)
    → open_wrong (map view vs) ≡ here_unless b
open_is [] b is = ap here_unless (sym is)
open_is (v ∷ vs) b is =
    ap here_unless (sym (is ∙ ne_eqb (length (v ∷ vs)) 0 (λ none. omega (arith, none))))

pub none_there : (ds : List Data) → open_wrong ds ≡ None → ds ≡ []
none_there [] h = refl
none_there (d ∷ ds) h = absurd (cc)

-- ---- as it is written

module _ (place : ℕ) (ds : List Data) where
  pub open_written : place ≡ 0 → ds ≡ [] → item_data Open ≡ listed (string (item_word place) ∷ ds)
  unfolding item_data
  open_written is none =
      ap (λ (es : List Data). listed (string (codes "open") ∷ es)) (sym none)
      ∙ ap (λ n. listed (string (item_word n) ∷ ds)) (sym is)

  pub step_written : (x : Context) (n : NodeId) → place ≡ 1
      → whole x.function.0 ∷ label_data x.receiver ∷ whole n.0 ∷ [] ≡ ds
      → item_data (Step x n) ≡ listed (string (item_word place) ∷ ds)
  unfolding item_data
  step_written x n is read =
      ap (λ (es : List Data). listed (string (codes "step") ∷ es)) read
      ∙ ap (λ m. listed (string (item_word m) ∷ ds)) (sym is)

  pub fill_written : (e : Edge) → place ≡ 2 → edge_data e ∷ [] ≡ ds
      → item_data (Fill e) ≡ listed (string (item_word place) ∷ ds)
  unfolding item_data
  fill_written e is read =
      ap (λ (es : List Data). listed (string (codes "fill") ∷ es)) read
      ∙ ap (λ m. listed (string (item_word m) ∷ ds)) (sym is)

  last_word : (place ≡ 0 → ⊥) → (place ≡ 1 → ⊥) → (place ≡ 2 → ⊥) → item_word place ≡ codes "back"
  last_word a b c =
      cond-false (place == 0) _ _ (ne_eqb place 0 a)
      ∙ cond-false (place == 1) _ _ (ne_eqb place 1 b)
      ∙ cond-false (place == 2) _ _ (ne_eqb place 2 c)

  pub back_written : (e : Edge) → (place ≡ 0 → ⊥) → (place ≡ 1 → ⊥) → (place ≡ 2 → ⊥)
      → edge_data e ∷ [] ≡ ds → item_data (Back e) ≡ listed (string (item_word place) ∷ ds)
  unfolding item_data
  back_written e a b c read =
      ap (λ (es : List Data). listed (string (codes "back") ∷ es)) read
      ∙ ap (λ w. listed (string w ∷ ds)) (sym (last_word a b c))

-- ---- the word

word_of_item : (n : ℕ) → n < 4 → item_word n ≡ get_or item_words n []
word_of_item zero low = refl
word_of_item (suc zero) low = refl
word_of_item (suc (suc zero)) low = refl
word_of_item (suc (suc (suc zero))) low = refl
word_of_item (suc (suc (suc (suc n)))) low = absurd (omega arith)

item_word_is : (d : Data) (n : ℕ) → position_of item_words d ≡ Some n → string (item_word n) ≡ d
item_word_is d n h =
    let word = word_is item_words d n h in ap string (word_of_item n word.0) ∙ word.1

-- ---- the whole

pub item_told_list : (p : Program) (before : List Data) (d : Data) (e : Fault)
    → Tells (here_unless (is_some (list_of d))) e → Tells (item_wrong p before d) e
unfolding item_wrong
item_told_list p before d e told = tells_missing (list_of d) (item_fields_wrong p) e told

pub item_told_empty : (p : Program) (before : List Data) (d : Data) (vs : List Json) (e : Fault)
    → list_of d ≡ Some (map view vs) → length vs ≡ 0 → Tells here e
    → Tells (item_wrong p before d) e
unfolding item_wrong
item_told_empty p before d [] e found none told =
    tells_found (list_of d) [] (item_fields_wrong p) e found told
item_told_empty p before d (v ∷ vs) e found none told = absurd (omega (arith, none))

-- no visit begins with this word
no_word : (p : Program) (ds : List Data) (o : Option ℕ) (e : Fault)
    → Tells (at 0 (here_unless (is_some o))) e → Tells (behind_word_wrong p o ds) e
unfolding behind_word_wrong
no_word p ds None e told = told
no_word p ds (Some n) e told = tells_any (behind_word_wrong p (Some n) ds) e told

module _ (p : Program) (before : List Data) (d : Data) {word : Data} {ds : List Data}
    (found : list_of d ≡ Some (word ∷ ds)) where
  item_is : item_wrong p before d ≡ behind_word_wrong p (position_of item_words word) ds
  unfolding item_wrong
  item_is = ap (λ o. option_map_or (item_fields_wrong p) o here) found

  pub item_told_word : (e : Fault)
      → Tells (at 0 (here_unless (is_some (position_of item_words word)))) e
      → Tells (item_wrong p before d) e
  item_told_word e told = tells_same (item_wrong p before d) _ e item_is
      (no_word p ds (position_of item_words word) e told)

  pub behind_is : (n : ℕ) → position_of item_words word ≡ Some n
      → item_wrong p before d ≡ behind_word_wrong p (Some n) ds
  behind_is n at_place = item_is ∙ ap (λ o. behind_word_wrong p o ds) at_place

pub item_written : (i : Item) (d word : Data) (ds : List Data) (n : ℕ)
    → listed (word ∷ ds) ≡ d → position_of item_words word ≡ Some n
    → item_data i ≡ listed (string (item_word n) ∷ ds) → item_data i ≡ d
item_written i d word ds n is at_place written =
    written ∙ ap (λ (w : Data). listed (w ∷ ds)) (item_word_is word n at_place) ∙ is
