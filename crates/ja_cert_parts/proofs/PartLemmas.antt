-- The parts of values: how they are told apart, and their order.
use Rattle.std.proofs.Common.{◌≡◌, ◌≢◌, ◌==◌, ◌||◌, ℕ, zero, suc, ◌+◌, ◌-◌, ◌≤◌, Bool, true, false, ◌&&◌, cond, nat_lt, List, [], ◌∷◌, ◌++◌, map, length, get_or, Option, Some, None, Result, Ok, refl, ap, sym, ◌∙◌, subst, arith}
use Rattle.std.specs.Prelude.{is_some, slice_get}
use Rattle.std.specs.List.{flat_map}
use Rattle.std.specs.Option.{option_map, option_map_or}
use Rattle.std.proofs.lemmas.Bool.{ltb-true, ne_eqb}
use Rattle.std.proofs.lemmas.Bool.Decides.{nat_tests}
use Rattle.std.proofs.lemmas.List.{length_push, length-map}
use Rattle.serde_json.specs.Data.{Data, string}
use Rattle.ja_base.proofs.Tests.{and_left_true, and_right_true}
use Rattle.ja_graph.specs.declared.program.Program.{Program}
use Rattle.ja_machine.proofs.Lists.{slice_get-append_end}
use Rattle.ja_texts.specs.Texts.{four_digits}
use Rattle.ja_abstract.specs.declared.abstraction.NumberPart.{NumberPart}
use Rattle.ja_abstract.specs.declared.abstraction.NumberPart.TheVariants as number_part
use Rattle.ja_abstract.specs.declared.abstraction.TextPart.{TextPart}
use Rattle.ja_abstract.specs.declared.abstraction.TextPart.TheVariants as text_part
use Rattle.ja_abstract.specs.AbstractState.{label_number}
use Rattle.ja_abstract.specs.Keys.{is_whole_text, whole_text}
use Rattle.ja_cert.specs.Certificate.{label_data, number_words, text_words}
use Rattle.ja_cert.specs.Wrong.{are_units, flag_words, here, here_unless, number_classes, text_classes, is_above, is_behind, is_label, is_less, members_wrong, part_number, part_rank, part_wrong, position, word_rank}
use Rattle.ja_cert_parts.specs.code.Parts.{AreFrom, first_word, flag_rank, flag_word, IsPart, may_follow, named_rank, part_data, rank_of, ReadsPart}
use Rattle.ja_cert_parts.specs.code.Reading.{Tells}
use Rattle.ja_cert_parts.specs.declared.fault.Fault.{Fault}
use Rattle.ja_cert_parts.specs.declared.parts.Flag.{Flag}
use Rattle.ja_cert_parts.specs.declared.parts.Flag.TheVariants as flag
use Rattle.ja_cert_parts.specs.declared.parts.Part.{Part}
use Rattle.ja_cert_parts.specs.declared.parts.Part.TheVariants as part
use Rattle.ja_cert_parts.proofs.FaultLemmas.{at_none, or_else_left, or_else_right, tells_if, tells_same, tells_unless, unless_none}
use Rattle.ja_cert_parts.proofs.WordLemmas.{position_is}

-- ---- a part with its place

read_as : (place : Option ℕ) (d : Data) (w : List ℕ) (k : ℕ) → place ≡ Some k → d ≡ string w
    → (here_unless (is_some place) ≡ None) × ((d ≡ string w) × (place ≡ Some k))
read_as place d w k is written =
    (ap (λ (o : Option ℕ). here_unless (is_some o)) is, (written, is))

-- ---- classes of numbers and of texts, and flags

named_by : (w : List ℕ) (number text flag : Option ℕ) → position number_classes w ≡ number
    → position text_classes w ≡ text → position flag_words w ≡ flag
    → named_rank w ≡ cond (is_some number) (Some 8) (cond (is_some text) (Some 9) flag)
unfolding named_rank
named_by w number text flag a b c =
    ap (λ (o : Option ℕ). cond (is_some o) (Some 8) (cond (is_some (position text_classes w))
    (Some 9) (position flag_words w))) a
    ∙ ap (λ (o : Option ℕ). cond (is_some number) (Some 8) (cond (is_some o) (Some 9)
    (position flag_words w))) b
    ∙ ap (λ (o : Option ℕ). cond (is_some number) (Some 8) (cond (is_some text) (Some 9) o)) c

pub named_number : (w : List ℕ) (n : ℕ) (x : NumberPart) → Some n ≡ position number_classes w
    → number_words x ≡ get_or number_classes n [] ∷ []
    → ReadsPart (named_rank w) (string w) (Ok (part.Number x))
named_number w n x at words =
    read_as (named_rank w) (part_data (part.Number x)) w 8
    (named_by w (Some n) (position text_classes w) (position flag_words w) (sym at) refl refl)
    (ap first_word words ∙ ap string (position_is number_classes w n (sym at)).1)

pub named_text : (w : List ℕ) (n : ℕ) (x : TextPart) → None ≡ position number_classes w
    → Some n ≡ position text_classes w → text_words x ≡ get_or text_classes n [] ∷ []
    → ReadsPart (named_rank w) (string w) (Ok (part.Text x))
named_text w n x none at words =
    read_as (named_rank w) (part_data (part.Text x)) w 9
    (named_by w None (Some n) (position flag_words w) (sym none) (sym at) refl)
    (ap first_word words ∙ ap string (position_is text_classes w n (sym at)).1)

pub named_flag : (w : List ℕ) (n : ℕ) (f : Flag) → None ≡ position number_classes w
    → None ≡ position text_classes w → Some n ≡ position flag_words w
    → flag_word f ≡ get_or flag_words n [] → flag_rank f ≡ n
    → ReadsPart (named_rank w) (string w) (Ok (part.Flag f))
named_flag w n f none nor at word rank =
    read_as (named_rank w) (part_data (part.Flag f)) w (flag_rank f)
    (named_by w None None (Some n) (sym none) (sym nor) (sym at)
    ∙ ap (λ (k : ℕ). Some k) (sym rank))
    (ap string (word ∙ (position_is flag_words w n (sym at)).1))

pub named_none : (w : List ℕ) (f : Fault) → None ≡ position number_classes w
    → None ≡ position text_classes w → None ≡ position flag_words w → Tells here f
    → Tells (here_unless (is_some (named_rank w))) f
named_none w f none nor never told =
    tells_unless (is_some (named_rank w)) f
    (ap (λ (o : Option ℕ). is_some o)
    (named_by w None None None (sym none) (sym nor) (sym never))) told

-- ---- words by their first byte

pub number_word : (w digits : List ℕ) → w ≡ 61 ∷ digits
    → word_rank w ≡ cond (is_whole_text digits) (Some 8) None
unfolding position
number_word w digits is = ap (λ (v : List ℕ). word_rank v) is

pub text_word : (w digits : List ℕ) → w ≡ 39 ∷ digits
    → word_rank w ≡ cond (are_units digits) (Some 9) None
unfolding position
text_word w digits is = ap (λ (v : List ℕ). word_rank v) is

-- a class of numbers or of texts begins with neither, and so does a flag
skipped : (known first rest : Bool) → first ≡ false → (known || (first && rest)) ≡ known
skipped true first rest other = refl
skipped false first rest other = ap (λ (b : Bool). b && rest) other

other_word : (c : ℕ) (rest : List ℕ) → c ≢ 61 → c ≢ 39
    → word_rank (c ∷ rest) ≡ named_rank (c ∷ rest)
unfolding named_rank
other_word c rest other more =
    let w : List ℕ = c ∷ rest in
    ap (λ (b : Bool). cond b (Some 8)
    (cond (is_some (position text_classes w) || ((c == 39) && are_units rest)) (Some 9)
    (position flag_words w)))
    (skipped (is_some (position number_classes w)) (c == 61) (is_whole_text rest)
    (ne_eqb c 61 other))
    ∙ ap (λ (b : Bool). cond (is_some (position number_classes w)) (Some 8)
    (cond b (Some 9) (position flag_words w)))
    (skipped (is_some (position text_classes w)) (c == 39) (are_units rest) (ne_eqb c 39 more))

-- what a word is that begins so
pub begins : (w seen rest : List ℕ) (c k : ℕ) → seen ≡ w → seen ≡ c ∷ rest → c ≡ k → w ≡ k ∷ rest
begins w seen rest c k same is first =
    sym same ∙ is ∙ ap (λ (n : ℕ). n ∷ rest) first

pub no_word : (w seen : List ℕ) (f : Fault) → seen ≡ w → length seen ≡ 0 → Tells here f
    → Tells (here_unless (is_some (word_rank w))) f
unfolding position
no_word [] seen f same none told = told
no_word (c ∷ w) seen f same none told = absurd (omega (arith, ap length same))

-- digits that are wrong
pub digits_told : (place : Option ℕ) (b : Bool) (k : ℕ) (f : Fault) → place ≡ cond b (Some k) None
    → Tells (here_unless b) f → Tells (here_unless (is_some place)) f
digits_told place true k f is told =
    tells_same None (here_unless (is_some place)) f
    (sym (ap (λ (o : Option ℕ). here_unless (is_some o)) is)) told
digits_told place false k f is told =
    tells_same here (here_unless (is_some place)) f
    (sym (ap (λ (o : Option ℕ). here_unless (is_some o)) is)) told

pub text_read : (w rest units : List ℕ) → w ≡ 39 ∷ rest → here_unless (are_units rest) ≡ None
    → flat_map four_digits units ≡ rest
    → ReadsPart (word_rank w) (string w) (Ok (part.Text (text_part.One units)))
text_read w rest units is right written =
    read_as (word_rank w) (part_data (part.Text (text_part.One units))) w 9
    (text_word w rest is
    ∙ ap (λ (b : Bool). cond b (Some 9) None) (unless_none (are_units rest) right))
    (ap (λ (ds : List ℕ). string (39 ∷ ds)) written ∙ ap string (sym is))

pub other_read : (w rest : List ℕ) (c : ℕ) (result : Result Part Fault) → w ≡ c ∷ rest → c ≢ 61
    → c ≢ 39 → ReadsPart (named_rank w) (string w) result
    → ReadsPart (word_rank w) (string w) result
other_read w rest c result is other more read =
    let P : Option ℕ → Type 0 = λ o. ReadsPart o (string w) result in
    subst P (ap named_rank is ∙ sym (other_word c rest other more)
    ∙ ap (λ (v : List ℕ). word_rank v) (sym is)) read

-- ---- ranks

-- a part of which the rank is known stands at its own place
known_if : (b : Bool) (n k : ℕ) → cond b (Some n) None ≡ Some k → k ≡ n
known_if true n k is = cc
known_if false n k is = absurd (cc)

rank_known : (p : Program) (x : Part) (k : ℕ) → part_rank p (part_data x) ≡ Some k
    → k ≡ rank_of x
unfolding position
rank_known p (part.Flag flag.Absent) k is = cc
rank_known p (part.Flag flag.Entry) k is = cc
rank_known p (part.Flag flag.Row) k is = cc
rank_known p (part.Flag flag.Undefined) k is = cc
rank_known p (part.Flag flag.Null) k is = cc
rank_known p (part.Flag flag.True) k is = cc
rank_known p (part.Flag flag.False) k is = cc
rank_known p (part.Flag flag.NaN) k is = cc
rank_known p (part.Number number_part.Nothing) k is = absurd (cc)
rank_known p (part.Number (number_part.One z)) k is =
    known_if (is_whole_text (whole_text z)) 8 k is
rank_known p (part.Number number_part.Index) k is = cc
rank_known p (part.Number number_part.OtherWhole) k is = cc
rank_known p (part.Number number_part.Whole) k is = cc
rank_known p (part.Text text_part.Nothing) k is = absurd (cc)
rank_known p (part.Text (text_part.One t)) k is =
    known_if (are_units (flat_map four_digits t)) 9 k is
rank_known p (part.Text text_part.IndexText) k is = cc
rank_known p (part.Text text_part.OtherText) k is = cc
rank_known p (part.Text text_part.Text) k is = cc
rank_known p (part.Label l) k is =
    known_if (is_label p (label_data l)) (10 + label_number l) k is

-- ---- a part of which nothing is wrong

allowed_some : (allowed : ℕ → Bool) (o : Option ℕ) → option_map_or allowed o false ≡ true
    → (k : ℕ) × (o ≡ Some k)
allowed_some allowed None is = absurd (cc)
allowed_some allowed (Some k) is = (k, refl)

right_part : (p : Program) (allowed : ℕ → Bool) (before : List Data) (x : Part)
    → part_wrong p allowed before (part_data x) ≡ None → IsPart p x
unfolding part_wrong
right_part p allowed before x right =
    let allows : Bool = option_map_or allowed (part_rank p (part_data x)) false in
    let above : Bool = is_above (part_number p) before (part_data x) in
    let some = allowed_some allowed (part_rank p (part_data x))
    (and_left_true allows above (unless_none (allows && above) right)) in
    some.1 ∙ ap (λ (n : ℕ). Some n) (rank_known p x some.0 some.1)

numbered : (p : Program) (x : Part) → IsPart p x
    → part_number p (part_data x) ≡ rank_of x ∷ []
numbered p x is = ap (λ (o : Option ℕ). option_map_or (λ (n : ℕ). n ∷ []) o []) is

less_one : (a b : ℕ) → is_less (a ∷ []) (b ∷ []) ≡ nat_lt a b
less_one a b = grind (arith, nat_tests)

right_above : (p : Program) (allowed : ℕ → Bool) (before : List Data) (b x : Part) → IsPart p b
    → part_wrong p allowed (before ++ part_data b ∷ []) (part_data x) ≡ None
    → suc (rank_of b) ≤ rank_of x
unfolding part_wrong
right_above p allowed before b x first right =
    let all : List Data = before ++ part_data b ∷ [] in
    let allows : Bool = option_map_or allowed (part_rank p (part_data x)) false in
    let above : Bool = is_above (part_number p) all (part_data x) in
    let last : length all - 1 ≡ length before = omega (arith, length_push before (part_data b)) in
    let number : slice_get all (length all - 1) ≡ Some (part_data b) =
    slice_get-append_end before (part_data b) [] (length all - 1) last in
    let is : above ≡ nat_lt (rank_of b) (rank_of x) =
    ap (λ (o : Option Data). is_behind (option_map (part_number p) o)
    (part_number p (part_data x))) number
    ∙ ap (λ (ns : List ℕ). is_less ns (part_number p (part_data x))) (numbered p b first)
    ∙ ap (is_less (rank_of b ∷ [])) (numbered p x (right_part p allowed all x right))
    ∙ less_one (rank_of b) (rank_of x) in
    ltb-true (rank_of b) (rank_of x)
    (sym is ∙ and_right_true allows above (unless_none (allows && above) right))

-- ---- parts of which nothing is wrong

abbrev pub wrong_in : Program → (ℕ → Bool) → List Data → List Part → Type 0
wrong_in p allowed before xs =
    members_wrong (part_wrong p allowed) before (map part_data xs) ≡ None

right_behind : (p : Program) (allowed : ℕ → Bool) (before : List Data) (b : Part)
    (xs : List Part) → IsPart p b → wrong_in p allowed (before ++ part_data b ∷ []) xs
    → AreFrom p (suc (rank_of b)) xs
unfolding AreFrom members_wrong
right_behind p allowed before b [] first right = tt
right_behind p allowed before b (x ∷ xs) first right =
    let here : part_wrong p allowed (before ++ part_data b ∷ []) (part_data x) ≡ None =
    at_none _ _ (or_else_left _ _ right) in
    let is : IsPart p x = right_part p allowed (before ++ part_data b ∷ []) x here in (
      right_above p allowed before b x first here,
      is,
      right_behind p allowed (before ++ part_data b ∷ []) x xs is (or_else_right _ _ right),
    )

pub right_parts : (p : Program) (allowed : ℕ → Bool) (xs : List Part) → wrong_in p allowed [] xs
    → AreFrom p 0 xs
unfolding AreFrom members_wrong
right_parts p allowed [] right = tt
right_parts p allowed (x ∷ xs) right =
    let here : part_wrong p allowed [] (part_data x) ≡ None =
    at_none _ _ (or_else_left _ _ right) in
    let is : IsPart p x = right_part p allowed [] x here in
    (omega arith, is, right_behind p allowed [] x xs is (or_else_right _ _ right))

-- ---- one part more

number_in : (p : Program) (k : ℕ) (xs : List Part) (i : ℕ) → AreFrom p k xs
    → option_map (part_number p) (slice_get (map part_data xs) i)
    ≡ option_map (λ (x : Part). rank_of x ∷ []) (slice_get xs i)
unfolding AreFrom
number_in p k [] i from = refl
number_in p k (x ∷ xs) zero from = ap (λ (ns : List ℕ). Some ns) (numbered p x from.1)
number_in p k (x ∷ xs) (suc i) from = number_in p (suc (rank_of x)) xs i from.2

pub wrong_next : (p : Program) (allowed : ℕ → Bool) (xs : List Part) (d : Data) (r k : ℕ) (b : Bool)
    → wrong_in p allowed [] xs → part_rank p d ≡ Some r → k ≡ r → b ≡ may_follow allowed xs k
    → here_unless b ≡ part_wrong p allowed (map part_data xs) d
unfolding part_wrong
wrong_next p allowed xs d r k b right rank same is =
    ap here_unless (is ∙ ap (may_follow allowed xs) same
    ∙ ap (λ (o : Option (List ℕ)). allowed r && is_behind o (r ∷ []))
    (sym (ap (λ (n : ℕ). option_map (part_number p) (slice_get (map part_data xs) (n - 1)))
    (length-map xs part_data)
    ∙ number_in p 0 xs (length xs - 1) (right_parts p allowed xs right)))
    ∙ ap (λ (o : Option ℕ). option_map_or allowed o false
    && is_behind (option_map (part_number p) (slice_get (map part_data xs)
    (length (map part_data xs) - 1))) (option_map_or (λ (n : ℕ). n ∷ []) o [])) (sym rank))

pub told_next : (p : Program) (allowed : ℕ → Bool) (before : List Data) (d : Data) (f : Fault)
    → Tells (here_unless (is_some (part_rank p d))) f → Tells (part_wrong p allowed before d) f
unfolding part_wrong
told_next p allowed before d f told = no_rank (part_rank p d) told
  where
    no_rank : (o : Option ℕ) → Tells (here_unless (is_some o)) f
        → Tells (here_unless (option_map_or allowed o false && is_above (part_number p) before d)) f
    no_rank None told = told
    no_rank (Some k) told =
        tells_if (Some k)
        (λ (n : ℕ). here_unless (allowed n && is_above (part_number p) before d)) f told
