-- Values that are written the same say the same.
use Rattle.std.proofs.Common.{◌≡◌, ◌<◌, ◌+◌, ◌*◌, ◌/◌, ◌%◌, ◌^◌, ◌==◌, ℕ, Bool, true, false, ◌&&◌, ◌||◌, cond, List, [], ◌∷◌, ◌++◌, map, filter, length, get_or, drop, refl, sym, ap, subst, ◌∙◌, arith}
use Rattle.std.specs.Prelude.{ℤ, IsTrue}
use Rattle.std.specs.Fmt.{digit_glyph}
use Rattle.std.specs.Int.Signed.{mag}
use Rattle.std.specs.List.{flat_map, list_all, list_any}
use Rattle.std.proofs.lemmas.Bool.{and_parts, false≢true, ltb-true}
use Rattle.std.proofs.lemmas.Bool.Decides.{nat_tests}
use Rattle.std.proofs.lemmas.Fmt.{signed_decimal_injective}
use Rattle.std.proofs.lemmas.List.Elements.{filter-append}
use Rattle.std.proofs.lemmas.List.Folds.{list_any-append}
use lib.Chars.{codes}
use Rattle.serde_json.specs.Data.{Data, null, boolean, number, string, array, object, unsigned, negative, float, Num}
use Rattle.ja_base.specs.declared.ids.Label.{Label}
use Rattle.ja_prim.specs.Texts.{same_text}
use Rattle.ja_graph.specs.declared.program.Program.{Program}
use Rattle.ja_texts.specs.Texts.{four_digits}
use Rattle.ja_abstract.specs.declared.abstraction.Flags.{Flags}
use Rattle.ja_abstract.specs.declared.abstraction.NumberPart.{NumberPart}
use Rattle.ja_abstract.specs.declared.abstraction.NumberPart.TheVariants as number_part
use Rattle.ja_abstract.specs.declared.abstraction.TextPart.{TextPart}
use Rattle.ja_abstract.specs.declared.abstraction.TextPart.TheVariants as text_part
use Rattle.ja_abstract.specs.AbstractValue.{AbstractValue, Labels}
use Rattle.ja_abstract.specs.AbstractState.{is_label, label_number, labels_of}
use Rattle.ja_prim.specs.declared.primitive.Num.TheVariants.{Whole}
use Rattle.ja_prim.proofs.ReadingBack.{read_back}
use Rattle.ja_abstract.proofs.Texts.{same_text_refl}
use Rattle.ja_abstract.specs.Keys.{is_whole_text, is_written_so, whole_text}
use Rattle.ja_abstract.specs.Lists.{Member}
use Rattle.ja_table.proofs.Ascending.{from_filter, member-filter}
use Rattle.ja_report.specs.Texts.{part, property_parts, value_labels}
use Rattle.ja_cert.specs.Certificate.{flag_words, label_data, number_words, text_words, value_data}
use Rattle.ja_cert_laws.proofs.Members.{list_same}
use Rattle.ja_abstract.specs.Profile.{is_unit, IsNumberOfProfile, IsTextOfProfile, IsValueOfProfile}
use Rattle.ja_cert_parts.proofs.WholeLemmas.{whole_text_small}
use Rattle.ja_cert_read.proofs.Pairs.{label_listed}
use Rattle.ja_cert_read.specs.Said.{said_value}
use Rattle.ja_cert_parts.proofs.ValueLemmas.{or_none}
use Rattle.ja_cert_parts.proofs.UnitLemmas.{and_false}
use Rattle.ja_table.proofs.Places.{label_tells}

-- ---- words and numbers among data

abbrev pub word_in : Data → List (List ℕ)
word_in null = []
word_in (boolean b) = []
word_in (number n) = []
word_in (string w) = w ∷ []
word_in (array ds) = []
word_in (object ms) = []

abbrev number_of : Num → List ℕ
number_of (unsigned n) = n ∷ []
number_of (negative z) = []
number_of (float x) = []

abbrev number_in : Data → List ℕ
number_in null = []
number_in (boolean b) = []
number_in (number n) = number_of n
number_in (string w) = []
number_in (array ds) = []
number_in (object ms) = []

words_are : (ws : List (List ℕ)) (ls : List Label)
    → flat_map word_in (map string ws ++ map label_data ls) ≡ ws
words_are [] [] = refl
words_are [] (l ∷ ls) = words_are [] ls
words_are (w ∷ ws) ls = ap (λ vs. w ∷ vs) (words_are ws ls)

numbers_are : (ws : List (List ℕ)) (ls : List Label)
    → flat_map number_in (map string ws ++ map label_data ls) ≡ map label_number ls
numbers_are [] [] = refl
numbers_are [] (l ∷ ls) = ap (λ ns. label_number l ∷ ns) (numbers_are [] ls)
numbers_are (w ∷ ws) ls = numbers_are ws ls

-- ---- tests of words: of the classes, and of what begins like a number or a text

abbrev Test : Type 0
Test = List ℕ → Bool

record Ignores (test : Test) : Type 0 where
  one : (w : List ℕ) → test (61 ∷ w) ≡ false
  index : test (codes "index") ≡ false
  other_whole : test (codes "otherwhole") ≡ false
  whole : test (codes "whole") ≡ false
  text : (w : List ℕ) → test (39 ∷ w) ≡ false
  index_text : test (codes "indextext") ≡ false
  other_text : test (codes "othertext") ≡ false
  any_text : test (codes "text") ≡ false

first_only : (b : Bool) → b ≡ false → (b || false) ≡ false
first_only true h = h
first_only false h = refl

no_number : (test : Test) → Ignores test → (n : NumberPart)
    → list_any test (number_words n) ≡ false
no_number test h number_part.Nothing = refl
no_number test h (number_part.One z) = first_only _ (h.one _)
no_number test h number_part.Index = first_only _ h.index
no_number test h number_part.OtherWhole = first_only _ h.other_whole
no_number test h number_part.Whole = first_only _ h.whole

no_text : (test : Test) → Ignores test → (t : TextPart) → list_any test (text_words t) ≡ false
no_text test h text_part.Nothing = refl
no_text test h (text_part.One t) = first_only _ (h.text _)
no_text test h text_part.IndexText = first_only _ h.index_text
no_text test h text_part.OtherText = first_only _ h.other_text
no_text test h text_part.Text = first_only _ h.any_text

-- ---- flags

pub any_part : (test : Test) (b : Bool) (w : List ℕ)
    → list_any test (part b w) ≡ (b && (test w || false))
any_part test true w = refl
any_part test false w = refl

pub and_yes : (b : Bool) → (b && true) ≡ b
and_yes true = refl
and_yes false = refl

-- the flags of which a test is passed by the word
any_flag : (test : Test) (f : Flags) → list_any test (flag_words f)
    ≡ ((((((((f.absent && (test (codes "absent") || false))
    || (f.entry && (test (codes "entry") || false)))
    || (f.row && (test (codes "row") || false)))
    || (f.undefined && (test (codes "undefined") || false)))
    || (f.null && (test (codes "null") || false)))
    || (f.is_true && (test (codes "true") || false)))
    || (f.is_false && (test (codes "false") || false)))
    || (f.nan && (test (codes "nan") || false)))
unfolding property_parts
any_flag test f = simp (list_any-append, any_part)

any_word : (test : Test) → Ignores test → (f : Flags) (n : NumberPart) (t : TextPart)
    → list_any test (flag_words f ++ number_words n ++ text_words t)
    ≡ list_any test (flag_words f)
any_word test h f n t =
    list_any-append test (flag_words f ++ number_words n) (text_words t)
    ∙ ap (λ b. list_any test (flag_words f ++ number_words n) || b) (no_text test h t) ∙ or_none _
    ∙ list_any-append test (flag_words f) (number_words n)
    ∙ ap (λ b. list_any test (flag_words f) || b) (no_number test h n) ∙ or_none _

module _ (f : Flags) (n : NumberPart) (t : TextPart) where
  abbrev words : List (List ℕ)
  words = flag_words f ++ number_words n ++ text_words t

  abbrev has : List ℕ → Bool
  has w = list_any (same_text w) words

  absent_is : has (codes "absent") ≡ f.absent
  absent_is =
      any_word _ (record {
        one = λ w. refl;
        index = refl;
        other_whole = refl;
        whole = refl;
        text = λ w. refl;
        index_text = refl;
        other_text = refl;
        any_text = refl;
      }) f n t ∙ any_flag (same_text (codes "absent")) f ∙ simp (and_false, and_yes, or_none)

  entry_is : has (codes "entry") ≡ f.entry
  entry_is =
      any_word _ (record {
        one = λ w. refl;
        index = refl;
        other_whole = refl;
        whole = refl;
        text = λ w. refl;
        index_text = refl;
        other_text = refl;
        any_text = refl;
      }) f n t ∙ any_flag (same_text (codes "entry")) f ∙ simp (and_false, and_yes, or_none)

  row_is : has (codes "row") ≡ f.row
  row_is =
      any_word _ (record {
        one = λ w. refl;
        index = refl;
        other_whole = refl;
        whole = refl;
        text = λ w. refl;
        index_text = refl;
        other_text = refl;
        any_text = refl;
      }) f n t ∙ any_flag (same_text (codes "row")) f ∙ simp (and_false, and_yes, or_none)

  undefined_is : has (codes "undefined") ≡ f.undefined
  undefined_is =
      any_word _ (record {
        one = λ w. refl;
        index = refl;
        other_whole = refl;
        whole = refl;
        text = λ w. refl;
        index_text = refl;
        other_text = refl;
        any_text = refl;
      }) f n t ∙ any_flag (same_text (codes "undefined")) f ∙ simp (and_false, and_yes, or_none)

  null_is : has (codes "null") ≡ f.null
  null_is =
      any_word _ (record {
        one = λ w. refl;
        index = refl;
        other_whole = refl;
        whole = refl;
        text = λ w. refl;
        index_text = refl;
        other_text = refl;
        any_text = refl;
      }) f n t ∙ any_flag (same_text (codes "null")) f ∙ simp (and_false, and_yes, or_none)

  true_is : has (codes "true") ≡ f.is_true
  true_is =
      any_word _ (record {
        one = λ w. refl;
        index = refl;
        other_whole = refl;
        whole = refl;
        text = λ w. refl;
        index_text = refl;
        other_text = refl;
        any_text = refl;
      }) f n t ∙ any_flag (same_text (codes "true")) f ∙ simp (and_false, and_yes, or_none)

  false_is : has (codes "false") ≡ f.is_false
  false_is =
      any_word _ (record {
        one = λ w. refl;
        index = refl;
        other_whole = refl;
        whole = refl;
        text = λ w. refl;
        index_text = refl;
        other_text = refl;
        any_text = refl;
      }) f n t ∙ any_flag (same_text (codes "false")) f ∙ simp (and_false, and_yes, or_none)

  nan_is : has (codes "nan") ≡ f.nan
  nan_is =
      any_word _ (record {
        one = λ w. refl;
        index = refl;
        other_whole = refl;
        whole = refl;
        text = λ w. refl;
        index_text = refl;
        other_text = refl;
        any_text = refl;
      }) f n t ∙ any_flag (same_text (codes "nan")) f ∙ simp (and_false, and_yes, or_none)

flags_same : (f g : Flags) (n m : NumberPart) (t u : TextPart) → words f n t ≡ words g m u → f ≡ g
flags_same f g n m t u e =
    let same : (w : List ℕ) → has f n t w ≡ has g m u w = λ w. ap (list_any (same_text w)) e in
    let a = sym (absent_is f n t) ∙ same (codes "absent") ∙ absent_is g m u in
    let b = sym (entry_is f n t) ∙ same (codes "entry") ∙ entry_is g m u in
    let c = sym (row_is f n t) ∙ same (codes "row") ∙ row_is g m u in
    let d = sym (undefined_is f n t) ∙ same (codes "undefined") ∙ undefined_is g m u in
    let h = sym (null_is f n t) ∙ same (codes "null") ∙ null_is g m u in
    let j = sym (true_is f n t) ∙ same (codes "true") ∙ true_is g m u in
    let k = sym (false_is f n t) ∙ same (codes "false") ∙ false_is g m u in
    let l = sym (nan_is f n t) ∙ same (codes "nan") ∙ nan_is g m u in
    λ i. record {
      absent = a i;
      entry = b i;
      row = c i;
      undefined = d i;
      null = h i;
      is_true = j i;
      is_false = k i;
      nan = l i;
    }

-- ---- the number part and the text part

is_of_number : Test
is_of_number w =
    (get_or w 0 0 == 61) || (same_text (codes "index") w || (same_text (codes "otherwhole") w
    || same_text (codes "whole") w))

is_of_text : Test
is_of_text w =
    (get_or w 0 0 == 39) || (same_text (codes "indextext") w || (same_text (codes "othertext") w
    || same_text (codes "text") w))

left_part : (test : Test) (b : Bool) (w : List ℕ) → test w ≡ false → filter test (part b w) ≡ []
left_part test true w h = ap (λ c. cond c (w ∷ []) []) h
left_part test false w h = refl

left_both : (test : Test) (xs ys : List (List ℕ)) → filter test xs ≡ [] → filter test ys ≡ []
    → filter test (xs ++ ys) ≡ []
left_both test xs ys h k = filter-append test xs ys ∙ (λ i. h i ++ k i)

record Passes (test : Test) : Type 0 where
  absent : test (codes "absent") ≡ false
  entry : test (codes "entry") ≡ false
  row : test (codes "row") ≡ false
  undefined : test (codes "undefined") ≡ false
  null : test (codes "null") ≡ false
  is_true : test (codes "true") ≡ false
  is_false : test (codes "false") ≡ false
  nan : test (codes "nan") ≡ false

no_flag : (test : Test) → Passes test → (f : Flags) → filter test (flag_words f) ≡ []
unfolding property_parts
no_flag test h f =
    left_both test _ _ (left_both test _ _ (left_both test _ _ (left_both test _ _
    (left_both test _ _ (left_both test _ _ (left_both test _ _
    (left_part test f.absent (codes "absent") h.absent)
    (left_part test f.entry (codes "entry") h.entry))
    (left_part test f.row (codes "row") h.row))
    (left_part test f.undefined (codes "undefined") h.undefined))
    (left_part test f.null (codes "null") h.null))
    (left_part test f.is_true (codes "true") h.is_true))
    (left_part test f.is_false (codes "false") h.is_false))
    (left_part test f.nan (codes "nan") h.nan)

number_kept : (n : NumberPart) → filter is_of_number (number_words n) ≡ number_words n
unfolding is_of_number
number_kept number_part.Nothing = refl
number_kept (number_part.One z) = refl
number_kept number_part.Index = refl
number_kept number_part.OtherWhole = refl
number_kept number_part.Whole = refl

text_left : (t : TextPart) → filter is_of_number (text_words t) ≡ []
unfolding is_of_number
text_left text_part.Nothing = refl
text_left (text_part.One t) = refl
text_left text_part.IndexText = refl
text_left text_part.OtherText = refl
text_left text_part.Text = refl

text_kept : (t : TextPart) → filter is_of_text (text_words t) ≡ text_words t
unfolding is_of_text
text_kept text_part.Nothing = refl
text_kept (text_part.One t) = refl
text_kept text_part.IndexText = refl
text_kept text_part.OtherText = refl
text_kept text_part.Text = refl

number_left : (n : NumberPart) → filter is_of_text (number_words n) ≡ []
unfolding is_of_text
number_left number_part.Nothing = refl
number_left (number_part.One z) = refl
number_left number_part.Index = refl
number_left number_part.OtherWhole = refl
number_left number_part.Whole = refl

numbers_of : (f : Flags) (n : NumberPart) (t : TextPart)
    → filter is_of_number (flag_words f ++ number_words n ++ text_words t) ≡ number_words n
unfolding is_of_number
numbers_of f n t =
    filter-append is_of_number (flag_words f ++ number_words n) (text_words t)
    ∙ (λ i. (filter-append is_of_number (flag_words f) (number_words n)
    ∙ (λ j. no_flag is_of_number (record {
      absent = refl;
      entry = refl;
      row = refl;
      undefined = refl;
      null = refl;
      is_true = refl;
      is_false = refl;
      nan = refl;
    }) f j ++ number_kept n j)) i ++ text_left t i) ∙ append_none (number_words n)
  where
    append_none : (xs : List (List ℕ)) → xs ++ [] ≡ xs
    append_none [] = refl
    append_none (x ∷ xs) = ap (λ ys. x ∷ ys) (append_none xs)

texts_of : (f : Flags) (n : NumberPart) (t : TextPart)
    → filter is_of_text (flag_words f ++ number_words n ++ text_words t) ≡ text_words t
unfolding is_of_text
texts_of f n t =
    filter-append is_of_text (flag_words f ++ number_words n) (text_words t)
    ∙ (λ i. (filter-append is_of_text (flag_words f) (number_words n)
    ∙ (λ j. no_flag is_of_text (record {
      absent = refl;
      entry = refl;
      row = refl;
      undefined = refl;
      null = refl;
      is_true = refl;
      is_false = refl;
      nan = refl;
    }) f j ++ number_left n j)) i ++ text_kept t i)

-- ---- parts by their words

abbrev first_letter : List (List ℕ) → ℕ
first_letter [] = 0
first_letter (w ∷ ws) = get_or w 0 0

abbrev behind_letter : List (List ℕ) → List ℕ
behind_letter [] = []
behind_letter (w ∷ ws) = drop 1 w

-- a number and a text of the profile, where there is one
abbrev pub IsNumber : NumberPart → Type 0
IsNumber n = (z : ℤ) → n ≡ number_part.One z → IsNumberOfProfile z

abbrev pub IsText : TextPart → Type 0
IsText t = (units : List ℕ) → t ≡ text_part.One units → IsTextOfProfile units

-- a number of the profile is written so that its text says it
abbrev pub IsWritten : NumberPart → Type 0
IsWritten (number_part.One z) = is_whole_text (whole_text z) ≡ true
IsWritten part = Unit {0}

pub number_written : (n : NumberPart) → IsNumber n → IsWritten n
number_written number_part.Nothing h = tt
number_written (number_part.One z) h =
    let k = h z refl in
    ap (λ r. is_written_so r (whole_text z)) (read_back (Whole z) k.low k.high)
    ∙ same_text_refl (whole_text z)
number_written number_part.Index h = tt
number_written number_part.OtherWhole h = tt
number_written number_part.Whole h = tt

-- .. which is that of no other
abbrev IsSmall : NumberPart → Type 0
IsSmall (number_part.One z) = mag z < 2 ^ 63
IsSmall part = Unit {0}

small : (n : NumberPart) → IsNumber n → IsSmall n
small number_part.Nothing h = tt
small (number_part.One z) h = whole_text_small z (number_written (number_part.One z) h)
small number_part.Index h = tt
small number_part.OtherWhole h = tt
small number_part.Whole h = tt

number_same : (n m : NumberPart) → IsSmall n → IsSmall m → number_words n ≡ number_words m
    → n ≡ m
number_same number_part.Nothing number_part.Nothing s t e = refl
number_same (number_part.One y) (number_part.One z) s t e =
    ap number_part.One (signed_decimal_injective y z s t (ap behind_letter e))
number_same number_part.Index number_part.Index s t e = refl
number_same number_part.OtherWhole number_part.OtherWhole s t e = refl
number_same number_part.Whole number_part.Whole s t e = refl
number_same n m s t e = absurd (omega (arith, ap first_letter e))

-- four hexadecimal digits are those of a unit of 16 bits
glyph_same : (a b : ℕ) → a < 16 → b < 16 → digit_glyph false a ≡ digit_glyph false b → a ≡ b
glyph_same a b low below same = grind (arith, nat_tests)

quad : (u : ℕ) → u % 65536
    ≡ 4096 * (u / 4096 % 16) + 256 * (u / 256 % 16) + 16 * (u / 16 % 16) + u % 16
quad u = omega arith

unit_same : (t u : ℕ) (ts us : List ℕ) → four_digits t ++ ts ≡ four_digits u ++ us
    → (t % 65536 ≡ u % 65536) × (ts ≡ us)
unit_same t u ts us e =
    let a = glyph_same (t / 4096 % 16) (u / 4096 % 16) (omega arith) (omega arith)
    (ap (λ l. get_or l 0 0) e) in
    let b = glyph_same (t / 256 % 16) (u / 256 % 16) (omega arith) (omega arith)
    (ap (λ l. get_or l 1 0) e) in
    let c = glyph_same (t / 16 % 16) (u / 16 % 16) (omega arith) (omega arith)
    (ap (λ l. get_or l 2 0) e) in
    let d = glyph_same (t % 16) (u % 16) (omega arith) (omega arith) (ap (λ l. get_or l 3 0) e) in
    (quad t ∙ (λ i. 4096 * a i + 256 * b i + 16 * c i + d i) ∙ sym (quad u), ap (drop 4) e)

abbrev AreUnits : List ℕ → Type 0
AreUnits ts = IsTrue (list_all is_unit ts)

units_same : (ts us : List ℕ) → AreUnits ts → AreUnits us
    → flat_map four_digits ts ≡ flat_map four_digits us → ts ≡ us
units_same [] [] all also e = refl
units_same [] (u ∷ us) all also e = absurd (omega (arith, ap length e))
units_same (t ∷ ts) [] all also e = absurd (omega (arith, ap length e))
units_same (t ∷ ts) (u ∷ us) all also e =
    let both = unit_same t u (flat_map four_digits ts) (flat_map four_digits us) e in
    let (here, later) = and_parts (is_unit t) (list_all is_unit ts) all in
    let (there, after) = and_parts (is_unit u) (list_all is_unit us) also in
    let first : t ≡ u = omega (arith, both.0, ltb-true t 65536 here, ltb-true u 65536 there) in
    let rest = units_same ts us later after both.1 in
    λ i. first i ∷ rest i

text_same : (t u : TextPart) → IsText t → IsText u → text_words t ≡ text_words u → t ≡ u
text_same text_part.Nothing text_part.Nothing h k e = refl
text_same (text_part.One t) (text_part.One u) h k e =
    ap text_part.One (units_same t u (h t refl).units (k u refl).units (ap behind_letter e))
text_same text_part.IndexText text_part.IndexText h k e = refl
text_same text_part.OtherText text_part.OtherText h k e = refl
text_same text_part.Text text_part.Text h k e = refl
text_same t u h k e = absurd (omega (arith, ap first_letter e))

-- ---- labels

old_same : (s t : ℕ) (a b : Bool) → 2 * s + cond a 1 0 ≡ 2 * t + cond b 1 0 → (s ≡ t) × (a ≡ b)
old_same s t true true e = (omega arith, refl)
old_same s t true false e = absurd (omega arith)
old_same s t false true e = absurd (omega arith)
old_same s t false false e = (omega arith, refl)

labels_same : (ls ms : List Label) → map label_number ls ≡ map label_number ms → ls ≡ ms
labels_same [] [] e = refl
labels_same [] (m ∷ ms) e = absurd (omega (arith, ap length e))
labels_same (l ∷ ls) [] e = absurd (omega (arith, ap length e))
labels_same (l ∷ ls) (m ∷ ms) e =
    let first = label_tells l m (ap (λ ns. get_or ns 0 0) e) in
    let rest = labels_same ls ms (ap (drop 1) e) in
    λ i. first i ∷ rest i

kept_too : (p : Program) (v w : Labels) (l : Label)
    → filter v (labels_of p) ≡ filter w (labels_of p) → IsTrue (is_label p l) → IsTrue (v l)
    → IsTrue (w l)
kept_too p v w l same there h =
    (from_filter w l (labels_of p) (subst (Member l) same
    (member-filter v l (labels_of p) (label_listed p l there) h))).1

pub kept_same : (p : Program) (v w : Labels) (l : Label)
    → filter v (labels_of p) ≡ filter w (labels_of p)
    → (is_label p l && v l) ≡ (is_label p l && w l)
kept_same p v w l same = by_label (is_label p l) refl
  where
    by_kept : (b c : Bool) → v l ≡ b → w l ≡ c → IsTrue (is_label p l) → b ≡ c
    by_kept true true h k there = refl
    by_kept true false h k there = absurd (false≢true (sym k ∙ kept_too p v w l same there h))
    by_kept false true h k there =
        absurd (false≢true (sym h ∙ kept_too p w v l (sym same) there k))
    by_kept false false h k there = refl

    by_label : (b : Bool) → is_label p l ≡ b → (b && v l) ≡ (b && w l)
    by_label true there = by_kept (v l) (w l) refl refl there
    by_label false there = refl

-- ---- values

pub value_same : (p : Program) (v w : AbstractValue) → IsValueOfProfile v → IsValueOfProfile w
    → value_data p v ≡ value_data p w → said_value p v ≡ said_value p w
unfolding value_data
value_same p v w h k e =
    let vs : List (List ℕ) = flag_words v.flags ++ number_words v.number ++ text_words v.text in
    let ws : List (List ℕ) = flag_words w.flags ++ number_words w.number ++ text_words w.text in
    let same = list_same (map string vs ++ map label_data (value_labels p v))
    (map string ws ++ map label_data (value_labels p w)) e in
    let words : vs ≡ ws =
    sym (words_are vs (value_labels p v)) ∙ ap (flat_map word_in) same
    ∙ words_are ws (value_labels p w) in
    let labels : value_labels p v ≡ value_labels p w =
    labels_same (value_labels p v) (value_labels p w) (sym (numbers_are vs (value_labels p v))
    ∙ ap (flat_map number_in) same ∙ numbers_are ws (value_labels p w)) in
    let flags = flags_same v.flags w.flags v.number w.number v.text w.text words in
    let number = number_same v.number w.number (small v.number h.number)
    (small w.number k.number) (sym (numbers_of v.flags v.number v.text)
    ∙ ap (filter is_of_number) words ∙ numbers_of w.flags w.number w.text) in
    let text = text_same v.text w.text h.text k.text (sym (texts_of v.flags v.number v.text)
    ∙ ap (filter is_of_text) words ∙ texts_of w.flags w.number w.text) in
    λ i. record {
      flags = flags i;
      number = number i;
      text = text i;
      label = λ l. kept_same p v.label w.label l labels i;
    }
