-- The words of a certificate are UTF-8: each is ASCII.
use Rattle.std.proofs.Common.{◌≡◌, ◌<◌, ◌+◌, ◌/◌, ◌%◌, ◌==◌, ℕ, ℤ, pos, negsuc, zero, suc, Bool, true, false, cond, ◌&&◌, List, [], ◌∷◌, ◌++◌, refl, ap, arith}
use Rattle.std.specs.Prelude.{nat_lt}
use Rattle.std.specs.Fmt.{decimal, digit_glyph, digits, digits_onto}
use Rattle.std.specs.List.{flat_map, list_all, AllByRecursion}
use Rattle.std.specs.Str.{IsUtf8}
use Rattle.std.proofs.lemmas.Bool.{and_parts, lt-ltb}
use Rattle.std.proofs.lemmas.Str.{IsUtf8-append}
use lib.Chars.{codes}
use Rattle.json.proofs.Printed.Utf8.{are_ascii, IsUtf8-are_ascii}
use Rattle.ja_base.proofs.Lists.{all_append}
use Rattle.ja_prim.specs.Characters.{is_part}
use Rattle.ja_prim.specs.declared.signature.Kinds.{Kinds}
use Rattle.ja_prim.specs.declared.signature.Signature.{Signature}
use Rattle.ja_texts.specs.Texts.{four_digits}
use Rattle.ja_abstract.specs.declared.abstraction.AAttrs.{AAttrs}
use Rattle.ja_abstract.specs.declared.abstraction.Flags.{Flags}
use Rattle.ja_abstract.specs.declared.abstraction.Key.{Key}
use Rattle.ja_abstract.specs.declared.abstraction.Key.TheVariants as key
use Rattle.ja_abstract.specs.declared.abstraction.Mask.{Mask}
use Rattle.ja_abstract.specs.declared.abstraction.May.{May}
use Rattle.ja_abstract.specs.declared.abstraction.NumberPart.{NumberPart}
use Rattle.ja_abstract.specs.declared.abstraction.NumberPart.TheVariants as number_part
use Rattle.ja_abstract.specs.declared.abstraction.TextPart.{TextPart}
use Rattle.ja_abstract.specs.declared.abstraction.TextPart.TheVariants as text_part
use Rattle.ja_abstract.specs.AbstractValue.{AbstractValue}
use Rattle.ja_abstract.specs.Keys.{whole_text}
use Rattle.ja_device.specs.Signatures.{has_kind, is_fit, is_identifier}
use Rattle.ja_report.specs.Lines.{mask_text}
use Rattle.ja_report.specs.Report.{kind_parts}
use Rattle.ja_report.specs.Texts.{attr_text, attrs_text, part, property_parts}
use Rattle.ja_cert.specs.Certificate.{flag_words, number_words, text_words}
use Rattle.ja_cert.proofs.Names.{part_small}

-- ---- what begins with an ASCII byte

behind : (x : ℕ) (xs : List ℕ) → x < 128 → IsUtf8 xs → IsUtf8 (x ∷ xs)
behind x xs small h =
    IsUtf8-append (x ∷ []) xs
    (IsUtf8-are_ascii (x ∷ []) (ap (λ b. b && true) (lt-ltb x 128 small))) h

nothing : IsUtf8 []
nothing = IsUtf8-are_ascii [] refl

-- ---- digits

digit_small : (d : ℕ) → d < 16 → digit_glyph false d < 128
digit_small d h = by (nat_lt d 10)
  where
    by : (b : Bool) → cond b (48 + d) (87 + d) < 128
    by true = omega (arith, h)
    by false = omega (arith, h)

digits_spelt : (k n : ℕ) (more : List ℕ) → IsUtf8 more → IsUtf8 (digits_onto k 10 false n more)
digits_spelt zero n more h = h
digits_spelt (suc k) n more h =
    let d = digit_glyph false (n % 10) in
    let here : IsUtf8 (d ∷ more) = behind d more (digit_small (n % 10) (omega arith)) h in
    by (n / 10 == 0) here (digits_spelt k (n / 10) (d ∷ more) here)
  where
    by : (b : Bool) {xs ys : List ℕ} → IsUtf8 xs → IsUtf8 ys → IsUtf8 (cond b xs ys)
    by true f g = f
    by false f g = g

decimal_spelt : (n : ℕ) → IsUtf8 (decimal n)
unfolding digits
decimal_spelt n = digits_spelt 64 n [] nothing

whole_spelt : (z : ℤ) → IsUtf8 (whole_text z)
whole_spelt (pos n) = decimal_spelt n
whole_spelt (negsuc n) = behind 45 _ (omega arith) (decimal_spelt (suc n))

four_spelt : (u : ℕ) (more : List ℕ) → IsUtf8 more → IsUtf8 (four_digits u ++ more)
four_spelt u more h =
    behind _ _ (digit_small (u / 4096 % 16) (omega arith))
    (behind _ _ (digit_small (u / 256 % 16) (omega arith))
    (behind _ _ (digit_small (u / 16 % 16) (omega arith))
    (behind _ _ (digit_small (u % 16) (omega arith)) h)))

units_spelt : (t : List ℕ) → IsUtf8 (flat_map four_digits t)
units_spelt [] = nothing
units_spelt (u ∷ t) = four_spelt u (flat_map four_digits t) (units_spelt t)

-- ---- values

abbrev pub AreSpelt : List (List ℕ) → Type 0
AreSpelt ws = AllByRecursion IsUtf8 ws

part_spelt : (b : Bool) (w : List ℕ) → are_ascii w ≡ true → AreSpelt (part b w)
part_spelt true w h = (IsUtf8-are_ascii w h, tt)
part_spelt false w h = tt

with_part : (ws : List (List ℕ)) (b : Bool) (w : List ℕ) → AreSpelt ws → are_ascii w ≡ true
    → AreSpelt (ws ++ part b w)
with_part ws b w h ascii = all_append IsUtf8 ws (part b w) h (part_spelt b w ascii)

flags_spelt : (f : Flags) → AreSpelt (flag_words f)
unfolding property_parts
flags_spelt f =
    with_part _ f.nan (codes "nan") (with_part _ f.is_false (codes "false")
    (with_part _ f.is_true (codes "true") (with_part _ f.null (codes "null")
    (with_part _ f.undefined (codes "undefined") (with_part _ f.row (codes "row")
    (with_part _ f.entry (codes "entry") (part_spelt f.absent (codes "absent") refl) refl) refl)
    refl) refl) refl) refl) refl

number_spelt : (n : NumberPart) → AreSpelt (number_words n)
number_spelt number_part.Nothing = tt
number_spelt (number_part.One z) = (behind 61 _ (omega arith) (whole_spelt z), tt)
number_spelt number_part.Index = (IsUtf8-are_ascii (codes "index") refl, tt)
number_spelt number_part.OtherWhole = (IsUtf8-are_ascii (codes "otherwhole") refl, tt)
number_spelt number_part.Whole = (IsUtf8-are_ascii (codes "whole") refl, tt)

text_spelt : (t : TextPart) → AreSpelt (text_words t)
text_spelt text_part.Nothing = tt
text_spelt (text_part.One t) = (behind 39 _ (omega arith) (units_spelt t), tt)
text_spelt text_part.IndexText = (IsUtf8-are_ascii (codes "indextext") refl, tt)
text_spelt text_part.OtherText = (IsUtf8-are_ascii (codes "othertext") refl, tt)
text_spelt text_part.Text = (IsUtf8-are_ascii (codes "text") refl, tt)

pub value_spelt : (v : AbstractValue)
    → AreSpelt (flag_words v.flags ++ number_words v.number ++ text_words v.text)
value_spelt v =
    all_append IsUtf8 (flag_words v.flags ++ number_words v.number) (text_words v.text)
    (all_append IsUtf8 (flag_words v.flags) (number_words v.number) (flags_spelt v.flags)
    (number_spelt v.number)) (text_spelt v.text)

-- ---- attributes, masks, kinds

attr_small : (letter : ℕ) (m : May) → letter < 128 → attr_text letter m < 128
attr_small letter m h = by m.set m.unset
  where
    by : (s u : Bool) → cond s (cond u 63 letter) (cond u 45 46) < 128
    by true true = omega arith
    by true false = h
    by false true = omega arith
    by false false = omega arith

letters_spelt : (a : AAttrs)
    → IsUtf8 (attr_text 82 a.read_only ∷ attr_text 69 a.dont_enum ∷ attr_text 68 a.dont_delete
    ∷ [])
letters_spelt a =
    behind _ _ (attr_small 82 a.read_only (omega arith))
    (behind _ _ (attr_small 69 a.dont_enum (omega arith))
    (behind _ _ (attr_small 68 a.dont_delete (omega arith)) nothing))

pub attrs_spelt : (k : Key) (a : AAttrs) → IsUtf8 (attrs_text k a)
unfolding attrs_text
attrs_spelt (key.Slot s) a = IsUtf8-are_ascii (codes "...") refl
attrs_spelt k a = letters_spelt a

pub mask_spelt : (m : Mask) → IsUtf8 (mask_text m)
mask_spelt m = by m.some m.none
  where
    by : (s n : Bool)
        → IsUtf8 (cond s (cond n (codes "maybe") (codes "some")) (codes "none"))
    by true true = IsUtf8-are_ascii (codes "maybe") refl
    by true false = IsUtf8-are_ascii (codes "some") refl
    by false n = IsUtf8-are_ascii (codes "none") refl

pub kinds_spelt : (k : Kinds) → AreSpelt (kind_parts k)
unfolding kind_parts
kinds_spelt k =
    with_part _ k.text (codes "string") (with_part _ k.number (codes "number")
    (with_part _ k.boolean (codes "boolean") (with_part _ k.null (codes "null")
    (part_spelt k.undefined (codes "undefined") refl) refl) refl) refl) refl

-- ---- names of devices

units_small : (name : List ℕ) → list_all is_part name ≡ true → IsUtf8 name
units_small [] h = nothing
units_small (c ∷ name) h =
    let both = and_parts (is_part c) (list_all is_part name) h in
    behind c name (part_small c both.0) (units_small name both.1)

pub name_spelt : (s : Signature) → is_fit s ≡ true → IsUtf8 s.name
name_spelt s h =
    let named = and_parts (is_identifier s.name) (has_kind s.kinds) h in
    units_small s.name (and_parts _ (list_all is_part s.name) (and_parts _ _ named.0).0).1
