-- Values of which the numbers and the texts are those of the profile are written as a certificate
-- has them.
use Rattle.std.proofs.Common.{◌≡◌, ◌<◌, ◌≤◌, ◌+◌, ◌*◌, ◌/◌, ◌%◌, ℕ, suc, Bool, true, false, cond, List, [], ◌∷◌, ◌++◌, map, length, Option, Some, None, refl, sym, ap, subst, ◌∙◌, append_assoc, arith}
use Rattle.std.specs.Prelude.{IsTrue}
use Rattle.std.specs.Fmt.{digit_glyph}
use Rattle.std.specs.List.{flat_map, list_all, AllByRecursion}
use Rattle.std.specs.Option.{option_map_or}
use Rattle.std.proofs.lemmas.Bool.{and_from, le-leb, lt-ltb}
use Rattle.std.proofs.lemmas.Bool.Decides.{nat_tests}
use Rattle.std.proofs.lemmas.List.{map-append}
use Rattle.std.proofs.lemmas.List.Folds.{list_all-append}
use lib.Chars.{codes}
use Rattle.serde_json.specs.Data.{Data, string}
use Rattle.ja_base.proofs.Lists.{all_weaker}
use Rattle.ja_base.specs.declared.ids.Label.{Label}
use Rattle.ja_graph.specs.declared.program.Program.{Program}
use Rattle.ja_prim.specs.Texts.{max_units}
use Rattle.ja_texts.specs.Texts.{four_digits}
use Rattle.ja_abstract.specs.declared.abstraction.Flags.{Flags}
use Rattle.ja_abstract.specs.declared.abstraction.NumberPart.{NumberPart}
use Rattle.ja_abstract.specs.declared.abstraction.NumberPart.TheVariants as number_part
use Rattle.ja_abstract.specs.declared.abstraction.TextPart.{TextPart}
use Rattle.ja_abstract.specs.declared.abstraction.TextPart.TheVariants as text_part
use Rattle.ja_abstract.specs.AbstractValue.{AbstractValue}
use Rattle.ja_abstract.specs.AbstractState.{is_label, label_number, labels_of}
use Rattle.ja_aheap.proofs.UpdateLemmas.{label_within}
use Rattle.ja_table.proofs.Ascending.{Ascends, ascends-filter, from_filter, of_each}
use Rattle.ja_report.specs.Texts.{part, property_parts, value_labels}
use Rattle.ja_cert.specs.Certificate.{label_data, number_words, text_words, value_data}
use Rattle.ja_cert.specs.Wrong.{are_units, here_unless, is_lower_hexadecimal, is_multiple_of_four, part_number, part_rank, part_wrong, position, value_wrong, word_rank}
use Rattle.ja_cert_laws.proofs.Climbing.{from_first, later_from, list_right, one_from, AreFrom, Climbs}
use Rattle.ja_abstract.specs.Profile.{IsValueOfProfile}
use Rattle.ja_cert_laws.proofs.Values.{number_written, IsText, IsWritten}
use Rattle.ja_cert_read.proofs.Pairs.{labels_are}
use Rattle.ja_table.proofs.ListedContexts.{labels_ascend}

-- the parts of a property that a value has are allowed
pub record IsAllowed (allowed : ℕ → Bool) (v : AbstractValue) : Type 0 where
  pub absent : v.flags.absent ≡ true → allowed 0 ≡ true
  pub entry : v.flags.entry ≡ true → allowed 1 ≡ true
  pub row : v.flags.row ≡ true → allowed 2 ≡ true
  pub others : (k : ℕ) → 3 ≤ k → allowed k ≡ true

-- ---- texts

hexadecimal : (a : ℕ) → a < 16 → is_lower_hexadecimal (digit_glyph false a) ≡ true
hexadecimal a low = grind (arith, nat_tests)

all_hexadecimal : (t : List ℕ) → list_all is_lower_hexadecimal (flat_map four_digits t) ≡ true
all_hexadecimal [] = refl
all_hexadecimal (u ∷ us) =
    list_all-append is_lower_hexadecimal (four_digits u) (flat_map four_digits us)
    ∙ and_from _ _ (and_from _ _ (hexadecimal (u / 4096 % 16) (omega arith))
    (and_from _ _ (hexadecimal (u / 256 % 16) (omega arith))
    (and_from _ _ (hexadecimal (u / 16 % 16) (omega arith))
    (and_from _ _ (hexadecimal (u % 16) (omega arith)) refl)))) (all_hexadecimal us)

fours : (t : List ℕ) → is_multiple_of_four (flat_map four_digits t) ≡ true
unfolding is_multiple_of_four
fours [] = refl
fours (u ∷ us) = fours us

count_of : (t : List ℕ) → length (flat_map four_digits t) ≡ 4 * length t
count_of [] = refl
count_of (u ∷ us) = omega (arith, count_of us)

units_are : (t : List ℕ) → length t ≤ max_units → are_units (flat_map four_digits t) ≡ true
units_are t short =
    and_from _ _ (and_from _ _ (all_hexadecimal t) (fours t))
    (le-leb (length (flat_map four_digits t)) (4 * max_units) (omega (arith, count_of t)))

-- ---- parts from a rank on

module _ (p : Program) (allowed : ℕ → Bool) where
  abbrev From : ℕ → List Data → Type 0
  From = AreFrom (part_wrong p allowed) (part_number p)

  later : (i j : ℕ) (ds : List Data) → i ≤ j → From j ds → From i ds
  later = later_from (part_wrong p allowed) (part_number p)

  one_part : (k : ℕ) (d : Data) (ds : List Data) → part_rank p d ≡ Some k → allowed k ≡ true
      → From (suc k) ds → From k (d ∷ ds)
  unfolding part_wrong
  one_part k d ds rank allows rest =
      one_from (part_wrong p allowed) (part_number p) k d ds
      (ap (λ (o : Option ℕ). option_map_or (λ (n : ℕ). n ∷ []) o []) rank)
      (λ before above. ap here_unless (and_from _ _
      (ap (λ (o : Option ℕ). option_map_or allowed o false) rank ∙ allows) above)) rest

  flag_from : (k : ℕ) (b : Bool) (w : List ℕ) (ds : List Data) → word_rank w ≡ Some k
      → (b ≡ true → allowed k ≡ true) → From (suc k) ds
      → From k (map string (part b w) ++ ds)
  flag_from k true w ds rank allows rest = one_part k (string w) ds rank (allows refl) rest
  flag_from k false w ds rank allows rest = later k (suc k) ds (omega arith) rest

  number_from : (n : NumberPart) (ds : List Data) → IsWritten n → allowed 8 ≡ true
      → From 9 ds → From 8 (map string (number_words n) ++ ds)
  unfolding position
  number_from number_part.Nothing ds is allows rest = later 8 9 ds (omega arith) rest
  number_from (number_part.One z) ds is allows rest =
      one_part 8 _ ds (ap (λ b. cond b (Some 8) None) is) allows rest
  number_from number_part.Index ds is allows rest = one_part 8 _ ds refl allows rest
  number_from number_part.OtherWhole ds is allows rest = one_part 8 _ ds refl allows rest
  number_from number_part.Whole ds is allows rest = one_part 8 _ ds refl allows rest

  text_from : (t : TextPart) (ds : List Data) → IsText t → allowed 9 ≡ true → From 10 ds
      → From 9 (map string (text_words t) ++ ds)
  unfolding position
  text_from text_part.Nothing ds is allows rest = later 9 10 ds (omega arith) rest
  text_from (text_part.One t) ds is allows rest =
      one_part 9 _ ds (ap (λ b. cond b (Some 9) None) (units_are t (is t refl).few)) allows rest
  text_from text_part.IndexText ds is allows rest = one_part 9 _ ds refl allows rest
  text_from text_part.OtherText ds is allows rest = one_part 9 _ ds refl allows rest
  text_from text_part.Text ds is allows rest = one_part 9 _ ds refl allows rest

  abbrev Before : Label → Label → Type 0
  Before l m = label_number l < label_number m

  labels_from : (k : ℕ) (ls : List Label) → ((j : ℕ) → 3 ≤ j → allowed j ≡ true) → 10 ≤ k
      → Ascends Before ls → AllByRecursion (λ (l : Label). IsTrue (is_label p l)) ls
      → AllByRecursion (λ (l : Label). k ≤ 10 + label_number l) ls
      → From k (map label_data ls)
  labels_from k [] allows low up within above = λ last bound. tt
  labels_from k (l ∷ ls) allows low up within above =
      let rank : part_rank p (label_data l) ≡ Some (10 + label_number l) =
      ap (λ b. cond b (Some (10 + label_number l)) None)
      (lt-ltb (label_number l) (2 * length p.sites)
      (label_within l (length p.sites) (2 * length p.sites) within.0 refl)) in
      later k (10 + label_number l) (label_data l ∷ map label_data ls) above.0
      (one_part (10 + label_number l) (label_data l) (map label_data ls) rank
      (allows (10 + label_number l) (omega arith))
      (labels_from (suc (10 + label_number l)) ls allows (omega arith) up.1 within.1
      (all_weaker (Before l) (λ (m : Label). suc (10 + label_number l) ≤ 10 + label_number m)
      (λ m h. omega (arith, h)) ls up.0)))

  parts_apart : (a e r u n t f g m x : List (List ℕ)) (ls : List Data)
      → map string (((((((((a ++ e) ++ r) ++ u) ++ n) ++ t) ++ f) ++ g) ++ m) ++ x) ++ ls
      ≡ map string a ++ (map string e ++ (map string r ++ (map string u ++ (map string n
      ++ (map string t ++ (map string f ++ (map string g ++ (map string m
      ++ (map string x ++ ls)))))))))
  parts_apart a e r u n t f g m x ls = simp (map-append, append_assoc)

  pub value_right : (v : AbstractValue) → IsAllowed allowed v → IsValueOfProfile v
      → value_wrong p allowed (value_data p v) ≡ None
  unfolding value_wrong value_data property_parts position
  value_right v allows profile =
      let f : Flags = v.flags in
      let all : List Label = labels_of p in
      let ls : List Label = value_labels p v in
      let labels : From 10 (map label_data ls) =
      labels_from 10 ls allows.others (omega arith)
      (ascends-filter Before v.label all (labels_ascend (length p.sites)))
      (of_each _ ls (λ l m. labels_are p l (from_filter v.label l all m).0))
      (of_each _ ls (λ l m. omega arith)) in
      let from : From 0 (map string (part f.absent (codes "absent"))
      ++ (map string (part f.entry (codes "entry")) ++ (map string (part f.row (codes "row"))
      ++ (map string (part f.undefined (codes "undefined"))
      ++ (map string (part f.null (codes "null")) ++ (map string (part f.is_true (codes "true"))
      ++ (map string (part f.is_false (codes "false")) ++ (map string (part f.nan (codes "nan"))
      ++ (map string (number_words v.number) ++ (map string (text_words v.text)
      ++ map label_data ls)))))))))) =
      flag_from 0 f.absent (codes "absent") _ refl allows.absent
      (flag_from 1 f.entry (codes "entry") _ refl allows.entry
      (flag_from 2 f.row (codes "row") _ refl allows.row
      (flag_from 3 f.undefined (codes "undefined") _ refl (λ e. allows.others 3 (omega arith))
      (flag_from 4 f.null (codes "null") _ refl (λ e. allows.others 4 (omega arith))
      (flag_from 5 f.is_true (codes "true") _ refl (λ e. allows.others 5 (omega arith))
      (flag_from 6 f.is_false (codes "false") _ refl (λ e. allows.others 6 (omega arith))
      (flag_from 7 f.nan (codes "nan") _ refl (λ e. allows.others 7 (omega arith))
      (number_from v.number _ (number_written v.number profile.number)
      (allows.others 8 (omega arith))
      (text_from v.text _ profile.text (allows.others 9 (omega arith)) labels))))))))) in
      list_right (part_wrong p allowed) (part_number p) _
      (subst (Climbs (part_wrong p allowed) (part_number p) None)
      (sym (parts_apart (part f.absent (codes "absent")) (part f.entry (codes "entry"))
      (part f.row (codes "row")) (part f.undefined (codes "undefined"))
      (part f.null (codes "null")) (part f.is_true (codes "true"))
      (part f.is_false (codes "false")) (part f.nan (codes "nan")) (number_words v.number)
      (text_words v.text) (map label_data ls)))
      (from_first (part_wrong p allowed) (part_number p) _ from))
