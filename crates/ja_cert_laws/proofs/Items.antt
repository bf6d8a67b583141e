-- Visits and devices that are written the same are the same.
use Rattle.std.proofs.Common.{◌≡◌, ℕ, Bool, false, ◌&&◌, ◌||◌, List, [], ◌∷◌, map, length, get_or, drop, refl, sym, ap, ◌∙◌, arith}
use Rattle.std.specs.List.{flat_map, list_any}
use Rattle.std.specs.Option.{option_map_or}
use Rattle.std.proofs.lemmas.List.Folds.{list_any-append}
use lib.Chars.{codes}
use Rattle.serde_json.specs.Data.{Data, null, string}
use Rattle.serde_json.specs.Find.{as_str}
use Rattle.ja_prim.specs.Texts.{same_text}
use Rattle.ja_prim.specs.declared.signature.Kinds.{Kinds}
use Rattle.ja_prim.specs.declared.signature.Signature.{Signature}
use Rattle.ja_rows.specs.declared.table.Item.{Item}
use Rattle.ja_rows.specs.declared.table.Item.TheVariants.{Open, Step, Fill, Back}
use Rattle.ja_report.specs.Report.{kind_parts}
use Rattle.ja_cert.specs.Certificate.{device_data, item_data}
use Rattle.ja_cert.specs.Wrong.{number_at}
use Rattle.ja_cert_laws.proofs.Members.{data_in, list_same}
use Rattle.ja_cert_laws.proofs.Tables.{context_is, edge_same}
use Rattle.ja_cert_laws.proofs.Values.{and_yes, any_part, word_in}
use Rattle.ja_cert_parts.proofs.ValueLemmas.{or_none}
use Rattle.ja_cert_parts.proofs.UnitLemmas.{and_false}

-- ---- visits

abbrev letter : Data → ℕ
letter d = option_map_or (λ (w : List ℕ). get_or w 0 0) (as_str (get_or (data_in d) 0 null)) 0

abbrev second : Data → Data
second d = get_or (data_in d) 1 null

item_same : (i j : Item) → item_data i ≡ item_data j → i ≡ j
unfolding item_data
item_same Open Open e = refl
item_same (Step x n) (Step y m) e =
    let context = context_is x y (ap (number_at 1) e) (ap (number_at 2) e) in
    let node = ap (number_at 3) e in
    λ i. Step (context i) (record { 0 = node i })
item_same (Fill e) (Fill d) same = ap Fill (edge_same e d (ap second same))
item_same (Back e) (Back d) same = ap Back (edge_same e d (ap second same))
item_same i j e = absurd (omega (arith, ap letter e))

pub items_same : (is js : List Item) → map item_data is ≡ map item_data js → is ≡ js
items_same [] [] e = refl
items_same [] (j ∷ js) e = absurd (omega (arith, ap length e))
items_same (i ∷ is) [] e = absurd (omega (arith, ap length e))
items_same (i ∷ is) (j ∷ js) e =
    let first = item_same i j (ap (λ ds. get_or ds 0 null) e) in
    let rest = items_same is js (ap (drop 1) e) in
    λ k. first k ∷ rest k

-- ---- devices

strings_same : (ws : List (List ℕ)) → flat_map word_in (map string ws) ≡ ws
strings_same [] = refl
strings_same (w ∷ ws) = ap (λ vs. w ∷ vs) (strings_same ws)

any_kind : (test : List ℕ → Bool) (k : Kinds) → list_any test (kind_parts k)
    ≡ (((((k.undefined && (test (codes "undefined") || false))
    || (k.null && (test (codes "null") || false)))
    || (k.boolean && (test (codes "boolean") || false)))
    || (k.number && (test (codes "number") || false)))
    || (k.text && (test (codes "string") || false)))
unfolding kind_parts
any_kind test k = simp (list_any-append, any_part)

module _ (k : Kinds) where
  undefined_is : list_any (same_text (codes "undefined")) (kind_parts k) ≡ k.undefined
  undefined_is = any_kind (same_text (codes "undefined")) k ∙ simp (and_false, and_yes, or_none)

  null_is : list_any (same_text (codes "null")) (kind_parts k) ≡ k.null
  null_is = any_kind (same_text (codes "null")) k ∙ simp (and_false, and_yes, or_none)

  boolean_is : list_any (same_text (codes "boolean")) (kind_parts k) ≡ k.boolean
  boolean_is = any_kind (same_text (codes "boolean")) k ∙ simp (and_false, and_yes, or_none)

  number_is : list_any (same_text (codes "number")) (kind_parts k) ≡ k.number
  number_is = any_kind (same_text (codes "number")) k ∙ simp (and_false, and_yes, or_none)

  text_is : list_any (same_text (codes "string")) (kind_parts k) ≡ k.text
  text_is = any_kind (same_text (codes "string")) k ∙ simp (and_false, and_yes, or_none)

kinds_same : (k j : Kinds) → kind_parts k ≡ kind_parts j → k ≡ j
kinds_same k j e =
    let has : (w : List ℕ)
    → list_any (same_text w) (kind_parts k) ≡ list_any (same_text w) (kind_parts j) =
    λ w. ap (list_any (same_text w)) e in
    let undefined : k.undefined ≡ j.undefined =
    sym (undefined_is k) ∙ has (codes "undefined") ∙ undefined_is j in
    let null : k.null ≡ j.null = sym (null_is k) ∙ has (codes "null") ∙ null_is j in
    let boolean : k.boolean ≡ j.boolean =
    sym (boolean_is k) ∙ has (codes "boolean") ∙ boolean_is j in
    let number : k.number ≡ j.number = sym (number_is k) ∙ has (codes "number") ∙ number_is j in
    let text : k.text ≡ j.text = sym (text_is k) ∙ has (codes "string") ∙ text_is j in
    λ i. record {
      undefined = undefined i;
      null = null i;
      boolean = boolean i;
      number = number i;
      text = text i;
    }

device_same : (s t : Signature) → device_data s ≡ device_data t → s ≡ t
unfolding device_data
device_same s t e =
    let name : s.name ≡ t.name = ap (λ d. option_map_or (λ (w : List ℕ). w)
    (as_str (get_or (data_in d) 0 null)) []) e in
    let words : kind_parts s.kinds ≡ kind_parts t.kinds =
    sym (strings_same (kind_parts s.kinds)) ∙ ap (flat_map word_in) (list_same _ _ (ap second e))
    ∙ strings_same (kind_parts t.kinds) in
    let kinds = kinds_same s.kinds t.kinds words in
    λ i. record { name = name i; kinds = kinds i }

pub devices_same : (ss ts : List Signature) → map device_data ss ≡ map device_data ts → ss ≡ ts
devices_same [] [] e = refl
devices_same [] (t ∷ ts) e = absurd (omega (arith, ap length e))
devices_same (s ∷ ss) [] e = absurd (omega (arith, ap length e))
devices_same (s ∷ ss) (t ∷ ts) e =
    let first = device_same s t (ap (λ ds. get_or ds 0 null) e) in
    let rest = devices_same ss ts (ap (drop 1) e) in
    λ i. first i ∷ rest i
