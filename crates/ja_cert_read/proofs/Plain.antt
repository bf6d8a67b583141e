-- What a report leaves out is in the certificate just a word.
use Rattle.std.proofs.Common.{◌≡◌, ℕ, Bool, true, false, not, ◌&&◌, ◌||◌, if◌then◌else◌, List, [], ◌∷◌, ◌++◌, map, filter, is_some, refl, ap, ◌∙◌}
use Rattle.std.specs.List.{list_any}
use Rattle.std.proofs.lemmas.Bool.{and_parts, or_parts, true≢false, false≢true}
use lib.Chars.{codes}
use Rattle.serde_json.specs.Data.{Data, string}
use Rattle.ja_base.specs.declared.ids.Label.{Label}
use Rattle.ja_graph.specs.declared.program.Program.{Program}
use Rattle.ja_prim.specs.Texts.{same_text}
use Rattle.ja_abstract.specs.declared.abstraction.AAttrs.{AAttrs}
use Rattle.ja_abstract.specs.declared.abstraction.Flags.{Flags}
use Rattle.ja_abstract.specs.declared.abstraction.Key.{Key}
use Rattle.ja_abstract.specs.declared.abstraction.Key.TheVariants as key
use Rattle.ja_abstract.specs.declared.abstraction.Mask.{Mask}
use Rattle.ja_abstract.specs.declared.abstraction.May.{May}
use Rattle.ja_abstract.specs.declared.abstraction.NumberPart.{NumberPart}
use Rattle.ja_abstract.specs.declared.abstraction.NumberPart.TheVariants as number_part
use Rattle.ja_abstract.specs.declared.abstraction.TextPart.{TextPart}
use Rattle.ja_abstract.specs.declared.abstraction.TextPart.TheVariants as text_part
use Rattle.ja_abstract.specs.AbstractValue.{AbstractValue, AbstractProperty, no_flags, has_number, has_part, has_present_flag, has_text, is_present}
use Rattle.ja_abstract.specs.AbstractState.{labels_of}
use Rattle.ja_report.specs.Lines.{is_undefined, is_entry, is_known, has_attrs, mask_text}
use Rattle.ja_report.specs.Texts.{attr_text, attrs_text, property_parts, value_labels}
use Rattle.ja_cert.specs.Certificate.{flag_words, label_data, listed, number_words, text_words, value_data}
use Rattle.ja_cert.specs.Wrong.{is_word, mask_words, position, position_of, unknown_attrs, value_is}
use Rattle.ja_cert_parts.proofs.ListLemmas.{not_true}

-- ---- tests

no_number : (n : NumberPart) → has_number n ≡ false → n ≡ number_part.Nothing
no_number number_part.Nothing h = refl
no_number (number_part.One z) h = absurd (true≢false h)
no_number number_part.Index h = absurd (true≢false h)
no_number number_part.OtherWhole h = absurd (true≢false h)
no_number number_part.Whole h = absurd (true≢false h)

no_text : (t : TextPart) → has_text t ≡ false → t ≡ text_part.Nothing
no_text text_part.Nothing h = refl
no_text (text_part.One s) h = absurd (true≢false h)
no_text text_part.IndexText h = absurd (true≢false h)
no_text text_part.OtherText h = absurd (true≢false h)
no_text text_part.Text h = absurd (true≢false h)

none_kept : {X : Type 0} (test : X → Bool) (xs : List X) → list_any test xs ≡ false
    → filter test xs ≡ []
none_kept test [] h = refl
none_kept {X} test (x ∷ xs) h =
    let parts = or_parts (test x) (list_any test xs) h in
    ap (λ (b : Bool). if b then x ∷ filter test xs else filter test xs) parts.0
    ∙ none_kept test xs parts.1

-- ---- values that are just one word

-- a value's data, by its parts
data_by : Flags → NumberPart → TextPart → List Label → Data
data_by f n t ls =
    listed (map string (flag_words f ++ number_words n ++ text_words t) ++ map label_data ls)

-- the parts are no other
pub record HasOnly (p : Program) (v : AbstractValue) (f : Flags) : Type 0 where
  pub flags : v.flags ≡ f
  pub number : v.number ≡ number_part.Nothing
  pub text : v.text ≡ text_part.Nothing
  pub labels : value_labels p v ≡ []

by_parts : (p : Program) (v : AbstractValue) (f : Flags) (word : List ℕ) → HasOnly p v f
    → value_is word (data_by f number_part.Nothing text_part.Nothing []) ≡ true
    → value_is word (value_data p v) ≡ true
unfolding value_data data_by
by_parts p v f word only is =
    (λ i. value_is word (data_by (only.flags i) (only.number i) (only.text i) (only.labels i))) ∙ is

no_flag : (f : Flags) → f.absent || f.entry ≡ false → has_present_flag f ≡ false → f ≡ no_flags
no_flag f at_entry present =
    let first = or_parts f.absent f.entry at_entry in
    let nan = or_parts (f.row || f.undefined || f.null || f.is_true || f.is_false) f.nan present in
    let is_false = or_parts (f.row || f.undefined || f.null || f.is_true) f.is_false nan.0 in
    let is_true = or_parts (f.row || f.undefined || f.null) f.is_true is_false.0 in
    let null = or_parts (f.row || f.undefined) f.null is_true.0 in
    let row = or_parts f.row f.undefined null.0 in
    λ i. record {
      absent = first.0 i;
      entry = first.1 i;
      row = row.0 i;
      undefined = row.1 i;
      null = null.1 i;
      is_true = is_true.1 i;
      is_false = is_false.1 i;
      nan = nan.1 i;
    }

no_part : (p : Program) (v : AbstractValue) → has_part (labels_of p) v ≡ false
    → HasOnly p v no_flags
no_part p v h =
    let parts = or_parts (v.flags.absent || v.flags.entry) (is_present (labels_of p) v) h in
    let labels = or_parts (has_present_flag v.flags || has_number v.number || has_text v.text)
    (list_any v.label (labels_of p)) parts.1 in
    let text = or_parts (has_present_flag v.flags || has_number v.number) (has_text v.text)
    labels.0 in
    let number = or_parts (has_present_flag v.flags) (has_number v.number) text.0 in
    record {
      flags = no_flag v.flags parts.0 number.0;
      number = no_number v.number number.1;
      text = no_text v.text text.1;
      labels = none_kept v.label (labels_of p) labels.1;
    }

pub only_undefined : (p : Program) (v : AbstractValue) → is_undefined p v ≡ true
    → HasOnly p v (record no_flags { undefined = true })
unfolding is_undefined
only_undefined p v h =
    let more : AbstractValue = record v { flags = record v.flags { undefined = false } } in
    let both = and_parts v.flags.undefined (not (has_part (labels_of p) more)) h in
    let only = no_part p more (not_true (has_part (labels_of p) more) both.1) in
    record {
      flags = λ i. record (only.flags i) { undefined = both.0 i };
      number = only.number;
      text = only.text;
      labels = only.labels;
    }

pub undefined_is : (p : Program) (v : AbstractValue) → is_undefined p v ≡ true
    → value_is (codes "undefined") (value_data p v) ≡ true
unfolding data_by property_parts
undefined_is p v h =
    by_parts p v (record no_flags { undefined = true }) (codes "undefined") (only_undefined p v h)
    refl

-- ---- properties that are just as at entry

unknown_attr : (letter : ℕ) (m : May) → is_known m ≡ false → attr_text letter m ≡ 46
unknown_attr letter m h =
    let parts = or_parts m.set m.unset h in
    rw (parts.0, parts.1) refl

unknown_attrs_of : (a : AAttrs) → has_attrs a ≡ false
    → attr_text 82 a.read_only ∷ attr_text 69 a.dont_enum ∷ attr_text 68 a.dont_delete ∷ []
    ≡ unknown_attrs
unknown_attrs_of a h =
    let last = or_parts (is_known a.read_only || is_known a.dont_enum) (is_known a.dont_delete) h in
    let first = or_parts (is_known a.read_only) (is_known a.dont_enum) last.0 in
    λ i. unknown_attr 82 a.read_only first.0 i ∷ unknown_attr 69 a.dont_enum first.1 i
    ∷ unknown_attr 68 a.dont_delete last.1 i ∷ []

attrs_plain : (k : Key) (a : AAttrs) → has_attrs a ≡ false → attrs_text k a ≡ unknown_attrs
unfolding attrs_text
attrs_plain (key.Name n) a h = unknown_attrs_of a h
attrs_plain key.OtherIndex a h = unknown_attrs_of a h
attrs_plain key.OtherName a h = unknown_attrs_of a h
attrs_plain (key.Slot s) a h = refl

-- a property that is just as at entry has no other part and no attribute that is known
pub record IsJustEntry (p : Program) (q : AbstractProperty) : Type 0 where
  pub only : HasOnly p q.value (record no_flags { entry = true })
  pub attrs : has_attrs q.attrs ≡ false

pub just_entry : (p : Program) (q : AbstractProperty) → is_entry p q ≡ true → IsJustEntry p q
unfolding is_entry
just_entry p q h =
    let v : AbstractValue = q.value in
    let more : AbstractValue = record v { flags = record v.flags { entry = false } } in
    let some : Bool = has_part (labels_of p) more in
    let both = and_parts (v.flags.entry && not some) (not (has_attrs q.attrs)) h in
    let entry = and_parts v.flags.entry (not some) both.0 in
    let only = no_part p more (not_true some entry.1) in
    record {
      only = record {
        flags = λ i. record (only.flags i) { entry = entry.0 i };
        number = only.number;
        text = only.text;
        labels = only.labels;
      };
      attrs = not_true (has_attrs q.attrs) both.1;
    }

pub entry_is : (p : Program) (k : Key) (q : AbstractProperty) → is_entry p q ≡ true
    → (value_is (codes "entry") (value_data p q.value) ≡ true)
    × (is_word (same_text unknown_attrs) (string (attrs_text k q.attrs)) ≡ true)
unfolding data_by property_parts
entry_is p k q h =
    let entry = just_entry p q h in (
      by_parts p q.value (record no_flags { entry = true }) (codes "entry") entry.only refl,
      ap (same_text unknown_attrs) (attrs_plain k q.attrs entry.attrs),
    )

-- ---- masks

some_word : (some none : Bool) → is_some (position mask_words
    (if some then (if none then codes "maybe" else codes "some") else codes "none")) ≡ true
    → some ≡ true
unfolding position
some_word true none h = refl
some_word false none h = absurd (false≢true h)

pub mask_is : (m : Mask) → is_some (position_of mask_words (string (mask_text m))) ≡ true
    → m.some ≡ true
mask_is m h = some_word m.some m.none h
