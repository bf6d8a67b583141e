-- What is right of a list of registers, properties, masks or values at entry.
use Rattle.std.proofs.Common.{◌≡◌, ◌<◌, ◌*◌, ℕ, Bool, true, false, not, ◌&&◌, if◌then◌else◌, List, [], ◌∷◌, length, Option, Some, None, is_some, refl, ap, sym, ◌∙◌, inl, inr, arith}
use Rattle.std.specs.Prelude.{IsTrue, nat_lt}
use Rattle.std.specs.List.{AllByRecursion}
use Rattle.std.specs.Option.{option_map_or}
use Rattle.std.proofs.lemmas.Bool.{and_from, cases_Bool, lt-ltb, ltb-true, true≢false, false≢true}
use lib.Chars.{codes}
use Rattle.serde_json.specs.Data.{Data, string}
use Rattle.ja_base.specs.declared.ids.FnId.{FnId}
use Rattle.ja_base.specs.declared.ids.Label.{Label}
use Rattle.ja_graph.specs.declared.program.Program.{Program}
use Rattle.ja_machine.specs.Frames.{registers_of}
use Rattle.ja_prim.specs.Texts.{same_text}
use Rattle.ja_abstract.specs.declared.abstraction.Key.{Key}
use Rattle.ja_abstract.specs.declared.abstraction.Key.TheVariants as key
use Rattle.ja_abstract.specs.declared.abstraction.Slot.TheVariants as slot
use Rattle.ja_abstract.specs.AbstractState.{is_key, is_label, label_number}
use Rattle.ja_value.specs.Value.{property_of}
use Rattle.ja_table.proofs.Ascending.{Ascends}
use Rattle.ja_report.specs.Lines.{is_entry, is_undefined, mask_text}
use Rattle.ja_report.specs.Texts.{attrs_text}
use Rattle.ja_cert_parts.specs.declared.listed.EntryAt.{EntryAt}
use Rattle.ja_cert_parts.specs.declared.listed.MaskAt.{MaskAt}
use Rattle.ja_cert_parts.specs.declared.listed.PropertyAt.{PropertyAt}
use Rattle.ja_cert_parts.specs.declared.listed.RegisterAt.{RegisterAt}
use Rattle.ja_cert.specs.Certificate.{key_data, line_data, value_data}
use Rattle.ja_cert.specs.Wrong as wrong
use Rattle.ja_cert.specs.Wrong.{Path, at, first_of, first_number, here_unless, is_above, key_rank, mask_words, or_else, owned_wrong, pair_number, position, position_of, unknown_attrs, value_is, value_wrong, attrs_wrong, entry_wrong, mask_wrong, property_wrong, register_wrong, is_of_entry, is_of_property, is_of_register}
use Rattle.ja_cert_read.specs.code.Building.{entry_data, mask_data, property_data, register_data, property_in, register_value, AreRight}
use Rattle.ja_cert_read.proofs.Below.{IsBelow}
use Rattle.ja_cert_read.proofs.Pairs.{key_place, number_rank, pair_rank}
use Rattle.ja_cert_read.proofs.Plain.{entry_is, mask_is, undefined_is}
use Rattle.ja_cert_read.proofs.Right.{right_members}
use Rattle.ja_cert_read.proofs.Told.{or_else_none}

-- ---- registers

abbrev pub RightRegister : Program → FnId → RegisterAt → Type 0
RightRegister p f x =
    (x.register < registers_of p f) × (is_undefined p (register_value x) ≡ false)

register_fields : (below ascends plain : Bool) (v : Option Path)
    → first_of (at 0 (here_unless below) ∷ here_unless ascends ∷ at 1 v
    ∷ here_unless (not plain) ∷ []) ≡ None → (below ≡ true) × (ascends ≡ true) × (plain ≡ false)
register_fields true true false v none = (refl, refl, refl)
register_fields true true true None none = absurd (cc)
register_fields true true true (Some path) none = absurd (cc)
register_fields true false plain v none = absurd (cc)
register_fields false ascends plain v none = absurd (cc)

module _ (p : Program) (f : FnId) where
  each_register : (before : List Data) (x : RegisterAt)
      → register_wrong p f before (register_data p x) ≡ None
      → RightRegister p f x × (is_above first_number before (register_data p x) ≡ true)
  unfolding line_data register_wrong
  each_register before x none =
      let v = register_value x in
      let parts = register_fields (nat_lt x.register (registers_of p f))
      (is_above first_number before (register_data p x))
      (value_is (codes "undefined") (value_data p v))
      (value_wrong p is_of_register (value_data p v)) none in
      let plain : is_undefined p v ≡ false = elim (cases_Bool (is_undefined p v)) [
        | inl is ↦ absurd (true≢false (sym (undefined_is p v is) ∙ parts.2))
        | inr not ↦ not
      ] in
      ((ltb-true x.register (registers_of p f) parts.0, plain), parts.1)

  numbered_register : (x : RegisterAt) → RightRegister p f x
      → first_number (register_data p x) ≡ number_rank x.register
  unfolding line_data
  numbered_register x right = refl

  pub right_registers : (xs : List RegisterAt)
      → AreRight (register_wrong p f) (register_data p) xs
      → AllByRecursion (RightRegister p f) xs
      × Ascends (λ (x y : RegisterAt). IsBelow (number_rank x.register) (number_rank y.register)) xs
  right_registers =
      right_members (register_wrong p f) first_number (register_data p) (RightRegister p f)
      (λ (x : RegisterAt). number_rank x.register) each_register numbered_register

-- ---- masks

abbrev pub RightMask : Program → MaskAt → Type 0
RightMask p x = (x.site.0 < length p.sites) × (x.mask.some ≡ true)

mask_fields : (below ascends word : Bool)
    → first_of (at 0 (here_unless below) ∷ here_unless ascends ∷ at 1 (here_unless word) ∷ [])
    ≡ None → (below ≡ true) × (ascends ≡ true) × (word ≡ true)
mask_fields true true true none = (refl, refl, refl)
mask_fields true true false none = absurd (cc)
mask_fields true false word none = absurd (cc)
mask_fields false ascends word none = absurd (cc)

module _ (p : Program) where
  each_mask : (before : List Data) (x : MaskAt) → mask_wrong p before (mask_data p x) ≡ None
      → RightMask p x × (is_above first_number before (mask_data p x) ≡ true)
  unfolding line_data mask_wrong
  each_mask before x none =
      let parts = mask_fields (nat_lt x.site.0 (length p.sites))
      (is_above first_number before (mask_data p x))
      (is_some (position_of mask_words (string (mask_text x.mask)))) none in
      ((ltb-true x.site.0 (length p.sites) parts.0, mask_is x.mask parts.2), parts.1)

  numbered_mask : (x : MaskAt) → RightMask p x
      → first_number (mask_data p x) ≡ number_rank x.site.0
  unfolding line_data
  numbered_mask x right = refl

  pub right_masks : (xs : List MaskAt) → AreRight (mask_wrong p) (mask_data p) xs
      → AllByRecursion (RightMask p) xs
      × Ascends (λ (x y : MaskAt). IsBelow (number_rank x.site.0) (number_rank y.site.0)) xs
  right_masks =
      right_members (mask_wrong p) first_number (mask_data p) (RightMask p)
      (λ (x : MaskAt). number_rank x.site.0) each_mask numbered_mask

-- ---- labels and keys

label_within : (p : Program) (l : Label) → nat_lt (label_number l) (2 * length p.sites) ≡ true
    → IsTrue (is_label p l)
label_within p l h =
    let below : label_number l < 2 * length p.sites =
    ltb-true (label_number l) (2 * length p.sites) h in
    lt-ltb l.site.0 (length p.sites) (omega (arith, below))

abbrev pub rank_or_none : Option ℕ → ℕ
rank_or_none o = option_map_or (λ (n : ℕ). n) o 0

name_within : (n : ℕ) (b : Bool) → is_some (if b then Some n else None) ≡ true
    → (b ≡ true) × (rank_or_none (if b then Some n else None) ≡ n)
name_within n true h = (refl, refl)
name_within n false h = absurd (false≢true h)

key_within : (p : Program) (k : Key) → is_some (key_rank p (key_data k)) ≡ true
    → IsTrue (is_key p k) × (rank_or_none (key_rank p (key_data k)) ≡ key_place (length p.names) k)
unfolding position
key_within p (key.Name n) h = name_within n.0 (nat_lt n.0 (length p.names)) h
key_within p key.OtherIndex h = (refl, omega arith)
key_within p key.OtherName h = (refl, refl)
key_within p (key.Slot slot.Prototype) h = (refl, refl)
key_within p (key.Slot slot.Outer) h = (refl, refl)
key_within p (key.Slot slot.Scope) h = (refl, refl)
key_within p (key.Slot slot.Value) h = (refl, refl)

-- ---- properties

abbrev pub RightProperty : Program → PropertyAt → Type 0
RightProperty p x =
    IsTrue (is_label p x.label) × IsTrue (is_key p x.key) × (is_entry p (property_in x) ≡ false)

not_so : (b : Bool) → here_unless (not b) ≡ None → b ≡ false
not_so true none = absurd (cc)
not_so false none = refl

entry_fields : (label key ascends : Bool) (rest : Option Path)
    → or_else (at 0 (here_unless label)) (or_else (at 1 (here_unless key))
    (or_else (here_unless ascends) rest)) ≡ None
    → (label ≡ true) × (key ≡ true) × (ascends ≡ true)
entry_fields true true true rest none = (refl, refl, refl)
entry_fields true true false rest none = absurd (cc)
entry_fields true false ascends rest none = absurd (cc)
entry_fields false key ascends rest none = absurd (cc)

module _ (p : Program) where
  each_property : (before : List Data) (x : PropertyAt)
      → property_wrong p before (property_data p x) ≡ None
      → RightProperty p x × (is_above (pair_number p) before (property_data p x) ≡ true)
  unfolding line_data property_wrong owned_wrong
  each_property before x none =
      let q = property_in x in
      let attrs = string (attrs_text x.key q.attrs) in
      let entry = value_is (codes "entry") (value_data p q.value) in
      let unknown = wrong.is_word (same_text unknown_attrs) attrs in
      let both = or_else_none (owned_wrong p is_of_property
      (is_above (pair_number p) before (property_data p x)) (property_data p x))
      (here_unless (not (entry && unknown))) none in
      let parts = entry_fields (nat_lt (label_number x.label) (2 * length p.sites))
      (is_some (key_rank p (key_data x.key)))
      (is_above (pair_number p) before (property_data p x)) (first_of
      (at 2 (value_wrong p is_of_property (value_data p q.value))
      ∷ at 3 (attrs_wrong p (key_data x.key) attrs) ∷ [])) both.0 in
      let other : is_entry p q ≡ false = elim (cases_Bool (is_entry p q)) [
        | inl is ↦ let words = entry_is p x.key q is in
            absurd (true≢false (sym (and_from entry unknown words.0 words.1)
            ∙ not_so (entry && unknown) both.1))
        | inr not ↦ not
      ] in (
        (label_within p x.label parts.0, (key_within p x.key parts.1).0, other),
        parts.2,
      )

  pub pair_numbered : (l : Label) (k : Key) → IsTrue (is_key p k)
      → rank_or_none (key_rank p (key_data k)) ≡ key_place (length p.names) k
  unfolding position
  pair_numbered l (key.Name n) h = rw h refl
  pair_numbered l key.OtherIndex h = omega arith
  pair_numbered l key.OtherName h = refl
  pair_numbered l (key.Slot slot.Prototype) h = refl
  pair_numbered l (key.Slot slot.Outer) h = refl
  pair_numbered l (key.Slot slot.Scope) h = refl
  pair_numbered l (key.Slot slot.Value) h = refl

  numbered_property : (x : PropertyAt) → RightProperty p x
      → pair_number p (property_data p x) ≡ pair_rank (length p.names) (x.label, x.key)
  unfolding line_data
  numbered_property x right =
      ap (λ (n : ℕ). label_number x.label ∷ n ∷ []) (pair_numbered x.label x.key right.1)

  pub right_properties : (xs : List PropertyAt) → AreRight (property_wrong p) (property_data p) xs
      → AllByRecursion (RightProperty p) xs
      × Ascends (λ (x y : PropertyAt). IsBelow (pair_rank (length p.names) (x.label, x.key))
      (pair_rank (length p.names) (y.label, y.key))) xs
  right_properties =
      right_members (property_wrong p) (pair_number p) (property_data p) (RightProperty p)
      (λ (x : PropertyAt). pair_rank (length p.names) (x.label, x.key)) each_property
      numbered_property

-- ---- values at entry

abbrev pub RightEntry : Program → EntryAt → Type 0
RightEntry p x = IsTrue (is_label p x.label) × IsTrue (is_key p x.key)

module _ (p : Program) where
  each_entry : (before : List Data) (x : EntryAt) → entry_wrong p before (entry_data p x) ≡ None
      → RightEntry p x × (is_above (pair_number p) before (entry_data p x) ≡ true)
  unfolding line_data entry_wrong owned_wrong
  each_entry before x none =
      let q = property_of x.property in
      let parts = entry_fields (nat_lt (label_number x.label) (2 * length p.sites))
      (is_some (key_rank p (key_data x.key))) (is_above (pair_number p) before (entry_data p x))
      (first_of (at 2 (value_wrong p is_of_entry (value_data p q.value))
      ∷ at 3 (attrs_wrong p (key_data x.key) (string (attrs_text x.key q.attrs))) ∷ [])) none in
      ((label_within p x.label parts.0, (key_within p x.key parts.1).0), parts.2)

  numbered_entry : (x : EntryAt) → RightEntry p x
      → pair_number p (entry_data p x) ≡ pair_rank (length p.names) (x.label, x.key)
  unfolding line_data
  numbered_entry x right =
      ap (λ (n : ℕ). label_number x.label ∷ n ∷ []) (pair_numbered p x.label x.key right.1)

  pub right_entries : (xs : List EntryAt) → AreRight (entry_wrong p) (entry_data p) xs
      → AllByRecursion (RightEntry p) xs
      × Ascends (λ (x y : EntryAt). IsBelow (pair_rank (length p.names) (x.label, x.key))
      (pair_rank (length p.names) (y.label, y.key))) xs
  right_entries =
      right_members (entry_wrong p) (pair_number p) (entry_data p) (RightEntry p)
      (λ (x : EntryAt). pair_rank (length p.names) (x.label, x.key)) each_entry numbered_entry
