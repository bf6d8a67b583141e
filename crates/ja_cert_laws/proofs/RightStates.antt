-- Registers, properties, values at entry and masks are written as a certificate has them.
use Rattle.std.proofs.Common.{◌≡◌, ◌<◌, ◌≤◌, ◌+◌, ◌*◌, ◌==◌, ℕ, Bool, true, false, not, ◌&&◌, ◌||◌, cond, List, [], ◌∷◌, map, filter, length, Option, Some, None, refl, sym, ap, subst, ◌∙◌, inl, inr, arith}
use Rattle.std.specs.Prelude.{IsTrue, is_some, nat_le, nat_lt}
use Rattle.std.specs.List.{list_all, list_any, AllByRecursion, range_with_len}
use Rattle.std.specs.Option.{option_map, option_map_or}
use Rattle.std.proofs.lemmas.Bool.{and_from, and_parts, cases_Bool, eqb-true, false≢true, le-leb, lt-ltb, ltb-true, true≢false}
use Rattle.std.proofs.lemmas.Bool.Decides.{nat_tests}
use lib.Chars.{codes}
use Rattle.serde_json.specs.Data.{Data, null, boolean, number, string, array, object, no_items, item}
use Rattle.ja_base.proofs.Lists.{all_weaker}
use Rattle.ja_base.specs.declared.ids.FnId.{FnId}
use Rattle.ja_base.specs.declared.ids.Label.{Label}
use Rattle.ja_graph.specs.declared.program.Program.{Program}
use Rattle.ja_machine.specs.Frames.{parameters_of, registers_of}
use Rattle.ja_prim.specs.Texts.{same_text}
use Rattle.ja_abstract.specs.declared.abstraction.AAttrs.{AAttrs}
use Rattle.ja_abstract.specs.declared.abstraction.Key.{Key}
use Rattle.ja_abstract.specs.declared.abstraction.Key.TheVariants as key
use Rattle.ja_abstract.specs.declared.abstraction.May.{May}
use Rattle.ja_abstract.specs.declared.abstraction.NumberPart.TheVariants as number_part
use Rattle.ja_abstract.specs.declared.abstraction.Slot.TheVariants as slot
use Rattle.ja_abstract.specs.declared.abstraction.TextPart.TheVariants as text_part
use Rattle.ja_abstract.specs.AbstractValue.{AbstractValue, AbstractProperty, Labels, entry_property, entry_value, has_number, has_part, has_present_flag, has_text, no_labels, undefined_value, unknown_attrs}
use Rattle.ja_abstract.specs.AbstractState.{AbstractState, is_key, is_label, keys_of, label_number, labels_of}
use Rattle.ja_abstract.proofs.Texts.{text_same}
use Rattle.ja_abstract.specs.Resolved.{Entries}
use Rattle.ja_aheap.proofs.UpdateLemmas.{label_within}
use Rattle.ja_table.proofs.Ascending.{from_flat_map, from_map, from_range, of_each, of_member}
use Rattle.ja_report.specs.Lines as lines
use Rattle.ja_report.specs.Lines.{entry, entry_lines, has_attrs, is_undefined, mask_line, mask_lines, property, property_line, property_lines, register, register_line, register_lines}
use Rattle.ja_report.specs.Texts.{attr_text, attrs_text, property_parts}
use Rattle.ja_cert.specs.Certificate.{key_data, label_data, line_data, lines_data, listed, value_data, whole}
use Rattle.ja_cert.specs.Wrong as wrong
use Rattle.ja_cert.specs.Wrong.{are_attrs, at, attrs_wrong, entry_wrong, first_number, here_unless, is_above, is_attr, is_below, is_of_entry, is_of_property, is_of_register, is_slot, is_word, key_rank, list_in, list_wrong, mask_wrong, owned_wrong, pair_number, position, position_of, property_wrong, register_wrong, value_is, value_wrong}
use Rattle.ja_cert_laws.specs.Back.{HasPart}
use Rattle.ja_cert_read.specs.Said.{said_attrs, said_property, said_value}
use Rattle.ja_abstract.specs.Profile.{IsValueOfProfile}
use Rattle.ja_cert_laws.proofs.Sayable.{IsEntryProperty, IsProperty, IsRegisterValue}
use Rattle.ja_cert_laws.proofs.Climbing.{list_right, places_climb, IsOne}
use Rattle.ja_cert_laws.proofs.Properties.{attrs_same, at_entry, at_mask, at_property, entries_are, entry_data, entry_placed, mask_data, mask_placed, masks_are, pairs_are, properties_are, property_data, property_placed}
use Rattle.ja_cert_laws.proofs.Registers.{at_register, register_data, register_placed, registers_are}
use Rattle.ja_cert_laws.proofs.RightValues.{value_right}
use Rattle.ja_cert_laws.proofs.Values.{value_same}
use Rattle.ja_cert_read.proofs.Listing.{pairs}
use Rattle.ja_cert_read.proofs.Pairs.{labels_are, number_rank, numbers_ascend, pair_rank, pairs_ascend}
use Rattle.ja_cert_parts.proofs.FaultLemmas.{none_later}
use Rattle.ja_cert_read.proofs.Told.{all_right}

-- ---- what is left out by a report

any_said : (p : Program) (v : Labels) (ls : List Label)
    → AllByRecursion (λ (l : Label). IsTrue (is_label p l)) ls
    → list_any (λ l. is_label p l && v l) ls ≡ list_any v ls
any_said p v [] all = refl
any_said p v (l ∷ ls) all =
    let rest = any_said p v ls all.1 in
    λ i. (all.0 i && v l) || rest i

part_said : (p : Program) (v : AbstractValue)
    → has_part (labels_of p) (said_value p v) ≡ has_part (labels_of p) v
part_said p v =
    let labels = any_said p v.label (labels_of p) (of_each _ (labels_of p) (labels_are p)) in
    λ i. v.flags.absent || v.flags.entry
    || (has_present_flag v.flags || has_number v.number || has_text v.text || labels i)

undefined_said : (p : Program) (v : AbstractValue)
    → is_undefined p (said_value p v) ≡ is_undefined p v
unfolding is_undefined
undefined_said p v =
    ap (λ b. v.flags.undefined && not b)
    (part_said p (record v { flags = record v.flags { undefined = false } }))

entry_said : (p : Program) (v : AbstractValue) (known : Bool)
    → (v.flags.entry && not (has_part (labels_of p) (record (said_value p v) {
      flags = record v.flags { entry = false };
    })) && not known)
    ≡ (v.flags.entry && not (has_part (labels_of p) (record v {
      flags = record v.flags { entry = false };
    })) && not known)
entry_said p v known =
    ap (λ b. v.flags.entry && not b && not known)
    (part_said p (record v { flags = record v.flags { entry = false } }))

-- one word alone is the data of the value that is just that word
one_word : (word : List ℕ) (d : Data) → value_is word d ≡ true → d ≡ listed (string word ∷ [])
one_word word d h = by_data d h
  where
    by_item : (e : Data) → (is_word (same_text word) e && true) ≡ true → e ≡ string word
    by_item null h = absurd (false≢true h)
    by_item (boolean b) h = absurd (false≢true h)
    by_item (number n) h = absurd (false≢true h)
    by_item (string w) h =
        ap string (sym (text_same word w (and_parts (same_text word w) true h).0))
    by_item (array ds) h = absurd (false≢true h)
    by_item (object ms) h = absurd (false≢true h)

    by_data : (d : Data) → value_is word d ≡ true → d ≡ listed (string word ∷ [])
    by_data null h = absurd (false≢true h)
    by_data (boolean b) h = absurd (false≢true h)
    by_data (number n) h = absurd (false≢true h)
    by_data (string s) h = absurd (false≢true h)
    by_data (array no_items) h = absurd (false≢true h)
    by_data (array (item e no_items)) h =
        ap (λ x. array (item x no_items)) (by_item e h)
    by_data (array (item e (item x more))) h =
        let all : List Data = e ∷ x ∷ list_in more in
        absurd (omega (
          arith,
          eqb-true (length all) 1 (and_parts (length all == 1)
              (list_all (is_word (same_text word)) all) h).0,
        ))
    by_data (object ms) h = absurd (false≢true h)

none_kept : (ls : List Label) → filter no_labels ls ≡ []
none_kept [] = refl
none_kept (l ∷ ls) = none_kept ls

-- a value without a number and a text
none_of : (v : AbstractValue) → has_number v.number ≡ false → has_text v.text ≡ false
    → IsValueOfProfile v
none_of v no_number no_text = record {
  number = λ z is. absurd (false≢true (sym no_number ∙ ap has_number is));
  text = λ t is. absurd (false≢true (sym no_text ∙ ap has_text is));
}

undefined_profile : IsValueOfProfile undefined_value
undefined_profile = none_of undefined_value refl refl

entry_profile : IsValueOfProfile entry_value
entry_profile = none_of entry_value refl refl

module _ (p : Program) where
  undefined_data : value_data p undefined_value ≡ listed (string (codes "undefined") ∷ [])
  unfolding value_data property_parts
  undefined_data =
      ap (λ ls. listed (string (codes "undefined") ∷ map label_data ls)) (none_kept (labels_of p))

  entry_data_is : value_data p entry_value ≡ listed (string (codes "entry") ∷ [])
  unfolding value_data property_parts
  entry_data_is =
      ap (λ ls. listed (string (codes "entry") ∷ map label_data ls)) (none_kept (labels_of p))

  undefined_itself : is_undefined p undefined_value ≡ true
  unfolding is_undefined
  undefined_itself = ap not (none_any (labels_of p))
    where
      none_any : (ls : List Label) → list_any no_labels ls ≡ false
      none_any [] = refl
      none_any (l ∷ ls) = none_any ls

  other_value : (v : AbstractValue) → IsValueOfProfile v → is_undefined p v ≡ false
      → value_is (codes "undefined") (value_data p v) ≡ false
  other_value v profile other =
      elim (cases_Bool (value_is (codes "undefined") (value_data p v))) [
        | inl is ↦ absurd (true≢false (sym undefined_itself ∙ sym (undefined_said p undefined_value)
            ∙ ap (is_undefined p) (sym (value_same p v undefined_value profile undefined_profile
            (one_word (codes "undefined") (value_data p v) is ∙ sym undefined_data)))
            ∙ undefined_said p v ∙ other))
        | inr not ↦ not
      ]

-- ---- registers

clash : (b c : Bool) → b ≡ false → b ≡ true → c ≡ true
clash b c none is = absurd (true≢false (sym is ∙ none))

module _ (p : Program) where
  register_value : (v : AbstractValue) → IsRegisterValue v
      → value_wrong p is_of_register (value_data p v) ≡ None
  register_value v h =
      value_right p is_of_register v (record {
        absent = clash v.flags.absent _ h.shaped.absent;
        entry = clash v.flags.entry _ h.shaped.entry;
        row = clash v.flags.row _ h.shaped.row;
        others = λ k low. le-leb 3 k low;
      }) h.profile

  module _ (f : FnId) (a : AbstractState)
      (of : (r : ℕ) → r < registers_of p f → IsRegisterValue (a.register r)) where
    register_one : (r : ℕ) → r < registers_of p f
        → IsOne (register_wrong p f) first_number (at_register p f a r)
    unfolding at_register register_data register_line line_data register_wrong
    register_one r within = by_test (is_undefined p (a.register r)) refl
      where
        by_test : (b : Bool) → is_undefined p (a.register r) ≡ b
            → IsOne (register_wrong p f) first_number (map (line_data p)
            (cond b [] (register (parameters_of p f) r (a.register r) ∷ [])))
        by_test true is = tt
        by_test false is = λ before above.
            let v : AbstractValue = a.register r in
            let fine = register_value v (of r within) in
            let other = other_value p v (of r within).profile is in
            all_right (at 0 (here_unless (is_below (registers_of p f) (whole r)))
            ∷ here_unless (is_above first_number before (listed (whole r ∷ value_data p v ∷ [])))
            ∷ at 1 (value_wrong p is_of_register (value_data p v))
            ∷ here_unless (not (value_is (codes "undefined") (value_data p v))) ∷ []) (
              ap (λ b. at 0 (here_unless b)) (lt-ltb r (registers_of p f) within),
              (ap here_unless above, (ap (at 1) fine, (ap (λ b. here_unless (not b)) other, tt))),
            )

    pub registers_right : list_wrong (register_wrong p f) (lines_data p (register_lines p f a))
        ≡ None
    unfolding at_register
    registers_right =
        let places : List ℕ = range_with_len 0 (registers_of p f) in
        ap (λ ds. list_wrong (register_wrong p f) (listed ds)) (registers_are p f a)
        ∙ list_right (register_wrong p f) first_number _
        (places_climb (register_wrong p f) first_number number_rank (at_register p f a) places
        (numbers_ascend (registers_of p f))
        (of_each _ places (λ r m. register_placed p (parameters_of p f) r (a.register r)))
        (of_each _ places (λ r m.
        let range = from_range 0 (registers_of p f) r m in
        register_one r (omega (arith, range.1)))))

-- ---- masks

module _ (p : Program) where
  mask_word : (s : ℕ) (none some : Bool) → (none || some) ≡ true → s < length p.sites
      → IsOne (mask_wrong p) first_number (mask_data p s (record { none = none; some = some }))
  unfolding mask_data mask_line line_data mask_wrong position
  mask_word s true false h within = tt
  mask_word s true true h within = λ before above.
      all_right (at 0 (here_unless (is_below (length p.sites) (whole s)))
      ∷ here_unless (is_above first_number before
      (listed (whole s ∷ string (codes "maybe") ∷ []))) ∷ None ∷ []) (
        ap (λ b. at 0 (here_unless b)) (lt-ltb s (length p.sites) within),
        (ap here_unless above, (refl, tt)),
      )
  mask_word s false true h within = λ before above.
      all_right (at 0 (here_unless (is_below (length p.sites) (whole s)))
      ∷ here_unless (is_above first_number before
      (listed (whole s ∷ string (codes "some") ∷ []))) ∷ None ∷ []) (
        ap (λ b. at 0 (here_unless b)) (lt-ltb s (length p.sites) within),
        (ap here_unless above, (refl, tt)),
      )
  mask_word s false false h within = absurd (false≢true h)

  pub masks_right : (a : AbstractState) → ((s : ℕ) → s < length p.sites → HasPart (a.mask s))
      → list_wrong (mask_wrong p) (lines_data p (mask_lines p a)) ≡ None
  unfolding at_mask
  masks_right a parts =
      let places : List ℕ = range_with_len 0 (length p.sites) in
      ap (λ ds. list_wrong (mask_wrong p) (listed ds)) (masks_are p a)
      ∙ list_right (mask_wrong p) first_number _
      (places_climb (mask_wrong p) first_number number_rank (at_mask p a) places
      (numbers_ascend (length p.sites))
      (of_each _ places (λ s m. mask_placed p s (a.mask s)))
      (of_each _ places (λ s m.
      let range = from_range 0 (length p.sites) s m in
      let within : s < length p.sites = omega (arith, range.1) in
      mask_word s (a.mask s).none (a.mask s).some (parts s within) within)))

-- ---- attributes and keys

attr_right : (letter : ℕ) (m : May) → is_attr letter (attr_text letter m) ≡ true
attr_right letter m = by_parts m.set m.unset
  where
    by_parts : (a b : Bool)
        → is_attr letter (cond a (cond b 63 letter) (cond b 45 46)) ≡ true
    by_parts true true = grind (arith, nat_tests)
    by_parts true false = grind (arith, nat_tests)
    by_parts false true = grind (arith, nat_tests)
    by_parts false false = grind (arith, nat_tests)

letters_right : (a : AAttrs) → are_attrs (attr_text 82 a.read_only ∷ attr_text 69 a.dont_enum
    ∷ attr_text 68 a.dont_delete ∷ []) ≡ true
letters_right a =
    and_from _ _ (and_from _ _ (attr_right 82 a.read_only) (attr_right 69 a.dont_enum))
    (attr_right 68 a.dont_delete)

module _ (p : Program) where
  name_of_names : (n : ℕ) (b : Bool) → nat_lt n (length p.names) ≡ b → b ≡ true
      → nat_le (length p.names + 2) n ≡ false
  name_of_names n b is h =
      let within : n < length p.names = ltb-true n (length p.names) (is ∙ h) in
      grind (arith, nat_tests)

  key_right : (k : Key) → IsTrue (is_key p k) → is_some (key_rank p (key_data k)) ≡ true
  unfolding position
  key_right (key.Name n) h =
      ap (λ b. is_some (cond b (Some n.0) (option_map (λ (m : ℕ). length p.names + m)
      (position_of wrong.key_words (whole n.0))))) h
  key_right key.OtherIndex h = refl
  key_right key.OtherName h = refl
  key_right (key.Slot slot.Prototype) h = refl
  key_right (key.Slot slot.Outer) h = refl
  key_right (key.Slot slot.Scope) h = refl
  key_right (key.Slot slot.Value) h = refl

  slot_of_name : (n : ℕ) → nat_lt n (length p.names) ≡ true → is_slot p (whole n) ≡ false
  slot_of_name n h =
      ap (λ b. option_map_or (λ (m : ℕ). nat_le (length p.names + 2) m)
      (cond b (Some n) (option_map (λ (m : ℕ). length p.names + m)
      (position_of wrong.key_words (whole n)))) false) h
      ∙ name_of_names n true h refl

  above : (n : ℕ) → nat_le (n + 2) (n + 0) ≡ false
  above n = grind (arith, nat_tests)

  next : (n : ℕ) → nat_le (n + 2) (n + 1) ≡ false
  next n = grind (arith, nat_tests)

  reached : (n m : ℕ) → 2 ≤ m → nat_le (n + 2) (n + m) ≡ true
  reached n m low = le-leb (n + 2) (n + m) (omega arith)

  attrs_right : (k : Key) (a : AAttrs) → IsTrue (is_key p k)
      → attrs_wrong p (key_data k) (string (attrs_text k a)) ≡ None
  unfolding attrs_wrong attrs_text position
  attrs_right (key.Name n) a h =
      ap (λ b. here_unless (is_word (cond b (same_text wrong.unknown_attrs) are_attrs)
      (string (attrs_text (key.Name n) a)))) (slot_of_name n.0 h)
      ∙ ap here_unless (letters_right a)
  attrs_right key.OtherIndex a h =
      ap (λ b. here_unless (is_word (cond b (same_text wrong.unknown_attrs) are_attrs)
      (string (attrs_text key.OtherIndex a)))) (above (length p.names))
      ∙ ap here_unless (letters_right a)
  attrs_right key.OtherName a h =
      ap (λ b. here_unless (is_word (cond b (same_text wrong.unknown_attrs) are_attrs)
      (string (attrs_text key.OtherName a)))) (next (length p.names))
      ∙ ap here_unless (letters_right a)
  attrs_right (key.Slot slot.Prototype) a h =
      ap (λ b. here_unless (is_word (cond b (same_text wrong.unknown_attrs) are_attrs)
      (string (codes "...")))) (reached (length p.names) 2 (omega arith))
  attrs_right (key.Slot slot.Outer) a h =
      ap (λ b. here_unless (is_word (cond b (same_text wrong.unknown_attrs) are_attrs)
      (string (codes "...")))) (reached (length p.names) 3 (omega arith))
  attrs_right (key.Slot slot.Scope) a h =
      ap (λ b. here_unless (is_word (cond b (same_text wrong.unknown_attrs) are_attrs)
      (string (codes "...")))) (reached (length p.names) 4 (omega arith))
  attrs_right (key.Slot slot.Value) a h =
      ap (λ b. here_unless (is_word (cond b (same_text wrong.unknown_attrs) are_attrs)
      (string (codes "...")))) (reached (length p.names) 5 (omega arith))

  owned_right : (l : Label) (k : Key) (v a : Data) (allowed : ℕ → Bool) (ascends : Bool)
      → IsTrue (is_label p l) → IsTrue (is_key p k) → ascends ≡ true
      → value_wrong p allowed v ≡ None → attrs_wrong p (key_data k) a ≡ None
      → owned_wrong p allowed ascends (listed (label_data l ∷ key_data k ∷ v ∷ a ∷ [])) ≡ None
  unfolding owned_wrong
  owned_right l k v a allowed ascends label key above value attrs =
      all_right (at 0 (here_unless (wrong.is_label p (label_data l)))
      ∷ at 1 (here_unless (is_some (key_rank p (key_data k)))) ∷ here_unless ascends
      ∷ at 2 (value_wrong p allowed v) ∷ at 3 (attrs_wrong p (key_data k) a) ∷ []) (
        ap (λ b. at 0 (here_unless b)) (lt-ltb (label_number l) (2 * length p.sites)
            (label_within l (length p.sites) (2 * length p.sites) label refl)),
        (
          ap (λ b. at 1 (here_unless b)) (key_right k key),
          (ap here_unless above, (ap (at 2) value, (ap (at 3) attrs, tt))),
        ),
      )

-- ---- values at entry

module _ (p : Program) where
  pub labels_and_keys : AllByRecursion (λ (x : Label × Key).
      IsTrue (is_label p x.0) × IsTrue (is_key p x.1)) (pairs (labels_of p) (keys_of p))
  labels_and_keys = of_each _ _ (λ x m.
      let from = from_flat_map (λ (l : Label). map (λ (k : Key). (l, k)) (keys_of p)) x
      (labels_of p) m in
      let at = from_map (λ (k : Key). (from.0, k)) x (keys_of p) from.2 in (
        subst (λ (l : Label). IsTrue (is_label p l)) (ap (λ (y : Label × Key). y.0) at.2)
            (labels_are p from.0 from.1),
        of_member (λ (y : Label × Key). IsTrue (is_key p y.1)) _ x (pairs_are p) m,
      ))

  module _ (e : Entries) (of : (l : Label) (k : Key) (q : AbstractProperty) → e l k ≡ Some q
      → IsEntryProperty q) where
    entry_one : (l : Label) (k : Key) → IsTrue (is_label p l) → IsTrue (is_key p k)
        → IsOne (entry_wrong p) (pair_number p) (at_entry p e (l, k))
    unfolding at_entry entry_data line_data entry_wrong
    entry_one l k label key = by_value (e l k) refl
      where
        not_one : (j : ℕ) → 3 ≤ j → not (j == 1) ≡ true
        not_one j low = grind (arith, nat_tests)

        by_value : (o : Option AbstractProperty) → e l k ≡ o
            → IsOne (entry_wrong p) (pair_number p) (map (line_data p)
            (option_map_or (λ (q : AbstractProperty). entry l k q ∷ []) o []))
        by_value None is = tt
        by_value (Some q) is = λ before above.
            let h = of l k q is in
            owned_right p l k (value_data p q.value) (string (attrs_text k q.attrs)) is_of_entry
            (is_above (pair_number p) before (listed (label_data l ∷ key_data k
            ∷ value_data p q.value ∷ string (attrs_text k q.attrs) ∷ []))) label key above
            (value_right p is_of_entry q.value (record {
              absent = λ i. refl;
              entry = clash q.value.flags.entry _ h.entry;
              row = λ i. refl;
              others = λ j low. not_one j low;
            }) h.profile) (attrs_right p k q.attrs key)

    pub entries_right : list_wrong (entry_wrong p) (lines_data p (entry_lines p e)) ≡ None
    unfolding at_entry
    entries_right =
        let places : List (Label × Key) = pairs (labels_of p) (keys_of p) in
        let rank : Label × Key → List ℕ = pair_rank (length p.names) in
        ap (λ ds. list_wrong (entry_wrong p) (listed ds)) (entries_are p e)
        ∙ list_right (entry_wrong p) (pair_number p) _
        (places_climb (entry_wrong p) (pair_number p) rank (at_entry p e) places (pairs_ascend p)
        (all_weaker (λ (x : Label × Key). IsTrue (is_key p x.1)) _
        (λ x h. entry_placed p x.0 x.1 (e x.0 x.1) h) places (pairs_are p))
        (all_weaker (λ (x : Label × Key). IsTrue (is_label p x.0) × IsTrue (is_key p x.1)) _
        (λ x h. entry_one x.0 x.1 h.0 h.1) places labels_and_keys))

-- ---- properties

module _ (p : Program) where
  entry_itself : lines.is_entry p entry_property ≡ true
  unfolding lines.is_entry
  entry_itself = ap (λ b. not b && true) (none_any (labels_of p))
    where
      none_any : (ls : List Label) → list_any no_labels ls ≡ false
      none_any [] = refl
      none_any (l ∷ ls) = none_any ls

  property_said : (k : Key) (q : AbstractProperty) → said_attrs k q.attrs ≡ q.attrs
      → lines.is_entry p (said_property p k q) ≡ lines.is_entry p q
  unfolding lines.is_entry
  property_said k q same =
      ap (λ (x : AAttrs). q.value.flags.entry && not (has_part (labels_of p)
      (record (said_value p q.value) { flags = record q.value.flags { entry = false } }))
      && not (has_attrs x)) same
      ∙ entry_said p q.value (has_attrs q.attrs)

  unknown_text : (k : Key) → attrs_text k unknown_attrs ≡ codes "..."
  unfolding attrs_text
  unknown_text (key.Name n) = refl
  unknown_text key.OtherIndex = refl
  unknown_text key.OtherName = refl
  unknown_text (key.Slot s) = refl

  other_property : (l : Label) (k : Key) (q : AbstractProperty) → IsProperty k q
      → lines.is_entry p q ≡ false → wrong.is_entry (line_data p (property l k q)) ≡ false
  unfolding line_data
  other_property l k q of other =
      let v = value_data p q.value in
      let a = attrs_text k q.attrs in
      let value : Bool = value_is (codes "entry") v in
      let attrs : Bool = same_text wrong.unknown_attrs a in
      elim (cases_Bool (value && attrs)) [
        | inl is ↦
            let both = and_parts value attrs is in
            let values = value_same p q.value entry_value of.profile entry_profile
            (one_word (codes "entry") v both.0 ∙ sym (entry_data_is p)) in
            let letters = attrs_same k q.attrs unknown_attrs
            (sym (text_same wrong.unknown_attrs a both.1) ∙ sym (unknown_text k)) in
            let same : said_property p k q ≡ said_property p k entry_property =
            λ i. record { value = values i; attrs = letters i } in
            absurd (true≢false (sym entry_itself ∙ sym (property_said k entry_property
            (unknown_said k)) ∙ ap (lines.is_entry p) (sym same) ∙ property_said k q of.attrs
            ∙ other))
        | inr not ↦ not
      ]
    where
      unknown_said : (k : Key) → said_attrs k unknown_attrs ≡ unknown_attrs
      unknown_said (key.Name n) = refl
      unknown_said key.OtherIndex = refl
      unknown_said key.OtherName = refl
      unknown_said (key.Slot s) = refl

  module _ (a : AbstractState) (of : (l : Label) (k : Key) → IsProperty k (a.property l k)) where
    property_one : (l : Label) (k : Key) → IsTrue (is_label p l) → IsTrue (is_key p k)
        → IsOne (property_wrong p) (pair_number p) (at_property p a (l, k))
    unfolding at_property property_data property_line property_wrong line_data
    property_one l k label key = by_test (lines.is_entry p (a.property l k)) refl
      where
        one_right : (before : List Data)
            → is_above (pair_number p) before (line_data p (property l k (a.property l k))) ≡ true
            → lines.is_entry p (a.property l k) ≡ false
            → property_wrong p before (line_data p (property l k (a.property l k))) ≡ None
        one_right before above is =
            let q : AbstractProperty = a.property l k in
            let h = of l k in
            none_later _ _
            (owned_right p l k (value_data p q.value) (string (attrs_text k q.attrs)) is_of_property
            (is_above (pair_number p) before (line_data p (property l k q))) label key above
            (value_right p is_of_property q.value (record {
              absent = λ i. refl;
              entry = λ i. refl;
              row = λ i. refl;
              others = λ j low. refl;
            }) h.profile) (attrs_right p k q.attrs key))
            (ap (λ b. here_unless (not b)) (other_property l k q h is))

        by_test : (b : Bool) → lines.is_entry p (a.property l k) ≡ b
            → IsOne (property_wrong p) (pair_number p) (map (line_data p)
            (cond b [] (property l k (a.property l k) ∷ [])))
        by_test true is = tt
        by_test false is = λ before above. one_right before above is

    pub properties_right : list_wrong (property_wrong p) (lines_data p (property_lines p a)) ≡ None
    unfolding at_property
    properties_right =
        let places : List (Label × Key) = pairs (labels_of p) (keys_of p) in
        let rank : Label × Key → List ℕ = pair_rank (length p.names) in
        ap (λ ds. list_wrong (property_wrong p) (listed ds)) (properties_are p a)
        ∙ list_right (property_wrong p) (pair_number p) _
        (places_climb (property_wrong p) (pair_number p) rank (at_property p a) places
        (pairs_ascend p)
        (all_weaker (λ (x : Label × Key). IsTrue (is_key p x.1)) _
        (λ x h. property_placed p x.0 x.1 (a.property x.0 x.1) h) places (pairs_are p))
        (all_weaker (λ (x : Label × Key). IsTrue (is_label p x.0) × IsTrue (is_key p x.1)) _
        (λ x h. property_one x.0 x.1 h.0 h.1) places (labels_and_keys p)))
