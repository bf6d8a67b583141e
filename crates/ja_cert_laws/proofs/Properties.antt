-- Properties, values at entry and masks that are written the same say the same.
use Rattle.std.proofs.Common.{◌≡◌, ◌<◌, ℕ, Bool, true, false, not, ◌&&◌, ◌||◌, cond, List, [], ◌∷◌, map, length, get_or, Option, Some, None, refl, sym, ap, subst, ◌∙◌, arith}
use Rattle.std.specs.Prelude.{IfSome, IsTrue}
use Rattle.std.specs.List.{flat_map, AllByRecursion, range_with_len}
use Rattle.std.specs.Option.{option_map, option_map_or}
use Rattle.std.proofs.lemmas.Bool.{or_parts}
use Rattle.std.proofs.lemmas.List.Folds.{flat_map-map}
use Rattle.serde_json.specs.Data.{Data, null}
use Rattle.serde_json.specs.Find.{as_str}
use Rattle.ja_base.proofs.Lists.{all_weaker}
use Rattle.ja_abstract.proofs.WritesInProgram.{keys_are_keys}
use Rattle.ja_base.specs.declared.ids.Label.{Label}
use Rattle.ja_base.specs.declared.ids.Site.{Site}
use Rattle.ja_graph.specs.declared.program.Program.{Program}
use Rattle.ja_abstract.specs.declared.abstraction.AAttrs.{AAttrs}
use Rattle.ja_abstract.specs.declared.abstraction.Key.{Key}
use Rattle.ja_abstract.specs.declared.abstraction.Key.TheVariants as key
use Rattle.ja_abstract.specs.declared.abstraction.Mask.{Mask}
use Rattle.ja_abstract.specs.declared.abstraction.May.{May}
use Rattle.ja_abstract.specs.AbstractValue.{AbstractProperty, unknown_attrs}
use Rattle.ja_abstract.specs.AbstractState.{AbstractState, is_key, is_label, keys_of, label_number, labels_of, site_of}
use Rattle.ja_abstract.specs.Lists.{Member}
use Rattle.ja_abstract.specs.Resolved.{Entries}
use Rattle.ja_table.proofs.Ascending.{from_flat_map, from_map, number_listed, of_each, of_member}
use Rattle.ja_report.specs.Lines.{alloc, entry, entry_line, entry_lines, has_attrs, is_entry, is_known, mask_line, mask_lines, object_lines, property, property_line, property_lines}
use Rattle.ja_report.specs.Texts.{attr_text, attrs_text}
use Rattle.ja_cert.specs.Certificate.{line_data, lines_data}
use Rattle.ja_cert.specs.Wrong as wrong
use Rattle.ja_cert.specs.Wrong.{at, first_number, pair_number}
use Rattle.ja_cert_read.specs.Said.{said_attrs, said_property}
use Rattle.ja_abstract.specs.Profile.{IsPropertyOfProfile, IsValueOfProfile}
use Rattle.ja_cert_laws.proofs.Members.{data_in, list_same}
use Rattle.ja_cert_laws.proofs.Picked.{same_at, AreAt, IsAt}
use Rattle.ja_cert_laws.proofs.Registers.{said_only}
use Rattle.ja_cert_laws.proofs.Values.{value_same}
use Rattle.ja_cert_read.proofs.Listing.{flat_map_pairs, map_flat_map, pairs}
use Rattle.ja_cert_read.proofs.Pairs.{number_rank, numbers_ascend, pair_listed, pair_rank, pairs_ascend}
use Rattle.ja_cert_read.proofs.Parts.{pair_numbered}
use Rattle.ja_cert_read.proofs.Plain.{just_entry}

-- ---- attributes

-- the letter is none of the other three
may_parts : (letter : ℕ) (a b c d : Bool) → 63 < letter
    → cond a (cond b 63 letter) (cond b 45 46) ≡ cond c (cond d 63 letter) (cond d 45 46)
    → (a ≡ c) × (b ≡ d)
may_parts letter true true true true high e = (refl, refl)
may_parts letter true true true false high e = absurd (omega arith)
may_parts letter true true false true high e = absurd (omega arith)
may_parts letter true true false false high e = absurd (omega arith)
may_parts letter true false true true high e = absurd (omega arith)
may_parts letter true false true false high e = (refl, refl)
may_parts letter true false false true high e = absurd (omega arith)
may_parts letter true false false false high e = absurd (omega arith)
may_parts letter false true true true high e = absurd (omega arith)
may_parts letter false true true false high e = absurd (omega arith)
may_parts letter false true false true high e = (refl, refl)
may_parts letter false true false false high e = absurd (omega arith)
may_parts letter false false true true high e = absurd (omega arith)
may_parts letter false false true false high e = absurd (omega arith)
may_parts letter false false false true high e = absurd (omega arith)
may_parts letter false false false false high e = (refl, refl)

may_same : (letter : ℕ) (m n : May) → 63 < letter → attr_text letter m ≡ attr_text letter n → m ≡ n
may_same letter m n high e =
    let both = may_parts letter m.set m.unset n.set n.unset high e in
    λ i. record { set = both.0 i; unset = both.1 i }

letters_same : (a b : AAttrs)
    → attr_text 82 a.read_only ∷ attr_text 69 a.dont_enum ∷ attr_text 68 a.dont_delete ∷ []
    ≡ attr_text 82 b.read_only ∷ attr_text 69 b.dont_enum ∷ attr_text 68 b.dont_delete ∷ []
    → a ≡ b
letters_same a b e =
    let read_only = may_same 82 a.read_only b.read_only (omega arith) (ap (λ l. get_or l 0 0) e) in
    let dont_enum = may_same 69 a.dont_enum b.dont_enum (omega arith) (ap (λ l. get_or l 1 0) e) in
    let dont_delete = may_same 68 a.dont_delete b.dont_delete (omega arith)
    (ap (λ l. get_or l 2 0) e) in
    λ i. record { read_only = read_only i; dont_enum = dont_enum i; dont_delete = dont_delete i }

pub attrs_same : (k : Key) (a b : AAttrs) → attrs_text k a ≡ attrs_text k b
    → said_attrs k a ≡ said_attrs k b
unfolding attrs_text
attrs_same (key.Name n) a b e = letters_same a b e
attrs_same key.OtherIndex a b e = letters_same a b e
attrs_same key.OtherName a b e = letters_same a b e
attrs_same (key.Slot s) a b e = refl

-- attributes of which none is known
unknown : (a : AAttrs) → has_attrs a ≡ false → a ≡ unknown_attrs
unknown a h =
    let last = or_parts (is_known a.read_only || is_known a.dont_enum) (is_known a.dont_delete) h in
    let first = or_parts (is_known a.read_only) (is_known a.dont_enum) last.0 in
    let r = or_parts a.read_only.set a.read_only.unset first.0 in
    let e = or_parts a.dont_enum.set a.dont_enum.unset first.1 in
    let d = or_parts a.dont_delete.set a.dont_delete.unset last.1 in
    λ i. record {
      read_only = record { set = r.0 i; unset = r.1 i };
      dont_enum = record { set = e.0 i; unset = e.1 i };
      dont_delete = record { set = d.0 i; unset = d.1 i };
    }

-- ---- the labels and keys of a program

pub pairs_are : (p : Program) → AllByRecursion (λ (x : Label × Key). IsTrue (is_key p x.1))
    (pairs (labels_of p) (keys_of p))
pairs_are p = of_each _ _ (λ x m.
    let from = from_flat_map (λ (l : Label). map (λ (k : Key). (l, k)) (keys_of p)) x
    (labels_of p) m in
    let at = from_map (λ (k : Key). (from.0, k)) x (keys_of p) from.2 in
    subst (λ (y : Label × Key). IsTrue (is_key p y.1)) at.2
    (of_member (λ (k : Key). IsTrue (is_key p k)) (keys_of p) at.0 (keys_are_keys p) at.1))

-- ---- what has a label, a key, a value and attributes

module _ (p : Program) where
  pub value_said : (l : Label) (k : Key) (q r : AbstractProperty) → IsValueOfProfile q.value
      → IsValueOfProfile r.value → line_data p (property l k q) ≡ line_data p (property l k r)
      → said_property p k q ≡ said_property p k r
  unfolding line_data
  value_said l k q r h j same =
      let value = value_same p q.value r.value h j (ap (λ d. get_or (data_in d) 2 null) same) in
      let attrs = attrs_same k q.attrs r.attrs (ap (λ d. option_map_or (λ (w : List ℕ). w)
      (as_str (get_or (data_in d) 3 null)) []) same) in
      λ i. record { value = value i; attrs = attrs i }

  owned_placed : (l : Label) (k : Key) (q : AbstractProperty) → IsTrue (is_key p k)
      → pair_number p (line_data p (property l k q)) ≡ pair_rank (length p.names) (l, k)
  unfolding line_data
  owned_placed l k q h = ap (λ (n : ℕ). label_number l ∷ n ∷ []) (pair_numbered p l k h)

  -- ---- properties

  unfoldable pub property_data : Label → Key → AbstractProperty → List Data
  property_data l k q = map (line_data p) (property_line p l k q)

  pub property_placed : (l : Label) (k : Key) (q : AbstractProperty) → IsTrue (is_key p k)
      → AllByRecursion (IsAt (pair_rank (length p.names)) (pair_number p) (l, k))
      (property_data l k q)
  unfolding property_data property_line
  property_placed l k q h = by_test (is_entry p q)
    where
      by_test : (b : Bool) → AllByRecursion
          (IsAt (pair_rank (length p.names)) (pair_number p) (l, k))
          (map (line_data p) (cond b [] (property l k q ∷ [])))
      by_test true = tt
      by_test false = (owned_placed l k q h, tt)

  property_same : (l : Label) (k : Key) (q r : AbstractProperty) → IsValueOfProfile q.value
      → IsValueOfProfile r.value → property_data l k q ≡ property_data l k r
      → said_property p k q ≡ said_property p k r
  unfolding property_data property_line
  property_same l k q r h j = by_test (is_entry p q) (is_entry p r) refl refl
    where
      by_test : (b c : Bool) → is_entry p q ≡ b → is_entry p r ≡ c
          → map (line_data p) (cond b [] (property l k q ∷ []))
          ≡ map (line_data p) (cond c [] (property l k r ∷ []))
          → said_property p k q ≡ said_property p k r
      by_test true true is also same =
          let x = just_entry p q is in
          let y = just_entry p r also in
          let value = said_only p q.value r.value _ x.only y.only in
          let attrs = unknown q.attrs x.attrs ∙ sym (unknown r.attrs y.attrs) in
          λ i. record { value = value i; attrs = said_attrs k (attrs i) }
      by_test true false is also same = absurd (omega (arith, ap length same))
      by_test false true is also same = absurd (omega (arith, ap length same))
      by_test false false is also same =
          value_said l k q r h j (ap (λ ds. get_or ds 0 null) same)

  abbrev at_pair : {V : Type 0} → (Label → Key → V) → Label × Key → V
  at_pair f x = f x.0 x.1

  unfoldable pub at_property : AbstractState → Label × Key → List Data
  at_property a x = property_data x.0 x.1 (a.property x.0 x.1)

  pub properties_are : (a : AbstractState) → map (line_data p) (property_lines p a)
      ≡ flat_map (at_property a) (pairs (labels_of p) (keys_of p))
  unfolding property_lines object_lines at_property property_data
  properties_are a =
      ap (map (line_data p)) (flat_map_pairs (λ l k. property_line p l k (a.property l k))
      (labels_of p) (keys_of p))
      ∙ map_flat_map (line_data p)
      (λ (x : Label × Key). property_line p x.0 x.1 (a.property x.0 x.1))
      (pairs (labels_of p) (keys_of p))

  pub properties_same : (a b : AbstractState) (l : Label) (k : Key) → IsTrue (is_label p l)
      → IsTrue (is_key p k)
      → IsValueOfProfile (a.property l k).value → IsValueOfProfile (b.property l k).value
      → lines_data p (property_lines p a) ≡ lines_data p (property_lines p b)
      → said_property p k (a.property l k) ≡ said_property p k (b.property l k)
  unfolding at_property
  properties_same a b l k label key profile also same =
      let places : List (Label × Key) = pairs (labels_of p) (keys_of p) in
      let rank : Label × Key → List ℕ = pair_rank (length p.names) in
      let there : Member (l, k) places = pair_listed p l k label key in
      let placed : (c : AbstractState) → AreAt rank (pair_number p) (at_property c) places =
      λ c. all_weaker (λ (x : Label × Key). IsTrue (is_key p x.1))
      (λ (x : Label × Key). AllByRecursion (IsAt rank (pair_number p) x) (at_property c x))
      (λ x h. property_placed x.0 x.1 (c.property x.0 x.1) h) places (pairs_are p) in
      property_same l k (a.property l k) (b.property l k) profile also
      (same_at rank (pair_number p) (at_property a) (at_property b) places (l, k) (pairs_ascend p)
      (placed a) (placed b) there
      (sym (properties_are a) ∙ list_same _ _ same ∙ properties_are b))

  -- ---- values at entry

  unfoldable pub entry_data : Label → Key → Option AbstractProperty → List Data
  entry_data l k o =
      map (line_data p) (option_map_or (λ (q : AbstractProperty). entry l k q ∷ []) o [])

  pub entry_placed : (l : Label) (k : Key) (o : Option AbstractProperty) → IsTrue (is_key p k)
      → AllByRecursion (IsAt (pair_rank (length p.names)) (pair_number p) (l, k)) (entry_data l k o)
  unfolding entry_data line_data
  entry_placed l k None h = tt
  entry_placed l k (Some q) h =
      (ap (λ (n : ℕ). label_number l ∷ n ∷ []) (pair_numbered p l k h), tt)

  entry_same : (l : Label) (k : Key) (o c : Option AbstractProperty) → IfSome o IsPropertyOfProfile
      → IfSome c IsPropertyOfProfile → entry_data l k o ≡ entry_data l k c
      → option_map (said_property p k) o ≡ option_map (said_property p k) c
  unfolding entry_data line_data
  entry_same l k None None h j same = refl
  entry_same l k None (Some r) h j same = absurd (omega (arith, ap length same))
  entry_same l k (Some q) None h j same = absurd (omega (arith, ap length same))
  entry_same l k (Some q) (Some r) h j same =
      ap Some (value_said l k q r h j (ap (λ ds. get_or ds 0 null) same))

  unfoldable pub at_entry : Entries → Label × Key → List Data
  at_entry e x = entry_data x.0 x.1 (e x.0 x.1)

  pub entries_are : (e : Entries) → map (line_data p) (entry_lines p e)
      ≡ flat_map (at_entry e) (pairs (labels_of p) (keys_of p))
  unfolding entry_lines entry_line at_entry entry_data
  entries_are e =
      ap (map (line_data p)) (flat_map_pairs (entry_line e) (labels_of p) (keys_of p))
      ∙ map_flat_map (line_data p) (at_pair (entry_line e)) (pairs (labels_of p) (keys_of p))

  pub entries_same : (e c : Entries) (l : Label) (k : Key) → IsTrue (is_label p l)
      → IsTrue (is_key p k) → IfSome (e l k) IsPropertyOfProfile
      → IfSome (c l k) IsPropertyOfProfile
      → lines_data p (entry_lines p e) ≡ lines_data p (entry_lines p c)
      → option_map (said_property p k) (e l k) ≡ option_map (said_property p k) (c l k)
  unfolding at_entry
  entries_same e c l k label key profile also same =
      let places : List (Label × Key) = pairs (labels_of p) (keys_of p) in
      let rank : Label × Key → List ℕ = pair_rank (length p.names) in
      let there : Member (l, k) places = pair_listed p l k label key in
      let placed : (d : Entries) → AreAt rank (pair_number p) (at_entry d) places =
      λ d. all_weaker (λ (x : Label × Key). IsTrue (is_key p x.1))
      (λ (x : Label × Key). AllByRecursion (IsAt rank (pair_number p) x) (at_entry d x))
      (λ x h. entry_placed x.0 x.1 (d x.0 x.1) h) places (pairs_are p) in
      entry_same l k (e l k) (c l k) profile also
      (same_at rank (pair_number p) (at_entry e) (at_entry c) places (l, k) (pairs_ascend p)
      (placed e) (placed c) there (sym (entries_are e) ∙ list_same _ _ same ∙ entries_are c))

  -- ---- masks

  unfoldable pub mask_data : ℕ → Mask → List Data
  mask_data s m = map (line_data p) (mask_line (site_of s) m)

  pub mask_placed : (s : ℕ) (m : Mask)
      → AllByRecursion (IsAt number_rank first_number s) (mask_data s m)
  unfolding mask_data mask_line line_data
  mask_placed s m = by_test (m.none && not m.some)
    where
      by_test : (b : Bool) → AllByRecursion (IsAt number_rank first_number s)
          (map (line_data p) (cond b [] (alloc (site_of s) m ∷ [])))
      by_test true = tt
      by_test false = (refl, tt)

  -- the first letter of a mask's word
  abbrev letter_in : List Data → ℕ
  letter_in [] = 0
  letter_in (d ∷ ds) =
      option_map_or (λ (w : List ℕ). get_or w 0 0) (as_str (get_or (data_in d) 1 null)) 0

  mask_parts : (s : ℕ) (a b c d : Bool)
      → mask_data s (record { none = a; some = b }) ≡ mask_data s (record { none = c; some = d })
      → (a ≡ c) × (b ≡ d)
  unfolding mask_data mask_line line_data
  mask_parts s true true true true e = (refl, refl)
  mask_parts s true true true false e = absurd (omega (arith, ap letter_in e))
  mask_parts s true true false true e = absurd (omega (arith, ap letter_in e))
  mask_parts s true true false false e = absurd (omega (arith, ap letter_in e))
  mask_parts s true false true true e = absurd (omega (arith, ap letter_in e))
  mask_parts s true false true false e = (refl, refl)
  mask_parts s true false false true e = absurd (omega (arith, ap letter_in e))
  mask_parts s true false false false e = absurd (omega (arith, ap letter_in e))
  mask_parts s false true true true e = absurd (omega (arith, ap letter_in e))
  mask_parts s false true true false e = absurd (omega (arith, ap letter_in e))
  mask_parts s false true false true e = (refl, refl)
  mask_parts s false true false false e = absurd (omega (arith, ap letter_in e))
  mask_parts s false false true true e = absurd (omega (arith, ap letter_in e))
  mask_parts s false false true false e = absurd (omega (arith, ap letter_in e))
  mask_parts s false false false true e = absurd (omega (arith, ap letter_in e))
  mask_parts s false false false false e = (refl, refl)

  unfoldable pub at_mask : AbstractState → ℕ → List Data
  at_mask a s = mask_data s (a.mask s)

  pub masks_are : (a : AbstractState) → map (line_data p) (mask_lines p a)
      ≡ flat_map (at_mask a) (range_with_len 0 (length p.sites))
  unfolding mask_lines at_mask mask_data
  masks_are a =
      ap (map (line_data p)) (flat_map-map (λ (s : Site). mask_line s (a.mask s.0)) site_of
      (range_with_len 0 (length p.sites)))
      ∙ map_flat_map (line_data p) (λ (s : ℕ). mask_line (site_of s) (a.mask s))
      (range_with_len 0 (length p.sites))

  pub masks_same : (a b : AbstractState) (s : ℕ) → s < length p.sites
      → lines_data p (mask_lines p a) ≡ lines_data p (mask_lines p b) → a.mask s ≡ b.mask s
  unfolding at_mask
  masks_same a b s within same =
      let count : ℕ = length p.sites in
      let places : List ℕ = range_with_len 0 count in
      let there : Member s places = number_listed count s within in
      let placed : (c : AbstractState) → AreAt number_rank first_number (at_mask c) places =
      λ c. of_each _ places (λ t m. mask_placed t (c.mask t)) in
      let both = mask_parts s (a.mask s).none (a.mask s).some (b.mask s).none (b.mask s).some
      (same_at number_rank first_number (at_mask a) (at_mask b) places s (numbers_ascend count)
      (placed a) (placed b) there (sym (masks_are a) ∙ list_same _ _ same ∙ masks_are b)) in
      λ i. record { none = both.0 i; some = both.1 i }
