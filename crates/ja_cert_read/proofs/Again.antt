-- What is listed of a state that is built of lists is what they list.
use Rattle.std.proofs.Common.{◌≡◌, ◌==◌, ◌<◌, ℕ, Bool, true, false, not, ◌&&◌, if◌then◌else◌, List, [], ◌∷◌, map, length, Option, None, refl, ap, subst, ◌∙◌}
use Rattle.std.specs.Prelude.{IsSome, IsTrue}
use Rattle.std.specs.List.{AllByRecursion, list_any, range_with_len}
use Rattle.std.specs.Option.{option_map_or}
use Rattle.std.proofs.lemmas.Bool.{and_from, eq-eqb, eqb-true, false≢true}
use Rattle.std.proofs.lemmas.List.Folds.{flat_map-map}
use Rattle.serde_json.specs.Data.{Data}
use Rattle.ja_base.specs.declared.ids.FnId.{FnId}
use Rattle.ja_base.specs.declared.ids.Label.{Label}
use Rattle.ja_base.specs.declared.ids.Site.{Site}
use Rattle.ja_graph.specs.declared.program.Program.{Program}
use Rattle.ja_machine.specs.Frames.{parameters_of, registers_of}
use Rattle.ja_abstract.specs.declared.abstraction.Key.{Key}
use Rattle.ja_abstract.specs.declared.abstraction.Mask.{Mask}
use Rattle.ja_abstract.specs.AbstractValue.{AbstractValue, AbstractProperty, no_labels, same_label, entry_property, undefined_value}
use Rattle.ja_abstract.specs.AbstractState.{AbstractState, exactly_none, is_key, is_label, keys_of, labels_of, same_key, site_of}
use Rattle.ja_abstract.specs.Lists.{Member}
use Rattle.ja_base.proofs.Lists.{all_weaker}
use Rattle.ja_aheap.specs.Entries.{entries_of}
use Rattle.ja_aheap.specs.declared.entries.DemandedEntries.{DemandedEntries}
use Rattle.ja_astate.specs.State.{state_of, IsStateOf}
use Rattle.ja_astate.specs.declared.state.AState.{AState}
use Rattle.ja_table.specs.Tables.{no_entries}
use Rattle.ja_abstract.specs.Resolved.{Entries}
use Rattle.ja_abstract.proofs.Keys.{same_key-self}
use Rattle.ja_abstract.proofs.Labels.{same_label-self}
use Rattle.ja_report.specs.Lines.{Line, entry, property, register, alloc, entry_line, entry_lines, is_entry, is_undefined, mask_line, mask_lines, object_lines, property_line, property_lines, register_line, register_lines}
use Rattle.ja_table.proofs.Ascending.{of_member, number_listed}
use Rattle.ja_cert_parts.specs.declared.listed.EntryAt.{EntryAt}
use Rattle.ja_cert_parts.specs.declared.listed.MaskAt.{MaskAt}
use Rattle.ja_cert_parts.specs.declared.listed.PropertyAt.{PropertyAt}
use Rattle.ja_cert_parts.specs.declared.listed.RegisterAt.{RegisterAt}
use Rattle.ja_cert.specs.Certificate.{line_data}
use Rattle.ja_cert.specs.Wrong.{entry_wrong, mask_wrong, property_wrong, register_wrong}
use Rattle.ja_cert_read.specs.code.Building.{entry_data, mask_data, property_data, register_data, entry_value, first_at, is_entry_at, is_mask, is_property, is_register, mask_value, property_in, register_value, entries_with, plain_state, with_masks, with_properties, with_registers, AreEntriesOfParts, AreRight, AreWithin, IsOwnEntryAt, IsPlaced, IsStateOfParts}
use Rattle.ja_cert_read.proofs.Listing.{first_at-found, first_at-none, flat_map_pairs, listed_again, map_flat_map, pairs}
use Rattle.ja_cert_read.proofs.Apart.{apart_in_order}
use Rattle.ja_cert_read.proofs.Parts.{RightEntry, RightMask, RightProperty, RightRegister, right_entries, right_masks, right_properties, right_registers}
use Rattle.ja_cert_read.proofs.Pairs.{number_rank, numbers_ascend, pair_listed, pair_rank, pair_true, pairs_ascend}
use Rattle.ja_cert_read.proofs.Said.{entries_said}
use Rattle.ja_astate.proofs.Searches.{no_label_there}
use Rattle.ja_report.proofs.ObjectLemmas.{entry_is_entry}

-- ---- what is plain has no line

undefined_is_undefined : (p : Program) → is_undefined p undefined_value ≡ true
unfolding is_undefined
undefined_is_undefined p = rw (no_label_there (labels_of p)) refl

-- ---- registers

number_self : (n : ℕ) → (n == n) ≡ true
number_self n = eq-eqb n n refl

module _ (p : Program) (f : FnId) (parameters : ℕ) where
  register_written : ℕ → AbstractValue → List Data
  register_written r v = map (line_data p) (register_line p parameters r v)

  register_plain : (r : ℕ) (v : AbstractValue) → v ≡ undefined_value → register_written r v ≡ []
  unfolding register_written register_line
  register_plain r v plain =
      ap (λ (b : Bool). map (line_data p) (if b then [] else register parameters r v ∷ []))
      (ap (is_undefined p) plain ∙ undefined_is_undefined p)

  register_once : (x : RegisterAt) (v : AbstractValue) → v ≡ register_value x
      → is_undefined p (register_value x) ≡ false
      → register_written x.register v ≡ register_data p x ∷ []
  unfolding register_written register_line line_data
  register_once x v same other =
      ap (register_written x.register) same
      ∙ ap (λ (b : Bool). map (line_data p)
      (if b then [] else register parameters x.register (register_value x) ∷ [])) other

pub registers_again : (p : Program) (f : FnId) (xs : List RegisterAt) (a : AbstractState)
    → AreRight (register_wrong p f) (register_data p) xs
    → a.register ≡ first_at is_register register_value (λ (r : ℕ). undefined_value) xs
    → map (line_data p) (register_lines p f a) ≡ map (register_data p) xs
unfolding register_lines register_written
registers_again p f xs a right is =
    let place : RegisterAt → ℕ = λ x. x.register in
    let plain : ℕ → AbstractValue = λ r. undefined_value in
    let holds = right_registers p f xs right in
    let parameters : ℕ = parameters_of p f in
    let own : (x : RegisterAt) → Member x xs → RightRegister p f x =
    λ x m. of_member (RightRegister p f) xs x holds.0 m in
    map_flat_map (line_data p) (λ (r : ℕ). register_line p parameters r (a.register r))
    (range_with_len 0 (registers_of p f))
    ∙ listed_again place number_rank (λ (r : ℕ). register_written p f parameters r (a.register r))
    (register_data p) (range_with_len 0 (registers_of p f)) xs (numbers_ascend (registers_of p f))
    holds.1 (λ x m. number_listed (registers_of p f) x.register (own x m).0)
    (λ x m. register_once p f parameters x (a.register x.register)
    (ap (λ (g : ℕ → AbstractValue). g x.register) is
    ∙ first_at-found place number_rank is_register register_value (λ y. number_self y.register)
    (λ y r e. eqb-true y.register r e) plain xs x holds.1 m) (own x m).1)
    (λ r m none. register_plain p f parameters r (a.register r)
    (ap (λ (g : ℕ → AbstractValue). g r) is
    ∙ first_at-none place number_rank is_register register_value (λ y. number_self y.register)
    (λ y s e. eqb-true y.register s e) plain xs r none))

-- ---- masks

not_plain : (none some : Bool) → some ≡ true → none && not some ≡ false
not_plain true true h = refl
not_plain false true h = refl
not_plain none false h = absurd (false≢true h)

mask_once : (p : Program) (x : MaskAt) (m : Mask) → m ≡ x.mask → x.mask.some ≡ true
    → map (line_data p) (mask_line (site_of x.site.0) m) ≡ mask_data p x ∷ []
unfolding mask_line
mask_once p x m same some =
    ap (λ (n : Mask). map (line_data p) (mask_line x.site n)) same
    ∙ ap (λ (b : Bool). map (line_data p) (if b then [] else alloc x.site x.mask ∷ []))
    (not_plain x.mask.none x.mask.some some)

mask_plain : (p : Program) (s : ℕ) (m : Mask) → m ≡ exactly_none
    → map (line_data p) (mask_line (site_of s) m) ≡ []
unfolding mask_line
mask_plain p s m plain =
    ap (λ (n : Mask). map (line_data p) (mask_line (site_of s) n)) plain

pub masks_again : (p : Program) (xs : List MaskAt) (a : AbstractState)
    → AreRight (mask_wrong p) (mask_data p) xs
    → a.mask ≡ first_at is_mask mask_value (λ (s : ℕ). exactly_none) xs
    → map (line_data p) (mask_lines p a) ≡ map (mask_data p) xs
unfolding mask_lines
masks_again p xs a right is =
    let place : MaskAt → ℕ = λ x. x.site.0 in
    let plain : ℕ → Mask = λ s. exactly_none in
    let holds = right_masks p xs right in
    let count : ℕ = length p.sites in
    let own : (x : MaskAt) → Member x xs → RightMask p x =
    λ x m. of_member (RightMask p) xs x holds.0 m in
    ap (map (line_data p)) (flat_map-map (λ (s : Site). mask_line s (a.mask s.0)) site_of
    (range_with_len 0 count))
    ∙ map_flat_map (line_data p) (λ (s : ℕ). mask_line (site_of s) (a.mask s))
    (range_with_len 0 count)
    ∙ listed_again place number_rank
    (λ (s : ℕ). map (line_data p) (mask_line (site_of s) (a.mask s))) (mask_data p)
    (range_with_len 0 count) xs (numbers_ascend count) holds.1
    (λ x m. number_listed count x.site.0 (own x m).0)
    (λ x m. mask_once p x (a.mask x.site.0) (ap (λ (g : ℕ → Mask). g x.site.0) is
    ∙ first_at-found place number_rank is_mask mask_value (λ y. number_self y.site.0)
    (λ y s e. eqb-true y.site.0 s e) plain xs x holds.1 m) (own x m).1)
    (λ s m none. mask_plain p s (a.mask s) (ap (λ (g : ℕ → Mask). g s) is
    ∙ first_at-none place number_rank is_mask mask_value (λ y. number_self y.site.0)
    (λ y t e. eqb-true y.site.0 t e) plain xs s none))

-- ---- labels and keys

pair_self : (l : Label) (k : Key) → (same_label l l && same_key k k) ≡ true
pair_self l k =
    and_from (same_label l l) (same_key k k) (same_label-self l) (same_key-self k)

-- ---- properties

property_once : (p : Program) (x : PropertyAt) (q : AbstractProperty) → q ≡ property_in x
    → is_entry p (property_in x) ≡ false
    → map (line_data p) (property_line p x.label x.key q) ≡ property_data p x ∷ []
unfolding property_line
property_once p x q same other =
    ap (λ (r : AbstractProperty). map (line_data p) (property_line p x.label x.key r)) same
    ∙ ap (λ (b : Bool). map (line_data p)
    (if b then [] else property x.label x.key (property_in x) ∷ [])) other

property_plain : (p : Program) (l : Label) (k : Key) (q : AbstractProperty) → q ≡ entry_property
    → map (line_data p) (property_line p l k q) ≡ []
unfolding property_line
property_plain p l k q plain =
    ap (λ (b : Bool). map (line_data p) (if b then [] else property l k q ∷ []))
    (ap (is_entry p) plain ∙ entry_is_entry p)

abbrev at_pair : {V : Type 0} → (Label → Key → V) → Label × Key → V
at_pair f pair = f pair.0 pair.1

pub properties_again : (p : Program) (xs : List PropertyAt) (a : AbstractState)
    → AreRight (property_wrong p) (property_data p) xs
    → ((l : Label) (k : Key) → a.property l k
    ≡ first_at is_property property_in (λ (pair : Label × Key). entry_property) xs (l, k))
    → map (line_data p) (property_lines p a) ≡ map (property_data p) xs
unfolding property_lines object_lines
properties_again p xs a right is =
    let place : PropertyAt → Label × Key = λ x. (x.label, x.key) in
    let plain : Label × Key → AbstractProperty = λ pair. entry_property in
    let rank : Label × Key → List ℕ = pair_rank (length p.names) in
    let lines : Label → Key → List Line = λ l k. property_line p l k (a.property l k) in
    let holds = right_properties p xs right in
    let own : (x : PropertyAt) → Member x xs → RightProperty p x =
    λ x m. of_member (RightProperty p) xs x holds.0 m in
    ap (map (line_data p)) (flat_map_pairs lines (labels_of p) (keys_of p))
    ∙ map_flat_map (line_data p) (at_pair lines) (pairs (labels_of p) (keys_of p))
    ∙ listed_again place rank
    (λ (pair : Label × Key). map (line_data p) (at_pair lines pair)) (property_data p)
    (pairs (labels_of p) (keys_of p)) xs (pairs_ascend p) holds.1
    (λ x m. pair_listed p x.label x.key (own x m).0 (own x m).1)
    (λ x m. property_once p x (a.property x.label x.key) (is x.label x.key
    ∙ first_at-found place rank is_property property_in (λ y. pair_self y.label y.key)
    (λ y pair e. pair_true y.label y.key pair e) plain xs x holds.1 m) (own x m).2)
    (λ pair m none. property_plain p pair.0 pair.1 (a.property pair.0 pair.1) (is pair.0 pair.1
    ∙ first_at-none place rank is_property property_in (λ y. pair_self y.label y.key)
    (λ y other e. pair_true y.label y.key other e) plain xs pair none))

-- ---- values at entry

entry_once : (p : Program) (e : Entries) (x : EntryAt) → e x.label x.key ≡ entry_value x
    → map (line_data p) (entry_line e x.label x.key) ≡ entry_data p x ∷ []
unfolding entry_line
entry_once p e x is =
    ap (λ (o : Option AbstractProperty). map (line_data p)
    (option_map_or (λ (q : AbstractProperty). entry x.label x.key q ∷ []) o [])) is

entry_plain : (p : Program) (e : Entries) (l : Label) (k : Key) → e l k ≡ None
    → map (line_data p) (entry_line e l k) ≡ []
unfolding entry_line
entry_plain p e l k none =
    ap (λ (o : Option AbstractProperty). map (line_data p)
    (option_map_or (λ (q : AbstractProperty). entry l k q ∷ []) o [])) none

abbrev pub EntriesAre : Entries → List EntryAt → Type 0
EntriesAre e xs =
    (l : Label) (k : Key) → e l k ≡ first_at is_entry_at entry_value
    (λ (pair : Label × Key). None) xs (l, k)

pub entries_again : (p : Program) (xs : List EntryAt) (e : Entries)
    → AreRight (entry_wrong p) (entry_data p) xs → EntriesAre e xs
    → map (line_data p) (entry_lines p e) ≡ map (entry_data p) xs
unfolding entry_lines
entries_again p xs e right is =
    let place : EntryAt → Label × Key = λ x. (x.label, x.key) in
    let plain : Label × Key → Option AbstractProperty = λ pair. None in
    let rank : Label × Key → List ℕ = pair_rank (length p.names) in
    let holds = right_entries p xs right in
    let own : (x : EntryAt) → Member x xs → RightEntry p x =
    λ x m. of_member (RightEntry p) xs x holds.0 m in
    ap (map (line_data p)) (flat_map_pairs (entry_line e) (labels_of p) (keys_of p))
    ∙ map_flat_map (line_data p) (at_pair (entry_line e)) (pairs (labels_of p) (keys_of p))
    ∙ listed_again place rank
    (λ (pair : Label × Key). map (line_data p) (at_pair (entry_line e) pair)) (entry_data p)
    (pairs (labels_of p) (keys_of p)) xs (pairs_ascend p) holds.1
    (λ x m. pair_listed p x.label x.key (own x m).0 (own x m).1)
    (λ x m. entry_once p e x (is x.label x.key
    ∙ first_at-found place rank is_entry_at entry_value (λ y. pair_self y.label y.key)
    (λ y pair h. pair_true y.label y.key pair h) plain xs x holds.1 m))
    (λ pair m none. entry_plain p e pair.0 pair.1 (is pair.0 pair.1
    ∙ first_at-none place rank is_entry_at entry_value (λ y. pair_self y.label y.key)
    (λ y other h. pair_true y.label y.key other h) plain xs pair none))

-- a label and a key that have a value are the program's
entry_of : (p : Program) (xs : List EntryAt) → AllByRecursion (RightEntry p) xs
    → (l : Label) (k : Key)
    → IsSome (first_at is_entry_at entry_value (λ (pair : Label × Key). None) xs (l, k))
    → IsTrue (is_label p l) × IsTrue (is_key p k)
entry_of p [] all l k there = absurd (false≢true there)
entry_of p (x ∷ xs) all l k there =
    pick (entry_of p xs all.1 l k) (is_entry_at x (l, k)) refl there
  where
    pick : (IsSome (first_at is_entry_at entry_value (λ (pair : Label × Key). None) xs (l, k))
        → IsTrue (is_label p l) × IsTrue (is_key p k)) → (b : Bool) → is_entry_at x (l, k) ≡ b
        → IsSome (if b then entry_value x
        else first_at is_entry_at entry_value (λ (pair : Label × Key). None) xs (l, k))
        → IsTrue (is_label p l) × IsTrue (is_key p k)
    pick later true same some =
        let is = pair_true x.label x.key (l, k) same in (
          subst (λ (pair : Label × Key). IsTrue (is_label p pair.0)) is all.0.0,
          subst (λ (pair : Label × Key). IsTrue (is_key p pair.1)) is all.0.1,
        )
    pick later false other some = later some

pub entry_within : (p : Program) (xs : List EntryAt) (e : Entries)
    → AreRight (entry_wrong p) (entry_data p) xs → EntriesAre e xs
    → (l : Label) (k : Key) → IsSome (e l k) → IsTrue (is_label p l) × IsTrue (is_key p k)
entry_within p xs e right is l k there =
    entry_of p xs (right_entries p xs right).0 l k
    (subst (λ (o : Option AbstractProperty). IsSome o) (is l k) there)

-- ---- the whole

pub right_within : (p : Program) (f : FnId) (xs : List RegisterAt) (heap : List PropertyAt)
    (masks : List MaskAt) → AreRight (register_wrong p f) (register_data p) xs
    → AreRight (property_wrong p) (property_data p) heap
    → AreRight (mask_wrong p) (mask_data p) masks
    → AreWithin (registers_of p f) (length p.sites) (length p.names) xs heap masks
right_within p f xs heap masks registers properties made = record {
  registers_within =
      all_weaker (RightRegister p f) (λ (x : RegisterAt). x.register < registers_of p f)
      (λ x h. h.0) xs (right_registers p f xs registers).0;
  heap_within =
      all_weaker (RightProperty p) (IsPlaced (length p.sites) (length p.names))
      (λ x h. record { label = h.0; key = h.1 }) heap (right_properties p heap properties).0;
  apart = apart_in_order (length p.names) heap (right_properties p heap properties).1;
  masks_within =
      all_weaker (RightMask p) (λ (x : MaskAt). x.site.0 < length p.sites) (λ x h. h.0) masks
      (right_masks p masks made).0;
}

pub state_is : (p : Program) (f : FnId) (xs : List RegisterAt) (heap : List PropertyAt)
    (masks : List MaskAt) (s : AState) → AreRight (register_wrong p f) (register_data p) xs
    → AreRight (property_wrong p) (property_data p) heap
    → AreRight (mask_wrong p) (mask_data p) masks → IsStateOf p (registers_of p f) s
    → state_of s ≡ with_masks masks (with_properties heap (with_registers xs plain_state))
    → IsStateOfParts p f xs heap masks s
state_is p f xs heap masks s registers properties made shape is = record {
  state = shape;
  registers_listed =
      registers_again p f xs (state_of s) registers (ap (λ (a : AbstractState). a.register) is);
  heap_listed =
      properties_again p heap (state_of s) properties
      (λ l k. ap (λ (a : AbstractState). a.property l k) is);
  masks_listed =
      masks_again p masks (state_of s) made (ap (λ (a : AbstractState). a.mask) is);
}

pub entries_are : (p : Program) (xs : List EntryAt) (e : DemandedEntries)
    → AreRight (entry_wrong p) (entry_data p) xs → AllByRecursion (IsOwnEntryAt p) xs
    → entries_of e ≡ entries_with xs no_entries → AreEntriesOfParts p xs e
entries_are p xs e right own is =
    let each : EntriesAre (entries_of e) xs = λ l k. ap (λ (f : Entries). f l k) is in
    record {
      labels = λ l k there. (entry_within p xs (entries_of e) right each l k there).0;
      keys = λ l k there. (entry_within p xs (entries_of e) right each l k there).1;
      entries_listed = entries_again p xs (entries_of e) right each;
      said = entries_said p xs (entries_of e) own each;
    }
