-- The labels and keys of a range of numbers.
use Rattle.std.proofs.Common.{◌≡◌, ◌+◌, ◌-◌, ◌*◌, ℕ, zero, suc, List, [], ◌∷◌, ◌++◌, Bool, false, Option, Some, None, is_some, map, filter, refl, ap, sym, ◌∙◌, arith}
use Rattle.std.proofs.lemmas.List.Folds.{flat_map-map}
use Rattle.std.proofs.lemmas.List.Elements.{filter-append}
use Rattle.std.specs.List.{flat_map, range_with_len}
use Rattle.std.specs.Option.{option_map, option_map_or}
use Rattle.std.specs.Ordering.{nat_cmp}
use Rattle.std.specs.BTreeMap.{BTreeMap, get}
use Rattle.ja_base.specs.declared.ids.Label.{Label}
use Rattle.ja_abstract.specs.declared.abstraction.Key.{Key}
use Rattle.ja_abstract.specs.declared.abstraction.Key.TheVariants as key
use Rattle.ja_abstract.specs.declared.abstraction.Slot.TheVariants as slot
use Rattle.ja_abstract.specs.AbstractState.{label_number, key_number, labels_below, keys_below, name_key}
use Rattle.ja_value.specs.declared.property.AProp.{AProp}
use Rattle.ja_value.specs.Value.{property_of}
use Rattle.ja_value.specs.Labels.{label_at}
use Rattle.ja_value.proofs.LabelLemmas.{number_label, labels_range}
use Rattle.ja_aheap.specs.declared.entries.DemandedEntries.{DemandedEntries}
use Rattle.ja_aheap.specs.Numbers.{is_demanded, keys_in}
use Rattle.ja_aheap.specs.Entries.{entries_of, pairs_of}
use Rattle.ja_aheap.proofs.MapLemmas.{found}
use Rattle.ja_aheap.proofs.ListLemmas.{listing, listed_at, listing_filter}
use Rattle.ja_aheap.proofs.EntryLemmas.{read}

pub names_range : (a b n : ℕ) → b ≡ 6 + a
    → map (λ (q : ℕ). name_key (q - 6)) (range_with_len b n) ≡ map name_key (range_with_len a n)
names_range a b zero is = refl
names_range a b (suc n) is =
    let here : b - 6 ≡ a = omega arith in
    let more : map (λ (q : ℕ). name_key (q - 6)) (range_with_len (b + 1) n)
    ≡ map name_key (range_with_len (a + 1) n) = names_range (a + 1) (b + 1) n (omega arith) in
    λ i. name_key (here i) ∷ more i

-- the labels that are listed
pub labels_listed : {X : Type 0} (m : BTreeMap ℕ X) (n : ℕ)
    → listing (λ q (x : X). label_at q ∷ []) m.entries 0 (2 * n)
    ≡ filter (λ (l : Label). is_some (get nat_cmp m (label_number l))) (labels_below n)
labels_listed m n =
    listing_filter label_at (λ (l : Label). is_some (get nat_cmp m (label_number l))) m.entries 0
    (2 * n) (λ q low. ap (λ (r : ℕ). is_some (get nat_cmp m r)) (number_label q))
    ∙ ap (filter (λ (l : Label). is_some (get nat_cmp m (label_number l)))) (sym (labels_range n))

-- the names that are demanded
pub names_listed : (m : BTreeMap ℕ AProp) (n : ℕ)
    → listing (λ q (x : AProp). name_key (q - 6) ∷ []) m.entries 6 n
    ≡ filter (is_demanded m) (map name_key (range_with_len 0 n))
names_listed m n =
    listing_filter (λ (q : ℕ). name_key (q - 6)) (is_demanded m) m.entries 6 n
    (λ q low. let here : 6 + (q - 6) ≡ q = omega arith in
    ap (λ (r : ℕ). is_some (get nat_cmp m r)) here)
    ∙ ap (filter (is_demanded m)) (names_range 0 6 n (omega arith))

-- the pairs of a label
pub filter_none : {X : Type 0} (xs : List X) → filter (λ (x : X). false) xs ≡ []
filter_none [] = refl
filter_none (x ∷ xs) = filter_none xs

pub is_some_map : {X Y : Type 0} (f : X → Y) (o : Option X) → is_some o ≡ is_some (option_map f o)
is_some_map f None = refl
is_some_map f (Some x) = refl

abbrev pub with_keys : Label → List Key → List (Label × Key)
with_keys l keys = map (λ (k : Key). (l, k)) keys

pub pairs_here : (names : ℕ) (l : Label) (o : Option (BTreeMap ℕ AProp))
    → option_map_or (λ (m : BTreeMap ℕ AProp). with_keys l (keys_in m names)) o []
    ≡ with_keys l (filter (λ (k : Key). is_some (read o (key_number k))) (keys_below names))
pairs_here names l None = ap (with_keys l) (sym (filter_none (keys_below names)))
pairs_here names l (Some m) =
    ap (λ (p : Key → Bool). with_keys l (filter p (keys_below names)))
    (λ i k. (is_some_map property_of (get nat_cmp m (key_number k))) i)

pub pairs_listed : (e : DemandedEntries) (sites names : ℕ)
    → listing (λ q (m : BTreeMap ℕ AProp). with_keys (label_at q) (keys_in m names))
    e.objects.entries 0 (2 * sites) ≡ pairs_of (entries_of e) (labels_below sites)
    (keys_below names)
pairs_listed e sites names =
    let row : Label → List (Label × Key) = λ l.
    with_keys l (filter (λ (k : Key). is_some (entries_of e l k)) (keys_below names)) in
    let same : (q : ℕ) → listed_at (λ q (m : BTreeMap ℕ AProp).
    with_keys (label_at q) (keys_in m names)) e.objects.entries q ≡ row (label_at q) =
    λ q. pairs_here names (label_at q) (found e.objects.entries q)
    ∙ ap (λ (r : ℕ). with_keys (label_at q)
    (filter (λ (k : Key). is_some (read (get nat_cmp e.objects r) (key_number k)))
    (keys_below names))) (sym (number_label q)) in
    ap (λ (f : ℕ → List (Label × Key)). flat_map f (range_with_len 0 (2 * sites)))
    (λ i q. (same q) i) ∙ sym (flat_map-map row label_at (range_with_len 0 (2 * sites)))
    ∙ ap (flat_map row) (sym (labels_range sites))

-- the keys that aren't names
abbrev pub other_keys : List Key
other_keys =
    key.OtherIndex ∷ key.OtherName ∷ key.Slot slot.Prototype ∷ key.Slot slot.Outer
    ∷ key.Slot slot.Scope ∷ key.Slot slot.Value ∷ []

pub keys_listed : (m : BTreeMap ℕ AProp) (n : ℕ) (names keys : List Key)
    → names ≡ filter (is_demanded m) (map name_key (range_with_len 0 n))
    → keys ≡ names ++ filter (is_demanded m) other_keys → keys ≡ keys_in m n
keys_listed m n names keys first rest =
    rest ∙ ap (λ (l : List Key). l ++ filter (is_demanded m) other_keys) first
    ∙ sym (filter-append (is_demanded m) (map name_key (range_with_len 0 n)) other_keys)
