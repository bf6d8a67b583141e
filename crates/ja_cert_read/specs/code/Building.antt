-- What is built of what a certificate lists of a context.
use Rattle.std.specs.Prelude.{◌≡◌, ◌==◌, ◌&&◌, ◌+◌, ◌-◌, ◌⊎◌, ℕ, Bool, false, IsSome, IsTrue, if◌then◌else◌, nat_lt, ◌<◌, List, [], ◌∷◌, ◌++◌, map, length, Option, Some, None}
use Rattle.std.specs.List.{list_any, AllByRecursion}
use Rattle.std.specs.Option.{option_map}
use Rattle.serde_json.specs.Data.{Data}
use Rattle.ja_base.specs.declared.ids.FnId.{FnId}
use Rattle.ja_base.specs.declared.ids.Label.{Label}
use Rattle.ja_base.specs.declared.ids.Site.{Site}
use Rattle.ja_graph.specs.declared.program.Program.{Program}
use Rattle.ja_machine.specs.Frames.{registers_of}
use Rattle.ja_abstract.specs.declared.abstraction.Key.{Key}
use Rattle.ja_abstract.specs.declared.abstraction.Mask.{Mask}
use Rattle.ja_abstract.specs.AbstractValue.{AbstractValue, AbstractProperty, absent_property, same_label, undefined_value, entry_property}
use Rattle.ja_abstract.specs.AbstractState.{AbstractState, key_number, same_key, is_key, is_label, exactly_none}
use Rattle.ja_abstract.specs.Resolved.{Entries}
use Rattle.ja_abstract.specs.Writes as abstract
use Rattle.ja_value.specs.Value.{value_of, property_of}
use Rattle.ja_aheap.specs.declared.entries.DemandedEntries.{DemandedEntries}
use Rattle.ja_aheap.specs.declared.writes.Write.{Write}
use Rattle.ja_aheap.specs.Entries.{entries_of}
use Rattle.ja_aheap.specs.KeysBelow.{is_key_below}
use Rattle.ja_aheap.specs.Objects.{write_of}
use Rattle.ja_astate.specs.declared.state.AState.{AState}
use Rattle.ja_astate.specs.State.{state_of, IsStateOf}
use Rattle.ja_report.specs.Lines.{Line, entry, register, property, alloc, entry_lines, register_lines, property_lines, mask_lines}
use Rattle.ja_cert_parts.specs.declared.listed.EntryAt.{EntryAt}
use Rattle.ja_cert_parts.specs.code.Own.{HasOwnLabels, IsOwnProperty}
use Rattle.ja_cert_parts.specs.code.Ranks.{property_pair}
use Rattle.ja_cert_parts.specs.declared.listed.Pair.{Pair}
use Rattle.ja_cert_parts.specs.declared.listed.PropertyAt.{PropertyAt}
use Rattle.ja_cert_parts.specs.declared.listed.RegisterAt.{RegisterAt}
use Rattle.ja_cert_parts.specs.declared.listed.MaskAt.{MaskAt}
use Rattle.ja_cert_read.specs.Said.{said_property, said_state}
use Rattle.ja_cert_read.specs.declared.starts.Before.{Before}
use Rattle.ja_cert.specs.Certificate.{line_data}
use Rattle.ja_cert.specs.Wrong.{MemberWrong, members_wrong}

-- ---- the lines of what was read; that of a register says nothing of its function

abbrev pub entry_line_of : EntryAt → Line
entry_line_of e = entry e.label e.key (property_of e.property)

abbrev pub property_line_of : PropertyAt → Line
property_line_of q = property q.label q.key (property_of q.property)

abbrev pub register_line_of : RegisterAt → Line
register_line_of r = register 0 r.register (value_of r.value)

abbrev pub mask_line_of : MaskAt → Line
mask_line_of m = alloc m.site m.mask

abbrev pub entry_data : Program → EntryAt → Data
entry_data p e = line_data p (entry_line_of e)

abbrev pub property_data : Program → PropertyAt → Data
property_data p q = line_data p (property_line_of q)

abbrev pub register_data : Program → RegisterAt → Data
register_data p r = line_data p (register_line_of r)

abbrev pub mask_data : Program → MaskAt → Data
mask_data p m = line_data p (mask_line_of m)

-- no member of a list is wrong
abbrev pub AreRight : {X : Type 0} → MemberWrong → (X → Data) → List X → Type 0
AreRight f shown xs = members_wrong f [] (map shown xs) ≡ None

-- ---- what was read says nothing of what no program has

abbrev pub IsOwnRegisterAt : Program → RegisterAt → Type 0
IsOwnRegisterAt p r = HasOwnLabels p (value_of r.value)

abbrev pub IsOwnPropertyAt : Program → PropertyAt → Type 0
IsOwnPropertyAt p q = IsOwnProperty p q.key (property_of q.property)

abbrev pub IsOwnEntryAt : Program → EntryAt → Type 0
IsOwnEntryAt p e = IsOwnProperty p e.key (property_of e.property)

-- ---- what has a place

-- what the first that is at a place gives there, or else something
abbrev pub first_at : {X K V : Type 0} → (X → K → Bool) → (X → V) → (K → V) → List X → K → V
first_at is_at give rest [] k = rest k
first_at is_at give rest (x ∷ xs) k = if is_at x k then give x else first_at is_at give rest xs k

abbrev pub is_register : RegisterAt → ℕ → Bool
is_register x r = x.register == r

abbrev pub register_value : RegisterAt → AbstractValue
register_value x = value_of x.value

abbrev pub is_property : PropertyAt → Label × Key → Bool
is_property x pair = same_label x.label pair.0 && same_key x.key pair.1

abbrev pub property_in : PropertyAt → AbstractProperty
property_in x = property_of x.property

abbrev pub is_entry_at : EntryAt → Label × Key → Bool
is_entry_at x pair = same_label x.label pair.0 && same_key x.key pair.1

abbrev pub entry_value : EntryAt → Option AbstractProperty
entry_value x = Some (property_of x.property)

abbrev pub is_mask : MaskAt → ℕ → Bool
is_mask x s = x.site.0 == s

abbrev pub mask_value : MaskAt → Mask
mask_value x = x.mask

abbrev pub mask_pair : MaskAt → Site × Mask
mask_pair x = (x.site, x.mask)

-- ---- a state after some are set, the last of a list first

abbrev pub plain_state : AbstractState
plain_state =
    record {
      register = λ r. undefined_value;
      property =
          λ l k. entry_property;
      mask = λ s. exactly_none;
    }

abbrev pub with_registers : List RegisterAt → AbstractState → AbstractState
with_registers xs a = record a { register = first_at is_register register_value a.register xs }

abbrev pub with_properties : List PropertyAt → AbstractState → AbstractState
with_properties xs a = record a {
  property = λ l k. first_at is_property property_in (λ pair. a.property pair.0 pair.1) xs (l, k);
}

abbrev pub with_masks : List MaskAt → AbstractState → AbstractState
with_masks xs a = record a { mask = first_at is_mask mask_value a.mask xs }

abbrev pub entries_with : List EntryAt → Entries → Entries
entries_with xs e l k = first_at is_entry_at entry_value (λ pair. e pair.0 pair.1) xs (l, k)

-- the same registers as where nothing is listed, and the heap of another state
abbrev pub with_heap_of : AbstractState → AbstractState
with_heap_of a = record plain_state { property = a.property; mask = a.mask }

-- ---- what is listed

abbrev pub lists_pair : List PropertyAt → Pair → Bool
lists_pair xs pair = list_any (λ (x : PropertyAt). is_property x (pair.label, pair.key)) xs

abbrev pub lists_site : List MaskAt → Site → Bool
lists_site xs s = list_any (λ (x : MaskAt). is_mask x s.0) xs

abbrev pub property_pairs : List PropertyAt → List Pair
property_pairs xs = map property_pair xs

abbrev pub mask_sites : List MaskAt → List Site
mask_sites xs = map (λ (x : MaskAt). x.site) xs

abbrev pub is_pair : Pair → Label → Key → Bool
is_pair pair l k = same_label pair.label l && same_key pair.key k

-- beside these labels with keys, and these sites, nothing is to be listed of a state
pub record SaysAll (pairs : List Pair) (sites : List Site) (a : AbstractState) : Type 0 where
  pub properties : (l : Label) (k : Key) → list_any (λ pair. is_pair pair l k) pairs ≡ false
      → a.property l k ≡ entry_property
  pub masks : (s : ℕ) → list_any (λ (t : Site). t.0 == s) sites ≡ false
      → a.mask s ≡ exactly_none

-- a state of the function, with all that is listed of it
pub record IsBefore (p : Program) (f : FnId) (b : Before) : Type 0 where
  pub fits : IsStateOf p (registers_of p f) b.state.now
  pub all : SaysAll b.listed.now.pairs.items b.listed.now.sites.items (state_of b.state.now)

-- no two are of one label and key
abbrev pub AreApart : List PropertyAt → Type 0
AreApart [] = Unit {0}
AreApart (x ∷ xs) =
    AllByRecursion (λ (y : PropertyAt). is_property y (x.label, x.key) ≡ false) xs × AreApart xs

-- ---- objects

-- the number of the key at a place in the order of keys: names, and then the others
abbrev pub number_at : ℕ → ℕ → ℕ
number_at names n =
    if nat_lt n names then 6 + n else if nat_lt n (names + 2) then 4 + (n - names)
    else n - names - 2

-- writes that set the keys from a place on, one after another and up to the last
abbrev pub IsWhole : ℕ → ℕ → List abstract.Write → Type 0
IsWhole names n [] = n ≡ names + 6
IsWhole names n (w ∷ ws) =
    (w.joins ≡ false) × (key_number w.key ≡ number_at names n) × IsWhole names (n + 1) ws

-- what is written, without some of what is exactly absent
abbrev pub LeavesOut : List abstract.Write → List (Key × AbstractProperty) → Type 0
LeavesOut [] listed = listed ≡ []
LeavesOut (w ∷ ws) listed =
    ((w.property ≡ absent_property) × LeavesOut ws listed)
    ⊎ ((rest : List (Key × AbstractProperty)) × (listed ≡ (w.key, w.property) ∷ rest)
    × LeavesOut ws rest)

-- a label and a key of a program with so many sites and names
pub record IsPlaced (sites names : ℕ) (x : PropertyAt) : Type 0 where
  pub label : IsTrue (nat_lt x.label.site.0 sites)
  pub key : IsTrue (is_key_below names x.key)

-- registers, properties and masks that a state with so many may have
pub record AreWithin (registers sites names : ℕ) (xs : List RegisterAt) (heap : List PropertyAt)
    (masks : List MaskAt) : Type 0 where
  pub registers_within : AllByRecursion (λ (x : RegisterAt). x.register < registers) xs
  pub heap_within : AllByRecursion (IsPlaced sites names) heap
  pub apart : AreApart heap
  pub masks_within : AllByRecursion (λ (x : MaskAt). x.site.0 < sites) masks

-- the write that sets a property
abbrev pub setting : PropertyAt → abstract.Write
setting x = abstract.sets_at x.key (property_in x)

-- the last properties of a list, all of one label, are taken out as writes
pub record AreTaken (old new : List PropertyAt) (label : Label) (writes : List Write) : Type
    0 where
  pub taken : List PropertyAt
  pub split : old ≡ new ++ taken
  pub labels : AllByRecursion (λ (x : PropertyAt). x.label ≡ label) taken
  pub writes_are : map write_of writes ≡ map setting taken
  pub shorter : length new < length old

-- ---- what is built of lists

-- a state of the function, which says nothing of what no program has
pub record IsOwnState (p : Program) (f : FnId) (s : AState) : Type 0 where
  pub fits : IsStateOf p (registers_of p f) s
  pub said : said_state p (state_of s) ≡ state_of s

-- a state of the function, of which these are listed
pub record IsStateOfParts (p : Program) (f : FnId) (registers : List RegisterAt)
    (heap : List PropertyAt) (masks : List MaskAt) (s : AState) : Type 0 where
  pub state : IsStateOf p (registers_of p f) s
  pub registers_listed : map (line_data p) (register_lines p f (state_of s))
      ≡ map (register_data p) registers
  pub heap_listed : map (line_data p) (property_lines p (state_of s)) ≡ map (property_data p) heap
  pub masks_listed : map (line_data p) (mask_lines p (state_of s)) ≡ map (mask_data p) masks

-- values at entry of labels and keys of the program, which are listed, and say nothing of what no
-- program has
pub record AreEntriesOfParts (p : Program) (entries : List EntryAt) (e : DemandedEntries) : Type
    0 where
  pub labels : (l : Label) (k : Key) → IsSome (entries_of e l k) → IsTrue (is_label p l)
  pub keys : (l : Label) (k : Key) → IsSome (entries_of e l k) → IsTrue (is_key p k)
  pub entries_listed : map (line_data p) (entry_lines p (entries_of e)) ≡ map (entry_data p) entries
  pub said : (l : Label) (k : Key)
      → option_map (said_property p k) (entries_of e l k) ≡ entries_of e l k
