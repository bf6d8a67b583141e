-- Which devices a program may have, by their names and kinds, and why others are refused.
use Rattle.std.specs.Prelude.{◌≡◌, ◌<◌, ◌≤◌, ℕ, Bool, true, false, not, ◌&&◌, ◌||◌, nat_le, List, length, take, Option, Some, None, slice_get}
use Rattle.std.specs.List.{AllByRecursion, list_all}
use Rattle.std.specs.Option.{option_map_or}
use Rattle.ja_prim.specs.Characters.{is_digit, is_part}
use Rattle.ja_prim.specs.declared.signature.Kinds.{Kinds}
use Rattle.ja_prim.specs.declared.signature.Signature.{Signature}
use Rattle.ja_graph.specs.declared.program.TheConstants.{MAX_DEVICES}
use Rattle.ja_device.specs.declared.fault.DevicesFault.{DevicesFault}
use Rattle.ja_device.specs.declared.fault.DevicesFault.TheVariants.{TooMany, BadName, NoKinds, Twice}

-- an ASCII identifier of 1 to 64 characters: letters, digits, `_` and `$`, and no digit first (ES3
-- 7.6)
abbrev pub is_identifier : List ℕ → Bool
is_identifier name =
    option_map_or (λ c. not (is_digit c)) (slice_get name 0) false && list_all is_part name
    && nat_le (length name) 64

-- some kind of answers is declared
abbrev pub has_kind : Kinds → Bool
has_kind k = k.undefined || k.null || k.boolean || k.number || k.text

-- a device of a program
abbrev pub is_fit : Signature → Bool
is_fit s = is_identifier s.name && has_kind s.kinds

-- No two have one name.
abbrev pub AreDistinct : List Signature → Type 0
AreDistinct ss =
    (i j : ℕ) (s t : Signature) → slice_get ss i ≡ Some s → slice_get ss j ≡ Some t
    → s.name ≡ t.name → i ≡ j

-- The devices of a program: at most 64, each fit, and no two with one name.
pub record AreSignatures (ss : List Signature) : Type 0 where
  pub few : length ss ≤ MAX_DEVICES
  pub fit : AllByRecursion (λ s. is_fit s ≡ true) ss
  pub distinct : AreDistinct ss

-- The one of an index is the first that isn't fit behind those before it.
pub record IsFirstAt (ss : List Signature) (index : ℕ) (s : Signature) : Type 0 where
  pub few : length ss ≤ MAX_DEVICES
  pub at : slice_get ss index ≡ Some s
  pub before : AreSignatures (take index ss)

-- why they are no devices of a program: there are too many, or the first that isn't fit has no name
-- for a device, no kinds, or the name of an earlier one
abbrev pub IsRefused : List Signature → DevicesFault → Type 0
IsRefused ss TooMany = MAX_DEVICES < length ss
IsRefused ss (BadName index) =
    (s : Signature) × IsFirstAt ss index s × (is_identifier s.name ≡ false)
IsRefused ss (NoKinds index) =
    (s : Signature) × IsFirstAt ss index s × (is_identifier s.name ≡ true)
    × (has_kind s.kinds ≡ false)
IsRefused ss (Twice first second) =
    (s : Signature) × (t : Signature) × IsFirstAt ss second s × (is_fit s ≡ true) × (first < second)
    × (slice_get ss first ≡ Some t) × (t.name ≡ s.name)

-- the first of some names that is this one, if there is one
abbrev pub IsPosition : List (List ℕ) → List ℕ → Option ℕ → Type 0
IsPosition names name None = (i : ℕ) → slice_get names i ≡ Some name → ⊥
IsPosition names name (Some i) =
    (slice_get names i ≡ Some name) × ((j : ℕ) → slice_get names j ≡ Some name → i ≤ j)
