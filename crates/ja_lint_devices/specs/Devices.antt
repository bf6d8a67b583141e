-- Which host devices the values of options declare, and why others declare none. A value is a name,
-- or a name, `=` and words of kinds with `|` between them.
use Rattle.std.specs.Prelude.{◌≡◌, ℕ, ◌+◌, Bool, true, false, not, ◌&&◌, ◌==◌, if◌then◌else◌, List, [], ◌∷◌, map, take, Some, None, slice_get}
use Rattle.std.specs.Char.Escape.{encode_utf16}
use Rattle.std.specs.List.{list_any, list_all, flat_map, before_first, after_first, slice_split}
use Rattle.std.specs.Str.{bytes_eq, chars}
use lib.Chars.{codes}
use Rattle.ja_prim.specs.declared.signature.Kinds.{Kinds}
use Rattle.ja_prim.specs.declared.signature.Signature.{Signature}
use Rattle.ja_prim.specs.declared.signature.TheConstants.Kinds.{BOOLEAN, NUMBER, TEXT, UNDEFINED}
use Rattle.ja_device.specs.Devices.{AllSeen, Seen}
use Rattle.ja_device.specs.Signatures as device
use Rattle.ja_device.specs.Signatures.{AreSignatures}
use Rattle.ja_device.specs.declared.fault.DevicesFault.{DevicesFault}
use Rattle.ja_device.specs.declared.fault.DevicesFault.TheVariants as devices
use Rattle.ja_lint_devices.specs.declared.refused.KindsFault.{KindsFault}
use Rattle.ja_lint_devices.specs.declared.refused.KindsFault.TheVariants.{NoKind, Unknown, Repeated}
use Rattle.ja_lint_devices.specs.declared.refused.Refused.{Refused}
use Rattle.ja_lint_devices.specs.declared.refused.Refused.TheVariants.{Kinds as BadKinds, TooMany, BadName, Twice, Memory}
use Rattle.ja_lint_devices.specs.declared.defaults.TheConstants.{USUAL_VALUES}

-- ---- words of kinds

-- the words of the kinds
abbrev pub kind_words : List (List ℕ)
kind_words =
    codes "undefined" ∷ codes "null" ∷ codes "boolean" ∷ codes "number" ∷ codes "string" ∷ []

-- a word is one of these
abbrev pub is_among : List (List ℕ) → List ℕ → Bool
is_among words word = list_any (bytes_eq word) words

-- no word stands there twice
abbrev pub are_distinct : List (List ℕ) → Bool
are_distinct [] = true
are_distinct (word ∷ words) = not (is_among words word) && are_distinct words

-- each word is that of a kind, and stands there once
abbrev pub are_kinds : List (List ℕ) → Bool
are_kinds words = list_all (is_among kind_words) words && are_distinct words

-- the kinds of these words
abbrev pub kinds_of : List (List ℕ) → Kinds
kinds_of words =
    record {
      undefined = is_among words (codes "undefined");
      null = is_among words (codes "null");
      boolean = is_among words (codes "boolean");
      number = is_among words (codes "number");
      text = is_among words (codes "string");
    }

-- ---- a value

-- `=`
abbrev pub is_equals : ℕ → Bool
is_equals c = c == 61

-- `|`
abbrev pub is_bar : ℕ → Bool
is_bar c = c == 124

-- the name stands before the first `=`
abbrev pub name_in : List ℕ → List ℕ
name_in value = before_first is_equals value

-- .. and the words behind it, with `|` between them; without `=` there is one, `undefined`
abbrev pub words_in : List ℕ → List (List ℕ)
words_in value =
    if list_any is_equals value then slice_split is_bar (after_first is_equals value)
    else codes "undefined" ∷ []

-- what a value declares
abbrev pub signature_in : List ℕ → Signature
signature_in value = record { name = name_in value; kinds = kinds_of (words_in value) }

-- the words of each value are those of kinds
abbrev pub all_kinds : List (List ℕ) → Bool
all_kinds values = list_all (λ value. are_kinds (words_in value)) values

-- ---- what values declare

-- a device of this name and these kinds that was not called yet: what it hears isn't told
abbrev pub unheard : Signature → Seen
unheard s = record { name = s.name; kinds = s.kinds; heard = None; faults = 0 }

-- the one that a value declares
abbrev pub declared_only : List ℕ → Seen
declared_only value = unheard (signature_in value)

-- Values declare devices, in order, that can be a program's.
pub record AreDeclared (values : List (List ℕ)) (all : AllSeen) : Type 0 where
  pub kinds : all_kinds values ≡ true
  pub fit : AreSignatures (map signature_in values)
  pub devices : all ≡ record { devices = map declared_only values; failed = 0 }

-- ---- why values declare none

-- a text in UTF-16
abbrev pub units : List ℕ → List ℕ
units text = flat_map encode_utf16 (chars text)

-- The first fault among some things: what holds of all before it no longer holds with it.
pub record IsFirstFault {X : Type 0} (holds : List X → Bool) (xs : List X) (index : ℕ) (x : X)
    : Type 0 where
  pub at : slice_get xs index ≡ Some x
  pub before : holds (take index xs) ≡ true
  pub here : holds (take (index + 1) xs) ≡ false

-- what is wrong with the first word that is wrong: it is empty, it is no kind, or else it stood
-- before
abbrev pub word_fault : List ℕ → KindsFault
word_fault [] = NoKind
word_fault (c ∷ cs) =
    let word = c ∷ cs in
    if is_among kind_words word then Repeated (units word) else Unknown (units word)

-- .. of these words
abbrev pub IsKindsFault : List (List ℕ) → KindsFault → Type 0
IsKindsFault words fault =
    (index : ℕ) × (word : List ℕ) × IsFirstFault are_kinds words index word
    × (fault ≡ word_fault word)

-- all words are those of kinds, but what the values declare isn't a program's
abbrev pub AreNoDevices : List (List ℕ) → DevicesFault → Type 0
AreNoDevices values fault =
    (all_kinds values ≡ true) × device.IsRefused (map signature_in values) fault

-- the name in the value of an index, in UTF-16
abbrev pub IsNamed : List (List ℕ) → ℕ → List ℕ → Type 0
IsNamed values index name =
    (value : List ℕ) × (slice_get values index ≡ Some value) × (name ≡ units (name_in value))

-- Why values declare no devices: the words of the first that is wrong aren't those of kinds, or
-- else, there are too many, or the first that isn't fit has no name for a device, or that of an
-- earlier one. That memory is refused is always possible.
abbrev pub IsRefused : List (List ℕ) → Refused → Type 0
IsRefused values (BadKinds index name fault) =
    (value : List ℕ) × IsFirstFault all_kinds values index value
    × (name ≡ units (name_in value)) × IsKindsFault (words_in value) fault
IsRefused values TooMany = AreNoDevices values devices.TooMany
IsRefused values (BadName index name) =
    AreNoDevices values (devices.BadName index) × IsNamed values index name
IsRefused values (Twice first second name) =
    AreNoDevices values (devices.Twice first second) × IsNamed values second name
IsRefused values Memory = Unit {0}

-- ---- without any option

-- what values declare where no option does
abbrev pub usual_values : List (List ℕ)
usual_values = map (λ value. value.now) USUAL_VALUES

-- .. the names and kinds of the devices with which the program runs scripts
abbrev pub usual_devices : List Signature
usual_devices =
    record { name = codes "input"; kinds = BOOLEAN }
    ∷ record { name = codes "number"; kinds = NUMBER }
    ∷ record { name = codes "text"; kinds = TEXT }
    ∷ record { name = codes "print"; kinds = UNDEFINED } ∷ []
