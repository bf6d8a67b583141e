-- What clauses of the code cite beside `Devices`, and no believed statement.
use Rattle.std.specs.Prelude.{◌≡◌, ℕ, true, List, Option, Some, None}
use Rattle.std.specs.String.{string_bytes}
use Rattle.ja_device.specs.Devices.{Seen}
use Rattle.ja_lint_devices.specs.Devices.{are_kinds, words_in, name_in, units, IsFirstFault, IsKindsFault}
use Rattle.ja_lint_devices.specs.declared.device.Declared.{Declared}
use Rattle.ja_lint_devices.specs.declared.refused.Refused.{Refused}
use Rattle.ja_lint_devices.specs.declared.refused.Refused.TheVariants.{Kinds as BadKinds, TooMany, BadName, Twice, Memory}

-- the first word with which the words are no longer those of kinds, by its index
abbrev pub IsFirstWord : List (List ℕ) → Option ℕ → Type 0
IsFirstWord words None = are_kinds words ≡ true
IsFirstWord words (Some index) = (word : List ℕ) × IsFirstFault are_kinds words index word

-- why the words of the value of an index aren't those of kinds
abbrev pub IsRefusedAt : ℕ → List ℕ → Refused → Type 0
IsRefusedAt at value (BadKinds index name fault) =
    (index ≡ at) × (name ≡ units (name_in value)) × IsKindsFault (words_in value) fault
IsRefusedAt at value TooMany = ⊥
IsRefusedAt at value (BadName index name) = ⊥
IsRefusedAt at value (Twice first second name) = ⊥
IsRefusedAt at value Memory = Unit {0}

-- what is seen of a device that is only declared
abbrev pub seen_of : Declared → Seen
seen_of d =
    record { name = string_bytes d.name; kinds = d.kinds; heard = None; faults = d.faults }
