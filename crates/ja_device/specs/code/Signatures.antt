-- What clauses of the code cite beside `Signatures`, and no believed statement.
use Rattle.std.specs.Prelude.{◌≡◌, ℕ, true, false, List, length, Option, Some, None, slice_get}
use Rattle.ja_prim.specs.declared.signature.Signature.{Signature}
use Rattle.ja_device.specs.Signatures.{has_kind, is_fit, is_identifier, AreSignatures, IsRefused}
use Rattle.ja_device.specs.declared.fault.DevicesFault.{DevicesFault}
use Rattle.ja_device.specs.declared.fault.DevicesFault.TheVariants.{TooMany, BadName, NoKinds, Twice}

-- why a device can't stand behind others, if it can't
abbrev pub IsFaultBehind : List Signature → Signature → Option DevicesFault → Type 0
IsFaultBehind before s None =
    (is_fit s ≡ true) × ((i : ℕ) (t : Signature) → slice_get before i ≡ Some t → t.name ≡ s.name
    → ⊥)
IsFaultBehind before s (Some TooMany) = ⊥
IsFaultBehind before s (Some (BadName index)) =
    (index ≡ length before) × (is_identifier s.name ≡ false)
IsFaultBehind before s (Some (NoKinds index)) =
    (index ≡ length before) × (is_identifier s.name ≡ true) × (has_kind s.kinds ≡ false)
IsFaultBehind before s (Some (Twice first second)) =
    (second ≡ length before) × (is_fit s ≡ true)
    × ((t : Signature) × (slice_get before first ≡ Some t) × (t.name ≡ s.name))

-- whether some devices can be a program's, or why not
abbrev pub IsJudged : List Signature → Option DevicesFault → Type 0
IsJudged ss None = AreSignatures ss
IsJudged ss (Some fault) = IsRefused ss fault
