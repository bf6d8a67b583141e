-- The devices of the program can be a program's.
use Rattle.std.proofs.Common.{◌≡◌, ℕ, zero, suc, ◌≤◌, ◌==◌, ◌&&◌, true, false, List, [], ◌∷◌, length, map, Some, refl, sym, ap, ◌∙◌, subst, arith}
use Rattle.std.specs.Prelude.{slice_get, slice_index, cond}
use Rattle.std.specs.Option.{is_some}
use lib.Chars.{codes}
use Rattle.std.proofs.lemmas.Bool.{false≢true}
use Rattle.std.proofs.lemmas.Option.{same_Some}
use Rattle.ja_prim.specs.Characters.{is_part}
use Rattle.ja_prim.specs.declared.signature.Signature.{Signature}
use Rattle.ja_prim.specs.declared.signature.TheConstants.Kinds.{BOOLEAN, NUMBER, TEXT, UNDEFINED}
use Rattle.ja_machine.proofs.Lists.{all_at}
use Rattle.ja_device.specs.Devices.{AllSeen, Seen, signature_of}
use Rattle.ja_device.specs.Signatures.{is_fit, has_kind, AreSignatures, IsFirstAt, IsRefused}
use Rattle.ja_device.specs.declared.fault.DevicesFault.{DevicesFault}
use Rattle.ja_device.specs.declared.fault.DevicesFault.TheVariants.{TooMany, BadName, NoKinds, Twice}
use Rattle.ja_device.specs.declared.scripted.Scripted.{Scripted}
use Rattle.ja_host.specs.Scripts.{AreScripts, seen_of, the_devices}

-- devices that can be a program's aren't refused
not_refused : (ss : List Signature) → AreSignatures ss → (fault : DevicesFault) → IsRefused ss fault
    → ⊥
not_refused ss are = of
  where
    fit_at : (index : ℕ) (s : Signature) → IsFirstAt ss index s → is_fit s ≡ true
    fit_at index s first = all_at (λ t. is_fit t ≡ true) ss are.fit index s first.at

    of : (fault : DevicesFault) → IsRefused ss fault → ⊥
    of TooMany many = let few : length ss ≤ 64 = are.few in absurd (omega arith)
    of (BadName index) (s, first, unnamed) =
        false≢true (sym (ap (λ b. b && has_kind s.kinds) unnamed) ∙ fit_at index s first)
    of (NoKinds index) (s, first, named, kindless) =
        false≢true (sym (ap (λ b. b && has_kind s.kinds) named ∙ kindless) ∙ fit_at index s first)
    of (Twice first second) (s, t, at, fit, less, earlier, same) =
        let one : first ≡ second = are.distinct first second t s earlier at.at same in
        absurd (omega arith)

-- ---- the devices of the program

abbrev input : Signature
input = record { name = codes "input"; kinds = BOOLEAN }

abbrev number : Signature
number = record { name = codes "number"; kinds = NUMBER }

abbrev text : Signature
text = record { name = codes "text"; kinds = TEXT }

abbrev print : Signature
print = record { name = codes "print"; kinds = UNDEFINED }

abbrev hosts : List Signature
hosts = input ∷ number ∷ text ∷ print ∷ []

-- which of them has a name, by its first character
place : List ℕ → ℕ
place name = let c = slice_index name 0 in
    cond (c == 105) 0 (cond (c == 110) 1 (cond (c == 116) 2 3))

place_of : (i : ℕ) (s : Signature) → slice_get hosts i ≡ Some s → i ≡ place s.name
unfolding place
place_of zero s at = ap (λ (t : Signature). place t.name) (same_Some input s at)
place_of (suc zero) s at = ap (λ (t : Signature). place t.name) (same_Some number s at)
place_of (suc (suc zero)) s at = ap (λ (t : Signature). place t.name) (same_Some text s at)
place_of (suc (suc (suc zero))) s at = ap (λ (t : Signature). place t.name) (same_Some print s at)
place_of (suc (suc (suc (suc i)))) s at = absurd (false≢true (ap is_some at))

are_signatures : AreSignatures hosts
unfolding is_part
are_signatures = record {
  few = omega arith;
  fit = (refl, (refl, (refl, (refl, tt))));
  distinct = λ i j s t s_at t_at same. place_of i s s_at ∙ ap place same ∙ sym (place_of j t t_at);
}

-- .. so what is seen of a list of them isn't refused
module _ (scripts : List Scripted) (are : AreScripts scripts) where
  seen_as : map seen_of scripts ≡ the_devices.devices
  seen_as =
      ap (map seen_of) are.listed
      ∙ (λ j. are.is_input.seen j ∷ are.is_number.seen j ∷ are.is_text.seen j
      ∷ are.is_print.seen j ∷ [])

  pub none_refused : (fault : DevicesFault)
      → IsRefused (map signature_of (map seen_of scripts)) fault → ⊥
  none_refused fault refused =
      not_refused hosts are_signatures fault
      (subst (λ (ds : List Seen). IsRefused (map signature_of ds) fault) seen_as refused)

  pub all_seen : (d : AllSeen) → d ≡ record { devices = map seen_of scripts; failed = 0 }
      → d ≡ the_devices
  all_seen d is = is ∙ (λ j. record { devices = seen_as j; failed = 0 })
