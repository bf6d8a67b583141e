-- Values that are written out, and that where values declare devices they aren't refused.
use Rattle.std.proofs.Common.{◌≡◌, ℕ, zero, suc, ◌+◌, ◌≤◌, ◌&&◌, not, true, false, List, [], ◌∷◌, length, map, Some, refl, ap, sym, ◌∙◌, arith}
use Rattle.std.specs.Prelude.{slice_get}
use Rattle.std.specs.Option.{is_some, option_map}
use Rattle.std.specs.Str.{bytes_eq, chars}
use lib.Chars.{codes}
use Rattle.std.proofs.lemmas.Bool.{and_parts, false≢true}
use Rattle.std.proofs.lemmas.Cmp.{nat_list_eq_equiv}
use Rattle.std.proofs.lemmas.Option.{same_Some, slice_get-map}
use Rattle.ja_prim.specs.Characters.{is_part}
use Rattle.ja_prim.specs.declared.signature.Signature.{Signature}
use Rattle.ja_prim.specs.declared.signature.TheConstants.Kinds.{NONE, UNDEFINED}
use Rattle.ja_machine.proofs.Lists.{all_at}
use Rattle.ja_device.specs.Devices.{AllSeen}
use Rattle.ja_device.specs.Signatures as device
use Rattle.ja_device.specs.Signatures.{AreDistinct, AreSignatures, IsFirstAt, has_kind, is_fit}
use Rattle.ja_device.specs.declared.fault.DevicesFault.{DevicesFault}
use Rattle.ja_device.specs.declared.fault.DevicesFault.TheVariants as devices
use Rattle.ja_lint_devices.specs.Devices.{AreDeclared, IsRefused, are_distinct, is_among, signature_in, unheard, usual_devices, usual_values}
use Rattle.ja_lint_devices.specs.declared.refused.KindsFault.TheVariants as fault
use Rattle.ja_lint_devices.specs.declared.refused.Refused.{Refused}
use Rattle.ja_lint_devices.specs.declared.refused.Refused.TheVariants as refused
use Rattle.ja_lint_devices.proofs.Refusing.{all_front, isnt}
use Rattle.ja_lint_devices.proofs.Words.{any_here}

-- ---- what isn't refused

not_refused : (ss : List Signature) → AreSignatures ss → (why : DevicesFault)
    → device.IsRefused ss why → ⊥
not_refused ss are devices.TooMany many = let few : length ss ≤ 64 = are.few in absurd (omega arith)
not_refused ss are (devices.BadName index) (s, first, unnamed) =
    false≢true (sym (ap (λ b. b && has_kind s.kinds) unnamed)
    ∙ all_at (λ t. is_fit t ≡ true) ss are.fit index s first.at)
not_refused ss are (devices.NoKinds index) (s, first, named, kindless) =
    false≢true (sym (ap (λ b. b && has_kind s.kinds) named ∙ kindless)
    ∙ all_at (λ t. is_fit t ≡ true) ss are.fit index s first.at)
not_refused ss are (devices.Twice first second) (s, t, at, fit, less, earlier, same) =
    let one : first ≡ second = are.distinct first second t s earlier at.at same in
    absurd (omega arith)

pub one_or_other : (values : List (List ℕ)) (all : AllSeen) (why : Refused)
    → AreDeclared values all → IsRefused values why → why ≡ refused.Memory
one_or_other values all (refused.Kinds index name fault) are (value, first, named, caused) =
    absurd (false≢true (sym first.here ∙ all_front _ values (index + 1) are.kinds))
one_or_other values all refused.TooMany are why =
    absurd (not_refused (map signature_in values) are.fit devices.TooMany why.1)
one_or_other values all (refused.BadName index name) are why =
    absurd (not_refused (map signature_in values) are.fit (devices.BadName index) why.0.1)
one_or_other values all (refused.Twice first second name) are why =
    absurd (not_refused (map signature_in values) are.fit (devices.Twice first second) why.0.1)
one_or_other values all refused.Memory are why = refl

-- ---- names apart

names_of : List Signature → List (List ℕ)
names_of ss = map (λ (s : Signature). s.name) ss

-- where a name stands behind a list without it
new_name : (ss : List Signature) (name : List ℕ) → is_among (names_of ss) name ≡ false
    → (i : ℕ) (s : Signature) → slice_get ss i ≡ Some s → name ≡ s.name → ⊥
unfolding names_of
new_name ss name fresh i s at same =
    false≢true (sym fresh ∙ any_here (bytes_eq name) (names_of ss) i s.name
    (slice_get-map (λ (t : Signature). t.name) ss i
    ∙ ap (option_map (λ (t : Signature). t.name)) at)
    (ap (bytes_eq name) (sym same) ∙ nat_list_eq_equiv.refl name))

distinct_by : (ss : List Signature) → are_distinct (names_of ss) ≡ true → AreDistinct ss
unfolding names_of
distinct_by [] apart i j s t s_at t_at same = absurd (false≢true (ap is_some s_at))
distinct_by (x ∷ ss) apart zero zero s t s_at t_at same = refl
distinct_by (x ∷ ss) apart zero (suc j) s t s_at t_at same =
    let parts = and_parts (not (is_among (names_of ss) x.name)) (are_distinct (names_of ss)) apart
    in
    absurd (new_name ss x.name (isnt (is_among (names_of ss) x.name) parts.0) j t t_at
    (ap (λ (y : Signature). y.name) (same_Some x s s_at) ∙ same))
distinct_by (x ∷ ss) apart (suc i) zero s t s_at t_at same =
    let parts = and_parts (not (is_among (names_of ss) x.name)) (are_distinct (names_of ss)) apart
    in
    absurd (new_name ss x.name (isnt (is_among (names_of ss) x.name) parts.0) i s s_at
    (ap (λ (y : Signature). y.name) (same_Some x t t_at) ∙ sym same))
distinct_by (x ∷ ss) apart (suc i) (suc j) s t s_at t_at same =
    let parts = and_parts (not (is_among (names_of ss) x.name)) (are_distinct (names_of ss)) apart
    in
    ap suc (distinct_by ss parts.1 i j s t s_at t_at same)

-- ---- values that declare devices

pub both : AreDeclared (codes "alert" ∷ codes "prompt=null|string" ∷ []) (record {
  devices = unheard (record { name = codes "alert"; kinds = UNDEFINED })
      ∷ unheard (record {
        name = codes "prompt";
        kinds = record NONE { null = true; text = true };
      }) ∷ [];
  failed = 0;
})
unfolding is_part names_of
both = record {
  kinds = refl;
  fit = record {
    few = omega arith;
    fit = (refl, (refl, tt));
    distinct =
        distinct_by (map signature_in (codes "alert" ∷ codes "prompt=null|string" ∷ [])) refl;
  };
  devices = refl;
}

pub usual : AreDeclared usual_values (record { devices = map unheard usual_devices; failed = 0 })
unfolding is_part names_of
usual = record {
  kinds = refl;
  fit = record {
    few = omega arith;
    fit = (refl, (refl, (refl, (refl, tt))));
    distinct = distinct_by (map signature_in usual_values) refl;
  };
  devices = refl;
}

-- ---- values with words that aren't those of kinds

pub no_kind : IsRefused (codes "a=" ∷ []) (refused.Kinds 0 (codes "a") fault.NoKind)
unfolding chars
no_kind = (
  codes "a=",
  record { at = refl; before = refl; here = refl },
  refl,
  (0, [], record { at = refl; before = refl; here = refl }, refl),
)

pub no_kind_behind : IsRefused (codes "a=string|" ∷ []) (refused.Kinds 0 (codes "a") fault.NoKind)
unfolding chars
no_kind_behind = (
  codes "a=string|",
  record { at = refl; before = refl; here = refl },
  refl,
  (1, [], record { at = refl; before = refl; here = refl }, refl),
)

pub unknown : IsRefused (codes "a=strin" ∷ [])
    (refused.Kinds 0 (codes "a") (fault.Unknown (codes "strin")))
unfolding chars
unknown = (
  codes "a=strin",
  record { at = refl; before = refl; here = refl },
  refl,
  (0, codes "strin", record { at = refl; before = refl; here = refl }, refl),
)

pub repeated : IsRefused (codes "a=string|string" ∷ [])
    (refused.Kinds 0 (codes "a") (fault.Repeated (codes "string")))
unfolding chars
repeated = (
  codes "a=string|string",
  record { at = refl; before = refl; here = refl },
  refl,
  (1, codes "string", record { at = refl; before = refl; here = refl }, refl),
)

pub second : IsRefused (codes "a" ∷ codes "b=x" ∷ [])
    (refused.Kinds 1 (codes "b") (fault.Unknown (codes "x")))
unfolding chars
second = (
  codes "b=x",
  record { at = refl; before = refl; here = refl },
  refl,
  (0, codes "x", record { at = refl; before = refl; here = refl }, refl),
)

pub kinds_first : IsRefused (codes "1a" ∷ codes "b=x" ∷ [])
    (refused.Kinds 1 (codes "b") (fault.Unknown (codes "x")))
unfolding chars
kinds_first = (
  codes "b=x",
  record { at = refl; before = refl; here = refl },
  refl,
  (0, codes "x", record { at = refl; before = refl; here = refl }, refl),
)

-- ---- values whose devices can't be a program's

none : AreSignatures []
unfolding names_of
none = record { few = omega arith; fit = tt; distinct = distinct_by [] refl }

one : AreSignatures (signature_in (codes "a") ∷ [])
unfolding is_part names_of
one = record {
  few = omega arith;
  fit = (refl, tt);
  distinct = distinct_by (signature_in (codes "a") ∷ []) refl;
}

pub no_name : IsRefused (codes "=string" ∷ []) (refused.BadName 0 [])
unfolding is_part chars
no_name = (
  (
    refl,
    (
      signature_in (codes "=string"),
      record { few = omega arith; at = refl; before = none },
      refl,
    ),
  ),
  (codes "=string", refl, refl),
)

pub digit : IsRefused (codes "1a" ∷ []) (refused.BadName 0 (codes "1a"))
unfolding is_part chars
digit = (
  (
    refl,
    (signature_in (codes "1a"), record { few = omega arith; at = refl; before = none }, refl),
  ),
  (codes "1a", refl, refl),
)

pub twice : IsRefused (codes "a" ∷ codes "a=null" ∷ []) (refused.Twice 0 1 (codes "a"))
unfolding is_part chars
twice = (
  (
    refl,
    (
      signature_in (codes "a=null"),
      signature_in (codes "a"),
      record { few = omega arith; at = refl; before = one },
      refl,
      omega arith,
      refl,
      refl,
    ),
  ),
  (codes "a=null", refl, refl),
)
