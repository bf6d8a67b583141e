-- The names of devices are ASCII identifiers.
use Rattle.std.proofs.Common.{◌≡◌, ◌<◌, ℕ, true, true≢false, refl, inl, inr, List, length, get_or, sym, ◌∙◌, arith}
use Rattle.std.specs.List.{list_all}
use Rattle.std.proofs.lemmas.Bool.{and_parts, cases_Bool}
use Rattle.std.proofs.lemmas.Bool.Decides.{nat_tests}
use Rattle.std.proofs.lemmas.List.Folds.{list_all_at}
use Rattle.std.proofs.lemmas.Option.{slice_get_read}
use Rattle.ja_base.proofs.Lists.{all_at}
use Rattle.ja_prim.specs.Characters.{is_part}
use Rattle.ja_prim.specs.declared.signature.Signature.{Signature}
use Rattle.ja_device.specs.Signatures.{is_fit, AreSignatures}

pub part_small : (c : ℕ) → is_part c ≡ true → c < 128
unfolding is_part
part_small c h = grind (arith, nat_tests)

part_at : (cs : List ℕ) (i d : ℕ) → list_all is_part cs ≡ true → i < length cs
    → is_part (get_or cs i d) ≡ true
part_at cs i d all inside = elim (cases_Bool (is_part (get_or cs i d))) [
  | inl h ↦ h
  | inr h ↦ absurd (true≢false (sym all ∙ list_all_at is_part cs i d inside h))
]

pub small_at : (cs : List ℕ) (i d : ℕ) → list_all is_part cs ≡ true → i < length cs
    → get_or cs i d < 128
small_at cs i d all inside = part_small (get_or cs i d) (part_at cs i d all inside)

pub device_name : (ss : List Signature) (i : ℕ) (s : Signature) → AreSignatures ss → i < length ss
    → s ≡ get_or ss i s → list_all is_part s.name ≡ true
device_name ss i s are inside read =
    let fit : is_fit s ≡ true =
    all_at (λ (s : Signature). is_fit s ≡ true) ss i s are.fit
    (slice_get_read ss (length ss) i s refl inside read) in
    let named = and_parts _ _ fit in
    (and_parts _ _ (and_parts _ _ named.0).0).1
