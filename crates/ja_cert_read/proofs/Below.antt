-- Lists of numbers, compared one after another.
use Rattle.std.proofs.Common.{◌≡◌, ◌⊎◌, ◌<◌, ℕ, true, Less, Equal, Greater, List, ◌∷◌, refl, ap, sym, ◌∙◌, inl, inr}
use Rattle.std.specs.declared.cmp.Ordering.{Ordering}
use Rattle.std.specs.Ordering.{nat_cmp, ordering_reverse, ordering_then}
use Rattle.std.specs.Cmp.{nat_cmp_is}
use Rattle.std.specs.Cmp.Lexicographic.{slice_cmp}
use Rattle.std.proofs.lemmas.Bool.{true≢false}
use Rattle.std.proofs.lemmas.Cmp.{nat_list_cmp_total}
use Rattle.ja_cert.specs.Wrong.{is_less}

abbrev pub IsBelow : List ℕ → List ℕ → Type 0
IsBelow a b = slice_cmp nat_cmp a b ≡ Less

pub below_through : (a b c : List ℕ) → IsBelow a b → IsBelow b c → IsBelow a c
below_through a b c h k = nat_list_cmp_total.trans a b c h k

pub below_one_way : (a b : List ℕ) → IsBelow a b → IsBelow b a → ⊥
below_one_way a b h k =
    let other : slice_cmp nat_cmp a b ≡ ordering_reverse Less =
    nat_list_cmp_total.antisymm a b ∙ ap ordering_reverse k in
    let clash : Less ≡ Greater = sym h ∙ other in
    cc

each_order : (o : Ordering) → (o ≡ Less) ⊎ (o ≡ Equal) ⊎ (o ≡ Greater)
each_order Less = inl refl
each_order Equal = inr (inl refl)
each_order Greater = inr (inr refl)

pub below_from_test : (a b : List ℕ) → is_less a b ≡ true → IsBelow a b
below_from_test a b h = elim (each_order (slice_cmp nat_cmp a b)) [
  | inl e ↦ e
  | inr r ↦ elim r [
    | inl e ↦ absurd (true≢false (sym (rw e at h)))
    | inr e ↦ absurd (true≢false (sym (rw e at h)))
  ]
]

less : (i j : ℕ) → i < j → nat_cmp i j ≡ Less
less i j h = sym (nat_cmp_is i j Less h)

equal : (i : ℕ) → nat_cmp i i ≡ Equal
equal i = sym (nat_cmp_is i i Equal refl)

pub below_first : (i j : ℕ) (a b : List ℕ) → i < j → IsBelow (i ∷ a) (j ∷ b)
below_first i j a b h = ap (λ (o : Ordering). ordering_then o (slice_cmp nat_cmp a b)) (less i j h)

pub below_second : (i j : ℕ) (a b : List ℕ) → i ≡ j → IsBelow a b → IsBelow (i ∷ a) (j ∷ b)
below_second i j a b same h =
    ap (λ (k : ℕ). ordering_then (nat_cmp i k) (slice_cmp nat_cmp a b)) (sym same)
    ∙ ap (λ (o : Ordering). ordering_then o (slice_cmp nat_cmp a b)) (equal i) ∙ h
