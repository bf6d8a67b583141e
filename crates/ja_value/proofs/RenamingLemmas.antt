-- Sets of labels that are renamed number by number.
use Rattle.std.proofs.Common.{◌≡◌, ◌≢◌, ℕ, ◌+◌, ◌*◌, ◌/◌, ◌%◌, Bool, true, false, ◌||◌, ◌&&◌, List, [], ◌∷◌, refl, ap, sym, ◌∙◌, arith, ⊎_elim}
use Rattle.std.specs.List.{list_any}
use Rattle.std.specs.Prelude.{◌==◌}
use Rattle.std.proofs.Math.Bool.{or-false}
use Rattle.std.proofs.lemmas.Bool.{cases_eq}
use Rattle.ja_base.specs.declared.ids.Site.{Site}
use Rattle.ja_abstract.specs.declared.abstraction.Mask.{Mask}
use Rattle.ja_abstract.specs.AbstractState.{exactly_none}
use Rattle.ja_abstract.specs.Resolved.{renamed_labels}
use Rattle.ja_value.specs.Labels.{has, number_mask, leads}
use Rattle.ja_value.proofs.AscendingLemmas.{equal, apart}
use Rattle.ja_value.proofs.LabelLemmas.{in_numbers}

-- whether one of the numbers leads to q
abbrev pub any_leads : (ℕ → Mask) → List ℕ → ℕ → Bool
any_leads mask ks q = list_any (λ (n : ℕ). leads mask n q) ks

-- what is renamed, and what is still to come, are all
pub record Renaming (mask : ℕ → Mask) (all rest now : List ℕ) : Type 0 where
  pub renamed : (q : ℕ) → (has now q || any_leads mask rest q) ≡ any_leads mask all q

mask_of_new : (mask : ℕ → Mask) (s : ℕ) → number_mask mask (2 * s) ≡ mask s
mask_of_new mask s =
    let half : (2 * s) / 2 ≡ s = omega arith in
    let rest : (2 * s) % 2 ≡ 0 = omega arith in
    rw (half, rest) refl

mask_of_old : (mask : ℕ → Mask) (n s : ℕ) → n ≡ 2 * s + 1 → number_mask mask n ≡ exactly_none
mask_of_old mask n s e =
    let rest : n % 2 ≡ 1 = omega arith in
    rw rest refl

lead_is : (mask : ℕ → Mask) (n q : ℕ) (m : Mask) (same next : Bool) → number_mask mask n ≡ m
    → (q == n) ≡ same → (q == (n + 1)) ≡ next
    → leads mask n q ≡ ((m.none && same) || (m.some && next))
lead_is mask n q m same next e f g =
    ap (λ (k : Mask). (k.none && (q == n)) || (k.some && (q == (n + 1)))) e
    ∙ ap (λ (b : Bool). (m.none && b) || (m.some && (q == (n + 1)))) f
    ∙ ap (λ (b : Bool). (m.none && same) || (m.some && b)) g

never : (a b : Bool) → ((a && false) || (b && false)) ≡ false
never a b = grind arith

at_same : (a b : Bool) → ((a && true) || (b && false)) ≡ a
at_same a b = grind arith

at_next : (a b : Bool) → ((a && false) || (b && true)) ≡ b
at_next a b = grind arith

-- to a new label only the same leads
lead_new : (mask : ℕ → Mask) (n s : ℕ) → leads mask n (2 * s)
    ≡ (((2 * s) == n) && (mask s).none)
lead_new mask n s =
    ⊎_elim (λ (e : n ≡ 2 * s).
    lead_is mask n (2 * s) (mask s) true false (ap (number_mask mask) e ∙ mask_of_new mask s)
    (equal (2 * s) n e) (apart (2 * s) (n + 1) (omega arith))
    ∙ at_same (mask s).none (mask s).some
    ∙ ap (λ (b : Bool). b && (mask s).none) (sym (equal (2 * s) n e)))
    (λ (ne : n ≢ 2 * s). ⊎_elim (λ (e : n + 1 ≡ 2 * s).
    lead_is mask n (2 * s) exactly_none false true (mask_of_old mask n (n / 2) (omega arith))
    (apart (2 * s) n (omega arith)) (equal (2 * s) (n + 1) e)
    ∙ ap (λ (b : Bool). b && (mask s).none) (sym (apart (2 * s) n (omega arith))))
    (λ (other : n + 1 ≢ 2 * s).
    lead_is mask n (2 * s) (number_mask mask n) false false refl (apart (2 * s) n (omega arith))
    (apart (2 * s) (n + 1) (omega arith))
    ∙ never (number_mask mask n).none (number_mask mask n).some
    ∙ ap (λ (b : Bool). b && (mask s).none) (sym (apart (2 * s) n (omega arith))))
    (cases_eq (n + 1) (2 * s)))
    (cases_eq n (2 * s))

-- to an old label the same leads, and the new one of the site where an object more may have been
-- made
lead_old : (mask : ℕ → Mask) (n s : ℕ) → leads mask n (2 * s + 1)
    ≡ (((2 * s + 1) == n) || (((2 * s) == n) && (mask s).some))
lead_old mask n s =
    ⊎_elim (λ (e : n ≡ 2 * s + 1).
    lead_is mask n (2 * s + 1) exactly_none true false (mask_of_old mask n s e)
    (equal (2 * s + 1) n e) (apart (2 * s + 1) (n + 1) (omega arith))
    ∙ ap (λ (b : Bool). b || (((2 * s) == n) && (mask s).some))
    (sym (equal (2 * s + 1) n e)))
    (λ (ne : n ≢ 2 * s + 1). ⊎_elim (λ (e : n ≡ 2 * s).
    lead_is mask n (2 * s + 1) (mask s) false true (ap (number_mask mask) e ∙ mask_of_new mask s)
    (apart (2 * s + 1) n (omega arith)) (equal (2 * s + 1) (n + 1) (omega arith))
    ∙ at_next (mask s).none (mask s).some
    ∙ sym (ap (λ (b : Bool). b || (((2 * s) == n) && (mask s).some))
    (apart (2 * s + 1) n (omega arith)) ∙ ap (λ (b : Bool). b && (mask s).some)
    (equal (2 * s) n e)))
    (λ (other : n ≢ 2 * s).
    lead_is mask n (2 * s + 1) (number_mask mask n) false false refl
    (apart (2 * s + 1) n (omega arith)) (apart (2 * s + 1) (n + 1) (omega arith))
    ∙ never (number_mask mask n).none (number_mask mask n).some
    ∙ sym (ap (λ (b : Bool). b || (((2 * s) == n) && (mask s).some))
    (apart (2 * s + 1) n (omega arith)) ∙ ap (λ (b : Bool). b && (mask s).some)
    (apart (2 * s) n (omega arith))))
    (cases_eq n (2 * s)))
    (cases_eq n (2 * s + 1))

one_more_new : (x y b : Bool) → ((x && b) || (y && b)) ≡ ((x || y) && b)
one_more_new x y b = grind arith

one_more_old : (x y u v b : Bool) → ((x || (u && b)) || (y || (v && b)))
    ≡ ((x || y) || ((u || v) && b))
one_more_old x y u v b = grind arith

any_new : (mask : ℕ → Mask) (ks : List ℕ) (s : ℕ)
    → any_leads mask ks (2 * s) ≡ (has ks (2 * s) && (mask s).none)
any_new mask [] s = refl
any_new mask (k ∷ ks) s =
    ap (λ (b : Bool). b || any_leads mask ks (2 * s)) (lead_new mask k s)
    ∙ ap (λ (b : Bool). (((2 * s) == k) && (mask s).none) || b) (any_new mask ks s)
    ∙ one_more_new (((2 * s) == k)) (has ks (2 * s)) (mask s).none

any_old : (mask : ℕ → Mask) (ks : List ℕ) (s : ℕ)
    → any_leads mask ks (2 * s + 1) ≡ (has ks (2 * s + 1) || (has ks (2 * s) && (mask s).some))
any_old mask [] s = refl
any_old mask (k ∷ ks) s =
    ap (λ (b : Bool). b || any_leads mask ks (2 * s + 1)) (lead_old mask k s)
    ∙ ap (λ (b : Bool). (((2 * s + 1) == k)
    || (((2 * s) == k) && (mask s).some)) || b) (any_old mask ks s)
    ∙ one_more_old (((2 * s + 1) == k)) (has ks (2 * s + 1)) (((2 * s) == k))
    (has ks (2 * s)) (mask s).some

even : (s : ℕ) → 2 * s ≡ 2 * s + 0
even s = omega arith

renamed_at : (mask : ℕ → Mask) (all now : List ℕ) → ((q : ℕ) → has now q ≡ any_leads mask all q)
    → (s : Site) (old : Bool) → in_numbers now (record { site = s; old = old })
    ≡ renamed_labels mask (in_numbers all) (record { site = s; old = old })
renamed_at mask all now h s true =
    h (2 * s.0 + 1) ∙ any_old mask all s.0 ∙ ap
    (λ (n : ℕ). has all (2 * s.0 + 1) || (has all n && (mask s.0).some)) (even s.0)
renamed_at mask all now h s false =
    ap (has now) (sym (even s.0)) ∙ h (2 * s.0) ∙ any_new mask all s.0
    ∙ ap (λ (n : ℕ). has all n && (mask s.0).none) (even s.0)

-- all is renamed once nothing is to come
pub renamed_all : (mask : ℕ → Mask) (all rest now : List ℕ) → Renaming mask all rest now → rest ≡ []
    → in_numbers now ≡ renamed_labels mask (in_numbers all)
renamed_all mask all rest now h e =
    λ i l. (renamed_at mask all now (λ q. sym (or-false (has now q))
    ∙ ap (λ (ks : List ℕ). has now q || any_leads mask ks q) (sym e) ∙ h.renamed q) l.site
    l.old) i
