-- Labels by their numbers.
use Rattle.std.proofs.Common.{◌≡◌, ◌==◌, ◌+◌, ◌<◌, ◌≤◌, ℕ, Bool, true, false, ap, ◌∙◌, subst, arith}
use Rattle.std.proofs.lemmas.Grind.{common_steps}
use Rattle.std.proofs.lemmas.Bool.Decides.{nat_tests}
use Rattle.ja_base.specs.declared.ids.Label.{Label}
use Rattle.ja_base.specs.declared.ids.Site.{Site}
use Rattle.ja_abstract.specs.AbstractValue.{same_label}
use Rattle.ja_abstract.specs.AbstractState.{label_number, new, old}
use Rattle.ja_abstract.proofs.Labels.{same_label-true}
use Rattle.ja_value.specs.Labels.{label_at}
use Rattle.ja_value.proofs.LabelLemmas.{number_label}

pub same_label_is : (a b : Label) → same_label a b ≡ (label_number a == label_number b)
same_label_is a b = grind (arith, common_steps, nat_tests)

-- the label of its number
pub label_number_at : (l : Label) → label_at (label_number l) ≡ l
label_number_at l =
    same_label-true (label_at (label_number l)) l (same_label_is (label_at (label_number l)) l
    ∙ ap (λ (n : ℕ). n == label_number l) (number_label (label_number l))
    ∙ equal_test (label_number l))
  where
    equal_test : (n : ℕ) → (n == n) ≡ true
    equal_test n = grind (arith, common_steps, nat_tests)

-- what is so of both labels of a site is so of each label from the site up to the next
pub both_labels : (P : Label → Type 0) (s : Site) → P (new s) → P (old s) → (l : Label)
    → s.0 ≤ l.site.0 → l.site.0 < s.0 + 1 → P l
both_labels P s made before l above below =
    let same : s.0 ≡ l.site.0 = omega (arith, above, below) in
    subst P (λ i. record { site = record { 0 = same i }; old = l.old }) (by l.old)
  where
    by : (b : Bool) → P (record { site = s; old = b })
    by false = made
    by true = before
