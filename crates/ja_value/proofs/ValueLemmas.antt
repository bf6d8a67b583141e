-- Values part by part.
use Rattle.std.proofs.Common.{◌≡◌, ◌||◌, ap, ◌∙◌}
use Rattle.ja_base.specs.declared.ids.Label.{Label}
use Rattle.ja_base.specs.declared.ids.Site.{Site}
use Rattle.ja_abstract.specs.declared.abstraction.Flags.{Flags}
use Rattle.ja_abstract.specs.declared.abstraction.NumberPart.{NumberPart}
use Rattle.ja_abstract.specs.declared.abstraction.TextPart.{TextPart}
use Rattle.ja_abstract.specs.AbstractValue.{Labels, AbstractValue, same_label, no_labels, of_label, of_labels}
use Rattle.ja_abstract.specs.AbstractState.{aged}
use Rattle.ja_value.specs.Labels.{aged_labels}

abbrev pub value : Flags → NumberPart → TextPart → Labels → AbstractValue
value f n t l = record { flags = f; number = n; text = t; label = l }

-- values with the same parts are one
pub parts_ext : (f f' : Flags) (n n' : NumberPart) (t t' : TextPart) (l l' : Labels) → f ≡ f'
    → n ≡ n' → t ≡ t' → l ≡ l' → value f n t l ≡ value f' n' t' l'
parts_ext f f' n n' t t' l l' e g h k = λ i. value (e i) (g i) (h i) (k i)

-- a set that had no label and was given one
pub one_label : (first set : Labels) (label : Label) → first ≡ no_labels
    → set ≡ (λ l. first l || same_label label l) → of_labels set ≡ of_label label
one_label first set label none e =
    ap of_labels (e ∙ ap (λ (f : Labels). let g : Labels = λ l. f l || same_label label l in g)
    none)

-- a copy whose labels aged
pub aged_copy : (v w : AbstractValue) (set : Labels) (site : Site) → v ≡ w
    → set ≡ aged_labels site v.label → value v.flags v.number v.text set ≡ aged site w
aged_copy v w set site e g =
    ap (λ (l : Labels). value v.flags v.number v.text l) g ∙ ap (aged site) e
