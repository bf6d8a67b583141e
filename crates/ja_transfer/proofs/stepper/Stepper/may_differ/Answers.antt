use Rattle.std.proofs.Common.{◌≡◌, ℕ, Bool, ◌&&◌, ◌||◌, not, List, ap, ◌∙◌}
use Rattle.std.specs.List.{list_any, filter}
use Rattle.ja_base.specs.declared.ids.Label.{Label}
use Rattle.ja_abstract.specs.AbstractValue.{Labels, same_label}
use Rattle.ja_abstract.specs.AbstractState.{labels_of, labels_below}
use Rattle.ja_value.specs.Value.{labels_in}
use Rattle.ja_transfer.proofs.Filters.{any_filter}
use Rattle.ja_transfer.proofs.stepper.Stepper.may_differ.Goals as goal

pub returns : goal.returns
returns c =
    let s = c.args.self.now in
    let all = labels_of s.reader.program.now in
    let a = labels_in c.args.a.now.labels in
    let b = labels_in c.args.b.now.labels in
    let differs = λ (l m : Label). l.old || not (same_label l m) in
    let others = c.deref-2.ensures.value ∙ c.in_ok-others.ensures in
    let labels = c.deref.ensures.value ∙ c.in_ok-labels.ensures in
    let of_labels : c.some_differ-differ.result
    ≡ list_any (λ l. a l && list_any (λ m. b m && differs l m) all) all =
    c.some_differ-differ.ensures
    ∙ ap (λ (ms : List Label). list_any (λ l. list_any (differs l) ms) c.deref.result.now) others
    ∙ ap (list_any (λ l. list_any (differs l) (filter b all))) labels
    ∙ any_filter a (λ l. list_any (differs l) (filter b all)) all
    ∙ ap (λ (f : Labels). list_any (λ l. a l && f l) all)
    (λ i l. any_filter b (differs l) all i) in
    let below = λ (v : Labels). ap (λ (n : ℕ). list_any v (labels_below n)) s.reader.sites_are in
    let parts = λ (x y z u v : Bool). x || ((y && z) || (u && v)) in
    λ i. parts (of_labels i) ((c.has_labels.ensures ∙ below a) i) (c.has_atoms.ensures i)
    (c.has_atoms-2.ensures i) ((c.has_labels-2.ensures ∙ below b) i)
