use Rattle.std.proofs.Common.{◌&&◌, ◌||◌, ℕ, Bool, sym, subst, ap, ◌∙◌}
use Rattle.std.specs.List.{list_any}
use Rattle.ja_abstract.specs.AbstractState.{labels_below}
use Rattle.ja_abstract.specs.AbstractValue.{AbstractValue}
use Rattle.ja_abstract.specs.Operations.{Looked}
use Rattle.ja_abstract.specs.Primitives.{of_bools}
use Rattle.ja_abstract.specs.Reading.{View, some_label, demands_if, proper_ancestors, demands_of_ancestors}
use Rattle.ja_abstract.specs.Values.{has_atoms, has_labels, value_if}
use Rattle.ja_astate.specs.Looks.{view_of}
use Rattle.ja_value.specs.Value.{value_of}
use Rattle.ja_functions.specs.code.Told.{IsTold}
use Rattle.ja_functions.proofs.internals.inherits.Goals as goal

-- what is told, by whether the second may be an object
abbrev told : View → AbstractValue → AbstractValue → Bool → Looked
told w v o b = record {
  value =
      value_if b (of_bools (some_label w (λ l. proper_ancestors w v.label l && o.label l))
      (has_labels w v || has_atoms v));
  demands = demands_if b (demands_of_ancestors w v.label);
}

pub returns-then-not-is_asked : goal.returns-then-not-is_asked
returns-then-not-is_asked c =
    let w = view_of c.args.reader.now in
    let o = value_of c.args.prototype.now in
    let has = c.has_labels-is_asked.ensures
    ∙ ap (λ (n : ℕ). list_any o.label (labels_below n)) c.args.reader.now.sites_are in
    subst (λ (b : Bool). IsTold (told w (value_of c.args.value.now) o b) c.nothing.result)
    (sym c.if-not-is_asked.true ∙ has) c.nothing.ensures

pub returns : goal.returns
returns c =
    let w = view_of c.args.reader.now in
    let v = value_of c.args.value.now in
    let o = value_of c.args.prototype.now in
    let sites = λ (u : AbstractValue). ap (λ (n : ℕ). list_any u.label (labels_below n))
    c.args.reader.now.sites_are in
    let found = c.in_ok-proper.ensures in
    let leads = c.intersects-leads.ensures
    ∙ (λ n. list_any (λ l. found.proper_are n l && o.label l)
    (labels_below (c.args.reader.now.sites_are n))) in
    let has = c.has_labels.ensures ∙ sites v in
    subst (λ (b : Bool). IsTold (told w v o b) (record {
      value = c.of_bools.result;
      demands = c.in_ok-proper.field-0.demands;
    })) (sym c.if-not-is_asked.false ∙ (c.has_labels-is_asked.ensures ∙ sites o)) (record {
      value = c.of_bools.ensures ∙ (λ n. of_bools (leads n)
          (has n || c.has_atoms.ensures n));
      demands_are = found.demands_are;
    })
