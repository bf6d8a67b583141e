use Rattle.std.proofs.Common.{◌≡◌, refl, ap, ◌∙◌}
use Rattle.ja_graph.specs.declared.builtins.TheConstants as builtins
use Rattle.ja_abstract.specs.AbstractState.{aged, new}
use Rattle.ja_abstract.specs.AbstractValue.{AbstractProperty, AbstractValue, Labels, join, of_label, of_labels}
use Rattle.ja_abstract.specs.Made.{Own, constructed_own, with_object}
use Rattle.ja_abstract.specs.Reading.{get, demands_of_get}
use Rattle.ja_abstract.specs.Values.{has_non_object, value_if}
use Rattle.ja_rows.specs.Calls.{prototype_value}
use Rattle.ja_rows.specs.Properties.{prototype_keys}
use Rattle.ja_astate.specs.Looks.{view_of}
use Rattle.ja_value.specs.Value.{value_of}
use Rattle.ja_flow.proofs.calling.constructing.Goals as goal

pub returns : goal.returns
returns c =
    let r = c.args.reader.now in
    let w = view_of r in
    let keys = prototype_keys w.program in
    let over : AbstractProperty → AbstractValue = λ q.
    join (value_if (has_non_object q.value) (of_label (new builtins.OBJECT_PROTOTYPE)))
    (of_labels q.value.label) in
    let value_is : value_of c.in_ok-prototype.prototype
    ≡ prototype_value w c.args.node.now c.args.function.0 =
    c.in_ok-prototype.ensures ∙ ap over (c.in_ok-property.ensures.property
    ∙ ap (λ (s : Labels). get w s keys) c.in_ok-functions.ensures) in
    record {
      state = c.in_ok-state.state;
      made = refl;
      state_is =
          c.in_ok-state.ensures.state w.program r.heap_is
          ∙ ap (λ (own : Own). with_object w.program w.state c.args.site (λ a. own))
          (c.in_ok-made.ensures
          ∙ ap (λ (v : AbstractValue). constructed_own (aged c.args.site v)) value_is);
      demands_are =
          c.in_ok-property.ensures.demands_are
          ∙ ap (λ (s : Labels). demands_of_get w s keys) c.in_ok-functions.ensures;
      shape = c.in_ok-state.ensures.shape;
    }
