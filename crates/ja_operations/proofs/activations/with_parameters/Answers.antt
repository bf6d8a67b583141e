use Rattle.std.proofs.Common.{◌≡◌, ℕ, ◌+◌, ◌<◌, Bool, List, length, drop, get_or, sym, ap, ◌∙◌, arith}
use Rattle.std.proofs.lemmas.List.{drop_more}
use Rattle.ja_base.specs.declared.ids.NameId.{NameId}
use Rattle.ja_graph.specs.declared.attrs.TheConstants.{DONT_DELETE}
use Rattle.ja_machine.specs.declared.machine.Object.{Object}
use Rattle.ja_machine.specs.declared.machine.Property.{Property}
use Rattle.ja_machine.specs.declared.machine.Value.{Value}
use Rattle.ja_machine.specs.Frames.{argument}
use Rattle.ja_machine.specs.Nodes.{name_text}
use Rattle.ja_machine.specs.Objects.{property_with, with_property, with_flag, first_flag}
use Rattle.ja_operations.proofs.Sharing.{all_bound, bound}
use Rattle.ja_operations.proofs.activations.with_parameters.Goals as goal

pub loop-index-preserved : goal.loop-index-preserved
loop-index-preserved c =
    let text : NameId → List ℕ = name_text c.args.program.now in
    let names : List NameId = c.args.parameters.now in
    let arguments : List Value = c.args.arguments.now in
    let flags : List Bool = c.args.flags.now in
    let i = c.loop-index.index in
    let o : Object = c.loop-index.object in
    let x : NameId = get_or names i (record { 0 = 0 }) in
    let low : i < length names = omega (arith, c.loop-index-test.true) in
    let put : List ℕ → Value → Bool → Object = λ t v b.
    record o {
      properties = with_property o.properties
          (with_flag (property_with t v DONT_DELETE) b);
    } in
    let changed : c.set_property.new.self ≡ put (text x) (argument arguments i)
    (first_flag (drop i flags)) =
    c.in_ok-set_property.ensures.set
    ∙ ap (λ (t : List ℕ). put t c.in_ok-value.value c.flag.result) c.name_text-name.ensures
    ∙ ap (λ (v : Value). put (text x) v c.flag.result) c.in_ok-value.ensures
    ∙ ap (λ (b : Bool). put (text x) (argument arguments i) b) c.flag.ensures in
    ap (λ (n : Object). let m : Object = record n
    { properties = all_bound text names arguments flags (i + 1) n.properties } in m) changed
    ∙ ap (λ (qs : List Property). let m : Object = record o { properties = qs } in m)
    (sym (bound text names arguments flags i o.properties x
    (drop_more names i (record { 0 = 0 }) low)))
    ∙ c.loop-index.invariant
