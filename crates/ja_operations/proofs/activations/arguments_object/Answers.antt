use Rattle.std.proofs.Common.{◌≡◌, ℕ, ◌+◌, ◌<◌, Bool, List, length, drop, sym, ap, ◌∙◌, arith}
use Rattle.ja_graph.specs.declared.attrs.TheConstants.{DONT_ENUM}
use Rattle.ja_machine.specs.declared.machine.Object.{Object}
use Rattle.ja_machine.specs.declared.machine.Property.{Property}
use Rattle.ja_machine.specs.declared.machine.Value.{Value}
use Rattle.ja_machine.specs.Frames.{argument}
use Rattle.ja_machine.specs.Objects.{property_with, with_property, with_flag}
use Rattle.ja_machine.specs.Objects.{first_flag, index_text}
use Rattle.ja_operations.proofs.Sharing.{all_elements, one_more}
use Rattle.ja_operations.proofs.activations.arguments_object.Goals as goal

pub loop-index-init : goal.loop-index-init
loop-index-init c =
    let arguments : List Value = c.args.arguments.now in
    let flags : List Bool = c.args.flags.now in
    ap (λ (n : Object).
    let m : Object = record n { properties = all_elements arguments flags 0 n.properties } in m)
    c.in_ok-object.ensures.object

pub loop-index-preserved : goal.loop-index-preserved
loop-index-preserved c =
    let arguments : List Value = c.args.arguments.now in
    let flags : List Bool = c.args.flags.now in
    let i : ℕ = c.loop-index.index in
    let o : Object = c.loop-index.object in
    let low : i < length arguments = omega (arith, c.loop-index-test.true) in
    let put : List ℕ → Value → Bool → Object =
    λ t v b. record o {
      properties = with_property o.properties (with_flag (property_with t v DONT_ENUM) b);
    } in
    let flag : Bool = first_flag (drop i flags) in
    let changed : c.set_property.new.self ≡ put (index_text i) (argument arguments i) flag =
    c.in_ok-set_property.ensures.set
    ∙ ap (λ (t : List ℕ). put t c.in_ok-value.value c.flag.result) c.in_ok-name.ensures
    ∙ ap (λ (v : Value). put (index_text i) v c.flag.result) c.in_ok-value.ensures
    ∙ ap (λ (b : Bool). put (index_text i) (argument arguments i) b) c.flag.ensures in
    ap (λ (n : Object).
    let qs : List Property = all_elements arguments flags (i + 1) n.properties in
    let m : Object = record n { properties = qs } in m)
    changed
    ∙ ap (λ (qs : List Property). let m : Object = record o { properties = qs } in m)
    (sym (one_more arguments flags i o.properties low))
    ∙ c.loop-index.invariant
