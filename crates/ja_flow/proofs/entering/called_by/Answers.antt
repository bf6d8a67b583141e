use Rattle.std.proofs.Common.{List, ap, ◌∙◌}
use Rattle.std.specs.List.{list_any}
use Rattle.ja_base.specs.declared.ids.Label.{Label}
use Rattle.ja_abstract.specs.AbstractValue.{Labels}
use Rattle.ja_abstract.specs.Made.{scope_key}
use Rattle.ja_abstract.specs.Reading.{both, slot}
use Rattle.ja_abstract.specs.Resolved.{demands_of}
use Rattle.ja_aheap.specs.Objects.{demands_in}
use Rattle.ja_astate.specs.Looks.{view_of}
use Rattle.ja_astate.specs.code.Pairs.{demands_over}
use Rattle.ja_value.specs.Value.{labels_in}
use Rattle.ja_flow.proofs.Chains.{callee_is, chain_is, chain_demanded}
use Rattle.ja_flow.proofs.entering.called_by.Goals as goal

pub returns-clause-called : goal.returns-clause-called
returns-clause-called c =
    let w = view_of c.args.reader.now in
    let n = c.args.node.now in
    let f = c.args.function.0 in
    let set = labels_in c.in_ok-functions.functions in
    let set_is = c.in_ok-functions.ensures in
    record {
      callee = c.of_labels.ensures ∙ callee_is w n f c.requires.kind set set_is;
      chain =
          c.of_labels-2.ensures
          ∙ chain_is w n f c.requires.kind set set_is c.in_ok-members.members.items
          c.in_ok-members.ensures (labels_in c.in_ok-chain.chain)
          (c.in_ok-chain.ensures ∙ ap {B = Labels} (λ (ls : List Label) m.
          list_any (λ (l : Label). (slot w l scope_key).label m) ls) c.deref-2.ensures.value);
    }

pub returns-clause-demands : goal.returns-clause-demands
returns-clause-demands c =
    let w = view_of c.args.reader.now in
    let first = demands_in c.args.demands.now in
    chain_demanded w c.args.node.now c.args.function.0 c.requires.kind
    (labels_in c.in_ok-functions.functions) c.in_ok-functions.ensures
    c.in_ok-members.members.items c.in_ok-members.ensures first _
    (c.in_ok-demand_chains.ensures
    ∙ ap (λ (ls : List Label). both first (demands_over ls
    (λ l. demands_of w.state l scope_key))) c.deref.ensures.value)
