use Rattle.std.proofs.Common.{List, ap, ◌∙◌, map}
use Rattle.ja_base.specs.declared.ids.Label.{Label}
use Rattle.ja_abstract.specs.Keys.{text_keys}
use Rattle.ja_abstract.specs.Reading.{both, demands_of_own}
use Rattle.ja_abstract.specs.Resolved.{join_values}
use Rattle.ja_aheap.specs.Objects.{demands_in}
use Rattle.ja_value.specs.Value.{labels_in}
use Rattle.ja_astate.specs.Looks.{view_of}
use Rattle.ja_astate.specs.code.Chains.{shown_text}
use Rattle.ja_astate.specs.code.Pairs.{demands_over}
use Rattle.ja_astate.proofs.Showing.{names_are, shown_demand}
use Rattle.ja_astate.proofs.reader.Reader.shown.Goals as goal

pub returns : goal.returns
returns c =
    let w = view_of c.args.self.now in
    let start = labels_in c.args.start.now in
    let found = c.in_ok-all.ensures in
    let all = labels_in c.in_ok-all.field-0.all in
    let members = c.in_ok-members.members.items in
    let demands = demands_in c.in_ok-all.field-0.demands in
    record {
      value =
          c.in_ok-value.ensures
          ∙ ap (λ (ls : List Label). join_values (map (shown_text w ls) (text_keys w.program)))
          c.deref.ensures.value
          ∙ names_are w start all members found.all_are c.in_ok-members.ensures;
      demands_are =
          shown_demand w start all members found.all_are c.in_ok-members.ensures demands _
          found.demands_are (c.in_ok-demand_texts.ensures
          ∙ ap (λ (ls : List Label). both demands (demands_over ls
          (λ l. demands_of_own w l (text_keys w.program)))) c.deref-2.ensures.value);
    }
