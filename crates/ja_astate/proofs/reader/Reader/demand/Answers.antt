use Rattle.std.proofs.Common.{List, sym, ap, ◌∙◌}
use Rattle.ja_base.specs.declared.ids.Label.{Label}
use Rattle.ja_abstract.specs.Reading.{both}
use Rattle.ja_aheap.specs.Objects.{demands_in}
use Rattle.ja_astate.specs.Looks.{view_of}
use Rattle.ja_astate.specs.code.Pairs.{demands_for}
use Rattle.ja_astate.proofs.Pairs.{demands_for_origins}
use Rattle.ja_astate.proofs.reader.Reader.demand.Goals as goal

pub returns-in_ok-demand_each : goal.returns-in_ok-demand_each
returns-in_ok-demand_each c =
    let w = view_of c.args.self.now in
    c.in_ok-demand_each.ensures
    ∙ ap (λ (ls : List Label). both (demands_in c.args.demands.now) (demands_for c.args.key ls))
    (c.deref.ensures.value ∙ c.in_ok-origins.ensures)
    ∙ ap (both (demands_in c.args.demands.now)) (demands_for_origins w.state c.args.label c.args.key
    (sym c.may_be_as_at_entry.ensures ∙ c.if-may_be_as_at_entry.true))
