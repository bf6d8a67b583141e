use Rattle.ja_base.specs.declared.ids.Label.{Label}
use Rattle.ja_abstract.specs.Made.{scope_key}
use Rattle.ja_abstract.specs.Resolved.{demands_of}
use Rattle.std.proofs.Common.{List, false, ap, ◌∙◌}
use Rattle.std.proofs.lemmas.List.{take_all}
use Rattle.ja_abstract.specs.Reading.{both}
use Rattle.ja_astate.specs.code.Pairs.{demands_over}
use Rattle.ja_aheap.specs.Objects.{demands_in}
use Rattle.ja_astate.specs.Looks.{view_of}
use Rattle.ja_astate.proofs.Loops.{demanded_more}
use Rattle.ja_flow.proofs.entering.demand_chains.Goals as goal

pub loop-label-preserved : goal.loop-label-preserved
loop-label-preserved c =
    demanded_more (λ (l : Label). demands_of (view_of c.args.reader.now).state l scope_key)
    c.args.members.now c.loop-label.label-index
    (record { site = record { 0 = 0 }; old = false }) c.loop-label-test.true
    (demands_in c.args.demands.now) (demands_in c.loop-label.demands)
    (demands_in c.demand.new.demands) c.loop-label.invariant c.in_ok-demand.ensures

pub returns : goal.returns
returns c =
    let members = c.args.members.now in
    c.loop-label.invariant
    ∙ ap (λ (ls : List Label). both (demands_in c.args.demands.now) (demands_over ls
    (λ l. demands_of (view_of c.args.reader.now).state l scope_key)))
    (take_all c.loop-label.label-index members c.loop-label-test.false)
