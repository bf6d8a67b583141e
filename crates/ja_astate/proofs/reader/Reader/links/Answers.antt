use Rattle.std.proofs.Common.{◌∙◌}
use Rattle.ja_abstract.specs.Reading.{slot}
use Rattle.ja_abstract.specs.Resolved.{demands_of}
use Rattle.ja_aheap.specs.Objects.{demands_in}
use Rattle.ja_value.specs.Value.{labels_in}
use Rattle.ja_astate.specs.Looks.{view_of}
use Rattle.ja_astate.proofs.Asked.{leads_nowhere, demands_where}
use Rattle.ja_astate.proofs.reader.Reader.links.Goals as goal

pub returns-then-not-leads-clause-labels : goal.returns-then-not-leads-clause-labels
returns-then-not-leads-clause-labels c =
    leads_nowhere (slot (view_of c.args.self.now) c.args.label c.args.link).label
    (labels_in c.new.result) c.args.leads c.if-not-leads.true c.new.ensures

pub returns-clause-demands : goal.returns-clause-demands
returns-clause-demands c =
    c.in_ok-demand.ensures
    ∙ demands_where (demands_in c.args.demands.now)
    (demands_of (view_of c.args.self.now).state c.args.label c.args.link) c.args.leads
    c.if-not-leads.false
