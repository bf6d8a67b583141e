use Rattle.ja_value.specs.Value.{property_of}
use Rattle.ja_astate.specs.Looks.{view_of}
use Rattle.ja_astate.proofs.Showing.{shown_if}
use Rattle.ja_astate.proofs.reader.Reader.may_show.Goals as goal

pub returns : goal.returns
returns c =
    shown_if (view_of c.args.self.now) c.args.self.now.sites
    (property_of c.in_ok-property.property) c.args.label c.args.key c.is_present.result
    c.is_present.ensures c.args.self.now.sites_are c.in_ok-property.ensures
