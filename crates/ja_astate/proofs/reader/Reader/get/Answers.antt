use Rattle.std.proofs.Common.{ap, ◌∙◌}
use Rattle.ja_abstract.specs.AbstractValue.{join_properties}
use Rattle.ja_value.specs.Value.{labels_in, property_of}
use Rattle.ja_astate.specs.Looks.{view_of}
use Rattle.ja_astate.specs.code.Walks.{met_of}
use Rattle.ja_astate.proofs.Asked.{get_absent_too, get_present_alone, get_demands}
use Rattle.ja_astate.proofs.reader.Reader.get.Goals.{then-may_end+in_ok-join, else-may_end}
use Rattle.ja_astate.proofs.reader.Reader.get.Goals as goal

pub returns : goal.returns
returns c =
    let w = view_of c.args.self.now in
    let start = labels_in c.args.start.now in
    let keys = c.args.keys.now in
    let met = met_of c.in_ok-property.field-0 in
    let met_is = c.in_ok-property.ensures in
    record {
      property =
          elim c.if-may_end.branch [
            | then-may_end+in_ok-join b ↦
                ap property_of b.property-is ∙ b.in_ok-join.ensures.joined
                ∙ ap (join_properties met.property) b.absent-absent.ensures
                ∙ get_absent_too w start keys met met_is b.if-may_end.true
            | else-may_end b ↦
                ap property_of b.property-is
                ∙ get_present_alone w start keys met met_is b.if-may_end.false
          ];
      demands_are = get_demands w start keys met met_is;
    }
