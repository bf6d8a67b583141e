use Rattle.std.proofs.Common.{ap, ◌∙◌}
use Rattle.ja_abstract.specs.AbstractValue.{AbstractValue, join}
use Rattle.ja_value.specs.Value.{labels_in}
use Rattle.ja_astate.specs.Looks.{view_of}
use Rattle.ja_astate.specs.code.Walks.{met_of}
use Rattle.ja_astate.proofs.Searches.{found_is, found_demands}
use Rattle.ja_astate.proofs.reader.Reader.found.Goals as goal

pub returns : goal.returns
returns c =
    let w = view_of c.args.self.now in
    let start = labels_in c.args.start.now in
    let keys = c.args.keys.now in
    let met = met_of c.in_ok-met.met in
    let met_is = c.in_ok-met.ensures in
    record {
      value =
          c.in_ok-join.ensures.joined
          ∙ ap (λ (v : AbstractValue). join v met.property.value) c.null_if-value.ensures
          ∙ found_is w start keys met met_is;
      demands_are = found_demands w start keys met met_is;
    }
