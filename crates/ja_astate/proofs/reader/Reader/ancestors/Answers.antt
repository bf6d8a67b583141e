use Rattle.std.proofs.Common.{ap, ◌∙◌}
use Rattle.ja_value.specs.Value.{labels_in}
use Rattle.ja_astate.specs.Looks.{view_of}
use Rattle.ja_astate.specs.code.Walks.{met_of}
use Rattle.ja_astate.proofs.Showing.{ancestors_are, proper_are, ancestors_demand}
use Rattle.ja_astate.proofs.reader.Reader.ancestors.Goals as goal

pub returns : goal.returns
returns c =
    let w = view_of c.args.self.now in
    let start = labels_in c.args.start.now in
    let met = met_of c.in_ok-met.met in
    record {
      all_are = ancestors_are w start met c.in_ok-met.ensures;
      proper_are =
          ap labels_in c.replace.ensures.value ∙ proper_are w start met c.in_ok-met.ensures;
      demands_are = ancestors_demand w start met c.in_ok-met.ensures;
    }
