use Rattle.std.proofs.Common.{List, ap, ◌∙◌}
use Rattle.ja_base.specs.declared.ids.Reg.{Reg}
use Rattle.ja_abstract.specs.AbstractValue.{join, undefined_value}
use Rattle.ja_abstract.specs.Resolved.{join_values}
use Rattle.ja_rows.specs.Calls.{values_of}
use Rattle.ja_rows.specs.Out.{at}
use Rattle.ja_astate.specs.Looks.{view_of}
use Rattle.ja_flow.proofs.Loops.{map_left}
use Rattle.ja_flow.proofs.arguments.listed.Goals as goal

pub returns : goal.returns
returns c =
    let w = view_of c.args.reader.now in
    record {
      parameters_are = c.in_ok-parameters_given.ensures;
      rest =
          c.in_ok-rest.ensures
          ∙ ap (join undefined_value) (c.in_ok-more.ensures
          ∙ ap (λ (rs : List Reg). join_values (values_of w rs)) c.past.ensures
          ∙ ap join_values (map_left (at w) c.args.parameters c.args.list.now));
      count = c.in_ok-count_of_list.ensures;
      demands_are = c.new.ensures;
    }
