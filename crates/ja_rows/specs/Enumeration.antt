-- The nodes of `for`-`in` (12.6.4).
use Rattle.std.specs.Prelude.{◌++◌}
use Rattle.ja_base.specs.declared.ids.Reg.{Reg}
use Rattle.ja_graph.specs.declared.node.NodeInfo.{NodeInfo}
use Rattle.ja_abstract.specs.Reading.{View, no_demands, names_shown, demands_of_shown}
use Rattle.ja_abstract.specs.Values.{has_labels}
use Rattle.ja_rows.specs.Out.{Out, out, goes, sets, at}

-- the names of a `for`-`in` are fixed (12.6.4)
abbrev pub transfer_names : View → NodeInfo → Reg → Reg → Out
transfer_names w i list object = out (goes (has_labels w (at w object)) i.next w.state) no_demands

-- one of the names that may be shown, or none is left (12.6.4)
abbrev pub transfer_pick : View → NodeInfo → Reg → Reg → Reg → Out
transfer_pick w i list dst object =
    let start = (at w object).label in
    out (sets w dst (names_shown w start) i.next
    ++ goes (has_labels w (at w object)) i.other w.state)
    (demands_of_shown w start)
