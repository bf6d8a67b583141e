-- The receivers of a call among the labels of a value.
use Rattle.std.specs.Prelude.{Bool, not, ◌&&◌}
use Rattle.ja_graph.specs.declared.program.Program.{Program}
use Rattle.ja_graph.specs.Program.{global}
use Rattle.ja_abstract.specs.AbstractValue.{Labels, same_label}
use Rattle.ja_abstract.specs.AbstractState.{new}
use Rattle.ja_rows.specs.Edges.{is_activation_label}

-- no activation, and not the global object where that is listed already
abbrev pub is_more : Program → Bool → Labels
is_more p is_listed l =
    not (is_activation_label p l) && not (is_listed && same_label (new global) l)
