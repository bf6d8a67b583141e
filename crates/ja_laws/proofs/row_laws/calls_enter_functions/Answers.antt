-- Nothing else is called, or nothing is.
use Rattle.std.proofs.Common.{ap}
use Rattle.ja_machine.specs.Events.{not_a_constructor_message, not_a_function_message}
use Rattle.ja_rows.specs.Edges.{calls_at, constructs_at, receivers}
use Rattle.ja_rows.specs.Out.{at, type_error}
use Rattle.ja_abstract.specs.AbstractValue.{same_label}
use Rattle.ja_abstract.specs.AbstractState.{new}
use Rattle.ja_laws.proofs.row_laws.calls_enter_functions.Goals as goal
use Rattle.ja_laws.proofs.PinnedRows.{no_edge, no_other}

pub returns : goal.returns
returns c = record {
  calls =
      λ w x i dst callee receiver args error all.
      ap (λ b. type_error w b i error not_a_function_message)
      (no_other w (calls_at w.program) (at w callee) all);
  constructions =
      λ w x i dst callee args site error all.
      ap (λ b. type_error w b i error not_a_constructor_message)
      (no_other w (constructs_at w.program) (at w callee) all);
  no_calls =
      λ w x i dst callee receiver args error none.
      no_edge w x (calls_at w.program) (at w callee) (receivers w (at w receiver)) none;
  no_constructions =
      λ w x i dst callee args site error none.
      no_edge w x (constructs_at w.program) (at w callee) (same_label (new site)) none;
}
