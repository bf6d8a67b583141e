-- What clauses of the code cite beside `Contexts`, and no believed statement.
use Rattle.std.specs.Prelude.{map}
use Rattle.ja_grammar.specs.declared.context.Context.{Context as Stored}
use Rattle.ja_grammar.specs.declared.context.Label.{Label as StoredLabel}
use Rattle.ja_grammar.specs.Contexts.{Label, Context}

abbrev pub label_of : StoredLabel → Label
label_of l = record { name = l.name.now; is_loop = l.is_loop }

-- what a stored context says
abbrev pub context_of : Stored → Context
context_of c =
    record {
      in_function = c.in_function;
      in_loop = c.in_loop;
      in_breakable = c.in_breakable;
      labels = map label_of c.labels.items;
    }
