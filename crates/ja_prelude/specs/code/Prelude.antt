-- What clauses of the code cite beside `Prelude`, and no believed statement.
use Rattle.ja_prelude.specs.declared.prelude.Prelude.{Prelude}
use Rattle.ja_prelude.specs.Prelude.{prelude_statements, prelude_paths, prelude_names}

-- what the code keeps of them
abbrev pub the_prelude : Prelude
the_prelude =
    record { statements = prelude_statements; paths = prelude_paths; names = prelude_names }
