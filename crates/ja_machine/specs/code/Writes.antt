-- What clauses of the code cite beside `Writes`, and no believed statement.
use Rattle.std.specs.Prelude.{ℕ, true, if◌then◌else◌, List}
use Rattle.ja_prim.specs.Texts.{same_text}
use Rattle.ja_machine.specs.declared.machine.Property.{Property}

-- a property is shared from now on, if it is there
abbrev pub shared_from_now : List ℕ → Property → Property
shared_from_now name q = if same_text q.name name then record q { shared = true } else q
