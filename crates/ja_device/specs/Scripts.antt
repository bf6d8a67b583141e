-- A device that answers from a list.
use Rattle.std.specs.Prelude.{◌≡◌, ◌+◌, ◌-◌, ℕ, true, List, length, min}
use Rattle.std.specs.List.{list_all}
use Rattle.ja_base.specs.Counts.{counted}
use Rattle.ja_prim.specs.declared.primitive.Primitive.{Primitive}
use Rattle.ja_prim.specs.declared.signature.Kinds.{Kinds}
use Rattle.ja_machine.specs.Machine.{is_of_kinds}

-- each answer is of the declared kinds
abbrev pub AreOfKinds : Kinds → List Primitive → Type 0
AreOfKinds kinds answers = list_all (is_of_kinds kinds) answers ≡ true

-- the index of the answer behind so many: the last one is repeated
abbrev pub answer_index : List Primitive → ℕ → ℕ
answer_index answers given = min given (length answers - 1)

-- the number of the call behind so many that were answered and so many that failed, counted from 1
abbrev pub call_number : ℕ → ℕ → ℕ
call_number answered failed = counted (answered + failed)
