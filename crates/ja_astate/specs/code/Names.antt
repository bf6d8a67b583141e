-- The names of a program by their texts, the first ones of them so far.
use Rattle.std.specs.Prelude.{◌≡◌, ℕ, nat_eq, nat_lt, if◌then◌else◌, List, Option, Some, None}
use Rattle.std.specs.Option.{option_and_then}
use Rattle.std.specs.Cmp.Lexicographic.{pointwise}
use Rattle.std.specs.HashMap.{HashMap, get}
use Rattle.ja_base.specs.declared.ids.NameId.{NameId}
use Rattle.ja_graph.specs.declared.program.Program.{Program}
use Rattle.ja_abstract.specs.Keys.{name_of}
use Rattle.ja_astate.specs.Keys.{name_id}

-- the name of a number, if it is one of the first
abbrev pub name_if : ℕ → ℕ → Option NameId
name_if end n = if nat_lt n end then Some (name_id n) else None

-- each text is looked up as the name that it is, if that is one of the first
abbrev pub HasFirst : {S : Type 0} → Program → ℕ → HashMap (List ℕ) NameId S → Type 0
HasFirst p end names =
    (t : List ℕ) → get (pointwise nat_eq) names t ≡ option_and_then (name_if end) (name_of p t)
