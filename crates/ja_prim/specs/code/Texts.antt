-- What clauses of the code cite beside `Texts`, and no believed statement.
use Rattle.std.specs.Prelude.{◌≡◌, ℕ, List, Result, Ok, Err}
use Rattle.std.specs.Char.Escape.{encode_utf16}
use Rattle.std.specs.List.{flat_map}
use Rattle.std.specs.Str.{chars}
use Rattle.ja_prim.specs.declared.stop.Stop.{Stop}
use Rattle.ja_prim.specs.declared.stop.PrimFault.{PrimFault}
use Rattle.ja_prim.specs.declared.stop.PrimFault.TheVariants as fault

-- the UTF-16 units of a text, character by character (ES3 section 6)
abbrev pub utf16 : List ℕ → List ℕ
utf16 text = flat_map encode_utf16 (chars text)

-- what is answered where the exact result is known: that result, or that memory was refused
abbrev pub Answers : {A : Type 0} → Result A Stop → Result A PrimFault → Type 0
Answers exact (Ok value) = exact ≡ Ok value
Answers exact (Err (fault.Stop stop)) = exact ≡ Err stop
Answers exact (Err fault.Memory) = Unit {0}
