-- What clauses of the code cite beside `Lines`, and no believed statement.
use Rattle.std.specs.Prelude.{◌≡◌, Result, Ok, Err}
use Rattle.ja_base.specs.declared.ids.Memory.{Memory}
use Rattle.ja_base.specs.declared.ids.Reg.{Reg}
use Rattle.ja_lower_draft.specs.Lines.{Listing, Valued}

-- ---- what the functions that list give, unless memory was refused

abbrev pub Gives : Valued → Result Reg Memory → Listing → Type 0
Gives v (Ok reg) new = v ≡ record { listing = new; value = reg }
Gives v (Err e) new = Unit {0}

abbrev pub Adds : Listing → Result (Unit {0}) Memory → Listing → Type 0
Adds l (Ok done) new = l ≡ new
Adds l (Err e) new = Unit {0}
