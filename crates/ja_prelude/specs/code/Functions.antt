-- What clauses of the code cite beside `Functions`, and no believed statement.
use Rattle.std.specs.Prelude.{ℕ, List}
use Rattle.std.specs.Borrow.{Bor}
use Rattle.ja_prelude.specs.Functions.{PathAndText}

-- a function, as the code goes over them
abbrev pub seen : Bor (List ℕ) × Bor (List ℕ) → PathAndText
seen f = (f.0.now, f.1.now)
