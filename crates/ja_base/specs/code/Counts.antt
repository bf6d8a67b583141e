-- What clauses of the code cite beside `Counts`, and no believed statement.
use Rattle.std.specs.Prelude.{ℕ, max}

-- how many bytes a call moves at most, which is at least one
abbrev pub piece_of : ℕ → ℕ
piece_of piece = max piece 1
