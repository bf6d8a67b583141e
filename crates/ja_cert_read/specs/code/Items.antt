-- The words of visits.
use Rattle.std.specs.Prelude.{ℕ, ◌==◌, if◌then◌else◌, List}
use lib.Chars.{codes}

-- by their places
abbrev pub item_word : ℕ → List ℕ
item_word n =
    if n == 0 then codes "open" else if n == 1 then codes "step"
    else if n == 2 then codes "fill" else codes "back"
