-- One label of those that may be a loop's.
use Rattle.std.specs.Prelude.{ℕ, ◌==◌, if◌then◌else◌, true}
use Rattle.ja_grammar.specs.Contexts.{Label}

-- the label, as a loop's unless n is 0
abbrev pub marked_one : ℕ → Label → Label
marked_one n l = record { name = l.name; is_loop = if n == 0 then l.is_loop else true }
