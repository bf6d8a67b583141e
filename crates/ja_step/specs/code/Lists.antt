-- Where the names of a `for`-`in` are kept.
use Rattle.std.specs.Prelude.{ℕ, suc, ◌==◌, if◌then◌else◌, List, [], ◌∷◌}
use Rattle.ja_base.specs.declared.ids.Reg.{Reg}
use Rattle.ja_step.specs.declared.frame.Listed.{Listed}

-- the place of a list among those that were fixed, or their number
abbrev pub place_of_list : List Listed → Reg → ℕ
place_of_list [] list = 0
place_of_list (l ∷ ls) list = if l.list.0 == list.0 then 0 else suc (place_of_list ls list)
