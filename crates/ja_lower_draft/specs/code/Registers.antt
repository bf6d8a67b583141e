-- Registers that are moved up, as numbers that a register can have.
use Rattle.std.specs.Prelude.{ℕ, ◌+◌, ◌^◌, ◌&&◌, nat_le, if◌then◌else◌, nat_lt}
use Rattle.ja_base.specs.declared.ids.Reg.{Reg}
use Rattle.ja_graph.specs.Renaming.{Renaming}

-- registers from the first on are moved up, unless the number would be none of a register
abbrev pub moved_within : ℕ → ℕ → Reg → Reg
moved_within first by r =
    if nat_le first r.0 && nat_lt (r.0 + by) (2 ^ 32) then record { 0 = r.0 + by } else r

abbrev pub moving_within : ℕ → ℕ → Renaming
moving_within first by =
    record { register = moved_within first by; name = λ n. n; function = λ f. f; site = λ s. s }
