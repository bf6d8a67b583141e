-- The order of places, and of spots.
use Rattle.std.specs.Prelude.{◌≡◌, ◌⊎◌, ◌<◌, ◌≤◌}
use Rattle.ja_base.specs.declared.ids.Place.{Place}
use Rattle.ja_files.specs.declared.file.Spot.{Spot}

-- a place isn't behind another one
abbrev pub IsUpTo : Place → Place → Type 0
IsUpTo a b = (a.line < b.line) ⊎ ((a.line ≡ b.line) × (a.column ≤ b.column))

-- nor is a spot: it is in a file before, or in the same one at a place that isn't behind
abbrev pub IsSpotUpTo : Spot → Spot → Type 0
IsSpotUpTo a b = (a.file < b.file) ⊎ ((a.file ≡ b.file) × IsUpTo a.place b.place)

-- strictly so
abbrev pub IsBelow : Place → Place → Type 0
IsBelow a b = (a.line < b.line) ⊎ ((a.line ≡ b.line) × (a.column < b.column))

abbrev pub IsSpotBelow : Spot → Spot → Type 0
IsSpotBelow a b = (a.file < b.file) ⊎ ((a.file ≡ b.file) × IsBelow a.place b.place)
