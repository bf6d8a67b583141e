-- The shape of a shared list.
use Rattle.std.specs.Prelude.{◌≡◌, ℕ, ◌*◌, ◌^◌, ◌<◌, ◌≤◌, ◌⊎◌, List, length}

-- the root has eight times `width` places, a power of eight and enough for the list, and no level
-- could be left out
pub record IsShared {T : Type 0} (long width : ℕ) (places : List T) : Type 0 where
  pub enough : long ≤ 8 * width
  pub whole : length places ≡ 8 * width
  pub depth : ℕ
  pub power : width ≡ 8 ^ depth
  pub least : (depth ≡ 0) ⊎ (width < long)
