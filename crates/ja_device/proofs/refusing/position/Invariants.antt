-- no device so far has the name
use Rattle.std.proofs.Common.{◌≡◌, ℕ, ◌<◌, Some}
use Rattle.std.specs.Prelude.{map, slice_get}
use Rattle.ja_device.proofs.refusing.position.Given as goal

abbrev pub invariant-loop-index : goal.invariant-loop-index
invariant-loop-index g l =
    (k : ℕ) → k < l.index → slice_get (map (λ d. (g.D.Device.seen d).name) l.list) k ≡ Some l.name
    → ⊥
