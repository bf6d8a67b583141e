use Rattle.std.proofs.Common.{◌≡◌, map, take}
use Rattle.ja_lower.proofs.bodies.places_of.Given as goal

abbrev pub invariant-loop-function : goal.invariant-loop-function
invariant-loop-function l =
    l.places.items ≡ map (λ f. f.place) (map (λ f. f.now) (take l.function-index l.functions))
