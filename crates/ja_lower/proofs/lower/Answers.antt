use Rattle.std.proofs.Common.{◌≡◌, ◌+◌, ◌∙◌, length, ap, arith}
use Rattle.ja_lower.proofs.Listed.{bodies_counted}
use Rattle.ja_lower.proofs.lower.Goals as goal

pub lowered_bodies-requires : goal.lowered_bodies-requires
lowered_bodies-requires c =
    let functions = c.in_ok-functions.functions.items in
    let count : length c.in_ok-bodies.bodies.items ≡ 1
    + length functions = ap length c.in_ok-bodies.ensures.bodies
    ∙ bodies_counted functions (λ f. f.now) _ _ c.in_ok-functions.ensures in
    record { few = omega arith }
