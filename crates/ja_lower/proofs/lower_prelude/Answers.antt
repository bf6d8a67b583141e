use Rattle.std.proofs.Common.{◌≤◌, length, sym, subst, arith}
use Rattle.ja_lower.proofs.Listed.{at_paths_counted}
use Rattle.ja_lower.proofs.lower_prelude.Goals as goal

pub lowered_bodies-requires : goal.lowered_bodies-requires
lowered_bodies-requires c =
    let functions = c.in_ok-functions.functions.items in
    let few : length c.in_ok-bodies.bodies.items
    ≤ length functions = subst (λ bodies. length bodies ≤ length functions)
    (sym c.in_ok-bodies.ensures.bodies) (at_paths_counted functions (λ f. f.now) _ _
    c.in_ok-functions.ensures _) in
    record { few = omega (arith, few) }
