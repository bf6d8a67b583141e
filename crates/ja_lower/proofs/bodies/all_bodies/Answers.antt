use Rattle.std.proofs.Common.{arith}
use Rattle.std.proofs.lemmas.Grind.{common_steps}
use Rattle.ja_lower.proofs.Listed.{bodies_listed, bodies_sized}
use Rattle.ja_lower.proofs.bodies.all_bodies.Goals as goal

pub returns-in_err-program-clause-fault : goal.returns-in_err-program-clause-fault
returns-in_err-program-clause-fault c =
    let size = bodies_sized c.args.functions.now (λ r. r.now) c.args.scene.now c.args.statements.now
    c.requires.functions in
    grind (arith, common_steps)

pub returns-in_err-add_functions-clause-fault : goal.returns-in_err-add_functions-clause-fault
returns-in_err-add_functions-clause-fault c =
    let size = bodies_sized c.args.functions.now (λ r. r.now) c.args.scene.now c.args.statements.now
    c.requires.functions in
    grind (arith, common_steps)

pub returns-clause-bodies : goal.returns-clause-bodies
returns-clause-bodies c =
    let all = bodies_listed c.args.functions.now (λ r. r.now) c.args.scene.now c.args.statements.now
    c.requires.functions in
    grind (arith, common_steps)

pub returns-clause-within : goal.returns-clause-within
returns-clause-within c =
    let size = bodies_sized c.args.functions.now (λ r. r.now) c.args.scene.now c.args.statements.now
    c.requires.functions in
    grind (arith, common_steps)
