use Rattle.std.proofs.Common.{arith}
use Rattle.std.proofs.lemmas.Grind.{common_steps}
use Rattle.ja_lower.proofs.Listed.{functions_listed, functions_sized}
use Rattle.ja_lower.proofs.bodies.all_prelude.Goals as goal

pub returns-in_err-add_functions-clause-fault : goal.returns-in_err-add_functions-clause-fault
returns-in_err-add_functions-clause-fault c =
    let size = functions_sized c.args.functions.now (λ r. r.now) c.args.scene.now
    c.args.statements.now c.requires.functions in
    grind (arith, common_steps)

pub returns-clause-bodies : goal.returns-clause-bodies
returns-clause-bodies c =
    let all = functions_listed c.args.functions.now (λ r. r.now) c.args.scene.now
    c.args.statements.now c.requires.functions in
    grind (arith, common_steps)

pub returns-clause-within : goal.returns-clause-within
returns-clause-within c =
    let size = functions_sized c.args.functions.now (λ r. r.now) c.args.scene.now
    c.args.statements.now c.requires.functions in
    grind (arith, common_steps)
