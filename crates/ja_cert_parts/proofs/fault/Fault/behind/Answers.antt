use Rattle.std.proofs.Common.{subst}
use Rattle.ja_cert_parts.specs.code.Reading.{Tells}
use Rattle.ja_cert_parts.specs.declared.fault.Fault.{Fault}
use Rattle.ja_cert_parts.proofs.FaultLemmas.{told_behind}
use Rattle.ja_cert_parts.proofs.fault.Fault.behind.Goals as goal

pub returns-in-Ok : goal.returns-in-Ok
unfolding Tells
returns-in-Ok c =
    λ wrong told. let P : Fault → Type 0 = Tells wrong in
    told_behind wrong c.in-Shape.steps.items c.push.new.self.items c.args.step c.in-Ok.ensures.items
    (subst P c.in-Shape.is told)

pub returns-in-Err : goal.returns-in-Err
unfolding Tells
returns-in-Err c = λ wrong told. tt

pub returns-in-Memory : goal.returns-in-Memory
unfolding Tells
returns-in-Memory c = λ wrong told. tt
