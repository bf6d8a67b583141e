use Rattle.std.proofs.Common.{subst}
use Rattle.ja_cert_parts.specs.code.Reading.{path_of, Tells}
use Rattle.ja_cert_read.proofs.places.told.Goals as goal

pub returns-in-Ok : goal.returns-in-Ok
unfolding Tells
returns-in-Ok c wrong tells =
    let steps = c.in-Shape.steps.items in
    (path_of steps, subst (Tells wrong) c.in-Shape.is tells, c.in-Ok.ensures)
