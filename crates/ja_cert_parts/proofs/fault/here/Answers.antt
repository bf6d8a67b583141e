use Rattle.std.proofs.Common.{ap, sym, List, Some}
use Rattle.ja_cert_parts.specs.code.Reading.{path_of, Tells}
use Rattle.ja_cert_parts.specs.declared.fault.Step.{Step}
use Rattle.ja_cert_parts.proofs.fault.here.Goals as goal

pub returns : goal.returns
unfolding Tells
returns c = ap (λ (steps : List Step). Some (path_of steps)) (sym c.new.ensures.items)
