use Rattle.std.proofs.Common.{arith, sym, subst}
use Rattle.ja_abstract.specs.Operations.{Looked}
use Rattle.ja_astate.specs.Looks.{view_of}
use Rattle.ja_value.specs.Value.{value_of}
use Rattle.ja_functions.specs.code.Told.{IsTold}
use Rattle.ja_functions.proofs.Operations.{none_of_two}
use Rattle.ja_functions.proofs.intrinsics.of_two.Goals as goal

pub returns-in_default : goal.returns-in_default
returns-in_default c =
    let w = view_of c.args.reader.now in
    let n = c.args.which in
    subst (λ (l : Looked). IsTold l c.nothing.result)
    (sym (none_of_two n w (value_of c.args.first.now) (value_of c.args.second.now) c.requires
    (omega arith) (omega arith) (omega arith))) c.nothing.ensures
