use Rattle.std.proofs.Common.{arith, [], ◌∷◌, ℕ, sym, subst}
use Rattle.std.specs.Result.{IfOk}
use Rattle.ja_abstract.specs.Operations.{Looked, operation}
use Rattle.ja_astate.specs.Looks.{view_of}
use Rattle.ja_value.specs.Value.{value_of}
use Rattle.ja_functions.specs.code.Told.{IsTold}
use Rattle.ja_functions.proofs.Operations.{none_of_one}
use Rattle.ja_functions.proofs.intrinsics.of_one.Goals as goal

pub returns-in-2 : goal.returns-in-2
returns-in-2 c =
    let w = view_of c.args.reader.now in
    subst (λ (n : ℕ). IfOk c.internal_value.result
    (IsTold (operation n w (value_of c.args.value.now ∷ [])))) (sym c.in-2.is)
    c.internal_value.ensures

pub returns-in_default : goal.returns-in_default
returns-in_default c =
    let w = view_of c.args.reader.now in
    let n = c.args.which in
    subst (λ (l : Looked). IsTold l c.nothing.result)
    (sym (none_of_one n w (value_of c.args.value.now) c.requires (omega arith)
    (omega arith) (omega arith) (omega arith))) c.nothing.ensures
