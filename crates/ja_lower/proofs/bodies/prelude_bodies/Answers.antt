use Rattle.std.proofs.Common.{true, map, None, IfErr, ap, subst, ◌∙◌}
use Rattle.ja_lower_draft.specs.Lines.{Scene}
use Rattle.ja_lower_names.specs.TextOrder.{functions_in}
use Rattle.ja_syntax.specs.declared.tree.FunctionOf.{FunctionOf}
use Rattle.ja_syntax.specs.declared.tree.Statement.{Statement}
use Rattle.ja_base.specs.declared.ids.Place.{Place}
use Rattle.std.proofs.Common.{List}
use Rattle.ja_lower.specs.Limits.{size_of_bodies, max_size}
use Rattle.ja_lower.specs.Lowering.{function_body, prelude_bodies}
use Rattle.ja_lower.specs.code.Room.{Exceeds}
use Rattle.ja_lower.proofs.bodies.prelude_bodies.Goals as goal

pub returns-clause-fault : goal.returns-clause-fault
unfolding prelude_bodies
returns-clause-fault c =
    let places = c.deref.ensures.value ∙ c.in_ok-places.ensures
    ∙ ap (map (λ (f : FunctionOf Statement). f.place)) c.requires.functions in
    let scene : List Place → Scene = λ ps. record {
      names = c.args.names.now;
      functions = ps;
      handler = None;
      specials = true;
    } in
    subst (λ ps. IfErr c.all_prelude.result
    (Exceeds max_size (size_of_bodies (map (function_body (scene ps))
    (functions_in c.args.statements.now))))) places c.all_prelude.ensures.fault
