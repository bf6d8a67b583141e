use Rattle.std.proofs.Common.{List, map, ap, ◌∙◌, ◌≡◌}
use Rattle.std.proofs.lemmas.Result.{IfOk-weaker}
use Rattle.ja_prelude.specs.Table.{TableRow, object_of, opening_objects}
use Rattle.ja_prelude.proofs.TableRows.{made_of, objects_of_rows}
use Rattle.ja_prelude.proofs.objects.all_objects.Goals as goal

pub returns : goal.returns
unfolding opening_objects
returns c =
    IfOk-weaker c.objects_of.result (λ objects. objects ≡ map made_of c.args.table.now)
    (λ objects. objects ≡ opening_objects)
    (λ objects made. made ∙ (objects_of_rows c.args.table.now
    ∙ ap (λ (rows : List TableRow). map object_of rows) c.requires)) c.objects_of.ensures
