use Rattle.std.proofs.lemmas.Result.{err_from_is_err_and}
use Rattle.ja_cert_json.specs.View.{view}
use Rattle.ja_cert_parts.proofs.ListLemmas.{told_list}
use Rattle.ja_cert_parts.proofs.objects.list_of_two.Goals as goal

pub returns-in_err-values : goal.returns-in_err-values
returns-in_err-values c =
    let p = err_from_is_err_and c.from_residual.result c.from_residual.ensures.1 in
    rw (p.1, p.2) (told_list 2 (view c.args.value.now) _ c.in_err-values.ensures)
