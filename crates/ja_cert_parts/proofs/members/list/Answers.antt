use Rattle.std.proofs.Common.{ap, map}
use Rattle.std.specs.Option.{is_some}
use Rattle.ja_cert_json.specs.View.{view}
use Rattle.ja_cert.specs.Wrong.{here_unless}
use Rattle.ja_cert_parts.proofs.ListLemmas.{list_is}
use Rattle.ja_cert_parts.proofs.members.list.Goals as goal

pub returns-in-Some : goal.returns-in-Some
returns-in-Some c =
    let is = list_is (view c.args.value.now) (map view c.in-Some.values.now) c.in-Some.ensures in
    (ap (λ o. here_unless (is_some o)) is.0, is)
