use Rattle.std.proofs.Common.{length, map, sym}
use Rattle.std.proofs.lemmas.List.{length-map}
use Rattle.ja_cert_json.specs.View.{view}
use Rattle.ja_cert_parts.proofs.ListLemmas.{list_is}
use Rattle.ja_cert_parts.proofs.ListedLemmas.{not_one}
use Rattle.ja_cert_parts.proofs.listed.value_is.Goals as goal

pub returns-else-parts-eq1 : goal.returns-else-parts-eq1
returns-else-parts-eq1 c =
    let d = view c.args.value.now in
    let parts = c.in-Some.parts.now in
    not_one c.args.word.now d (map view parts) (length parts)
    (list_is d (map view parts) c.in-Some.ensures).0
    (sym (length-map parts view)) c.if-parts-eq1.false
