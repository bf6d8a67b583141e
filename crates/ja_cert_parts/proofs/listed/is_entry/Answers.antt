use Rattle.std.proofs.Common.{map, ◌∙◌, sym}
use Rattle.std.proofs.lemmas.List.{length-map}
use Rattle.ja_cert_json.specs.View.{view}
use Rattle.ja_cert_parts.proofs.ListLemmas.{list_is}
use Rattle.ja_cert_parts.proofs.ListedLemmas.{no_entry}
use Rattle.ja_cert_parts.proofs.listed.is_entry.Goals as goal

pub returns-then-fields-ne4 : goal.returns-then-fields-ne4
returns-then-fields-ne4 c =
    let d = view c.args.value.now in
    let fields = c.in-Some.fields.now in
    no_entry d (map view fields) (list_is d (map view fields) c.in-Some.ensures).0
    (λ four. c.if-fields-ne4.true (sym (length-map fields view) ∙ four))
