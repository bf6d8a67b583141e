use Rattle.std.proofs.Common.{◌≡◌, map, take}
use Rattle.ja_cert_json.specs.View.{view}
use Rattle.ja_cert_json.proofs.value.copies.Given as goal

abbrev pub invariant-loop-json : goal.invariant-loop-json
invariant-loop-json l = map view l.copies.items ≡ map view (take l.json-index l.values)
