use Rattle.std.proofs.Common.{◌≡◌, map, take, string_bytes}
use Rattle.serde_json.specs.View.{view}
use Rattle.ja_show.specs.code.Kept.{lines_in}
use Rattle.ja_sarif.specs.Sarif.{call_data}
use Rattle.ja_sarif.proofs.results.related.Given as goal

-- those so far
abbrev pub invariant-loop-spot : goal.invariant-loop-spot
invariant-loop-spot l =
    map view l.calls.items
    ≡ map (call_data (map string_bytes l.uris) (map lines_in l.sources)) (take l.spot-index l.spots)
