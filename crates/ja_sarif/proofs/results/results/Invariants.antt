use Rattle.std.proofs.Common.{◌≡◌, map, take, string_bytes}
use Rattle.serde_json.specs.View.{view}
use Rattle.ja_show.specs.code.Kept.{lines_in}
use Rattle.ja_sarif.specs.Sarif.{result_data}
use Rattle.ja_sarif.proofs.results.results.Given as goal

-- those so far
abbrev pub invariant-loop-message : goal.invariant-loop-message
invariant-loop-message l =
    map view l.results.items
    ≡ map (result_data (map string_bytes l.uris) (map lines_in l.sources)) (take l.message-index l.messages)
