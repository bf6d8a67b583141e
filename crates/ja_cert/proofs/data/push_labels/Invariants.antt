use Rattle.std.proofs.Common.{◌≡◌, ◌++◌, map, take}
use Rattle.serde_json.specs.View.{view}
use Rattle.ja_cert.specs.Certificate.{label_data}
use Rattle.ja_cert.proofs.data.push_labels.Given as goal

-- the labels so far
abbrev pub invariant-loop-number : goal.invariant-loop-number
invariant-loop-number l =
    map view l.parts.items ≡ map view l.initial.parts.items
    ++ map label_data (take l.number-index l.number-items)
