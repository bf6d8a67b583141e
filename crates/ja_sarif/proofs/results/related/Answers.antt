use Rattle.std.proofs.Common.{◌∙◌, List, ap, map, string_bytes}
use Rattle.serde_json.specs.Data.{Data, array}
use Rattle.serde_json.specs.View.{items_of, view}
use Rattle.ja_show.proofs.Kept.{kept_all, kept_more}
use Rattle.ja_show.specs.code.Kept.{lines_in}
use Rattle.ja_sarif.specs.Sarif.{call_data}
use Rattle.ja_sarif.proofs.results.related.Goals as goal

pub loop-spot-init : goal.loop-spot-init
loop-spot-init c = ap (map view) c.new-calls.ensures.items

pub loop-spot-preserved : goal.loop-spot-preserved
loop-spot-preserved c =
    kept_more view (call_data (map string_bytes c.args.uris.now) (map lines_in c.args.sources.now))
    c.loop-spot.calls.items _ c.args.spots.now c.loop-spot.spot-index _ _
    c.loop-spot.invariant c.loop-spot-test.true c.in_ok-push.ensures.ok c.in_ok-call.ensures

pub returns : goal.returns
returns c =
    c.from.ensures ∙ ap (λ (ds : List Data). array (items_of ds))
    (kept_all view (call_data (map string_bytes c.args.uris.now) (map lines_in c.args.sources.now))
    c.loop-spot.calls.items c.args.spots.now c.loop-spot.spot-index c.loop-spot.invariant
    c.loop-spot-test.false)
