use Rattle.std.proofs.Common.{◌∙◌, List, ap, map, string_bytes}
use Rattle.serde_json.specs.Data.{Data, array}
use Rattle.serde_json.specs.View.{items_of, view}
use Rattle.ja_show.proofs.Kept.{kept_all, kept_more}
use Rattle.ja_show.specs.code.Kept.{lines_in}
use Rattle.ja_sarif.specs.Sarif.{result_data}
use Rattle.ja_sarif.proofs.results.results.Goals as goal

pub loop-message-init : goal.loop-message-init
loop-message-init c = ap (map view) c.new-results.ensures.items

pub loop-message-preserved : goal.loop-message-preserved
loop-message-preserved c =
    kept_more view (result_data (map string_bytes c.args.uris.now) (map lines_in c.args.sources.now))
    c.loop-message.results.items _ c.args.messages.now c.loop-message.message-index
    c.message-item.result c.in_ok-result.result c.loop-message.invariant
    c.loop-message-test.true c.in_ok-push.ensures.ok
    (c.in_ok-result.ensures ∙ ap (result_data (map string_bytes c.args.uris.now)
    (map lines_in c.args.sources.now)) c.message-item.is)

pub returns : goal.returns
returns c =
    c.from.ensures ∙ ap (λ (ds : List Data). array (items_of ds))
    (kept_all view (result_data (map string_bytes c.args.uris.now) (map lines_in c.args.sources.now))
    c.loop-message.results.items c.args.messages.now c.loop-message.message-index c.loop-message.invariant
    c.loop-message-test.false)
