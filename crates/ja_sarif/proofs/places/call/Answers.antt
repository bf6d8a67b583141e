use Rattle.std.proofs.Common.{refl}
use Rattle.serde_json.proofs.Views.{view-Object}
use Rattle.ja_sarif.specs.Sarif.{call_data}
use Rattle.ja_sarif.proofs.places.call.Goals as goal

pub returns : goal.returns
unfolding call_data
returns c =
    rw (
      view-Object c.put-2.new.map,
      c.in_ok-put-2.ensures.ok,
      c.in_ok-put.ensures.ok,
      c.empty-call.ensures,
      c.in_ok-words.ensures,
      c.in_ok-physical.ensures,
    )
    refl
