use Rattle.std.proofs.Common.{refl}
use Rattle.serde_json.proofs.Views.{view-Object}
use Rattle.ja_sarif.specs.Sarif.{invocation_data}
use Rattle.ja_sarif.proofs.sarif.invocation.Goals as goal

pub returns : goal.returns
unfolding invocation_data
returns c =
    rw (
      view-Object c.put-2.new.map,
      c.in_ok-put-2.ensures.ok,
      c.in_ok-put.ensures.ok,
      c.empty-invocation.ensures,
      c.from.ensures,
      c.from-2.ensures,
      c.in_ok-push.ensures.ok,
      c.new-notifications.ensures.items,
      c.in_ok-notification.ensures,
    )
    refl
