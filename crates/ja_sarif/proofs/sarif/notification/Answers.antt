use Rattle.std.proofs.Common.{refl}
use Rattle.serde_json.proofs.Views.{view-Object}
use Rattle.ja_sarif.specs.Sarif.{notification_data}
use Rattle.ja_sarif.proofs.sarif.notification.Goals as goal

pub returns : goal.returns
unfolding notification_data
returns c =
    rw (
      view-Object c.put-2.new.map,
      c.in_ok-put-2.ensures.ok,
      c.in_ok-put.ensures.ok,
      c.empty-notification.ensures,
      c.in_ok-level.ensures,
      c.in_ok-words.ensures,
      c.level_name.ensures,
      c.ending_level.ensures,
    )
    refl
