use Rattle.std.proofs.Common.{refl}
use Rattle.serde_json.proofs.Views.{view-Object}
use Rattle.ja_sarif.specs.Sarif.{rule_data}
use Rattle.ja_sarif.proofs.rules.rule_value.Goals as goal

pub returns : goal.returns
unfolding rule_data
returns c =
    rw (
      view-Object c.put-4.new.map,
      c.in_ok-put-4.ensures.ok,
      c.in_ok-put-3.ensures.ok,
      c.in_ok-put-2.ensures.ok,
      c.in_ok-put.ensures.ok,
      c.empty-value.ensures,
      c.in_ok-usual.ensures,
      c.in_ok-help.ensures,
      c.in_ok-id.ensures,
      c.in_ok-title.ensures,
      c.help_of.ensures,
      c.title_of.ensures,
      c.id_of.ensures,
    )
    refl
