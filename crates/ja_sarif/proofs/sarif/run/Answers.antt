use Rattle.std.proofs.Common.{refl}
use Rattle.serde_json.proofs.Views.{view-Object}
use Rattle.ja_sarif.specs.Sarif.{run_data}
use Rattle.ja_sarif.proofs.sarif.run.Goals as goal

pub returns : goal.returns
unfolding run_data
returns c =
    rw (
      view-Object c.put-4.new.map,
      c.in_ok-put-4.ensures.ok,
      c.in_ok-put-3.ensures.ok,
      c.in_ok-put-2.ensures.ok,
      c.in_ok-put.ensures.ok,
      c.empty-run.ensures,
      c.in_ok-kind.ensures,
      c.from.ensures,
      c.in_ok-push.ensures.ok,
      c.new-invocations.ensures.items,
      c.in_ok-invocation.ensures,
      c.in_ok-results.ensures,
      c.in_ok-tool.ensures,
    )
    refl
