use Rattle.std.proofs.Common.{refl}
use Rattle.serde_json.proofs.Views.{view-Object}
use Rattle.ja_sarif.specs.Sarif.{result_data}
use Rattle.ja_sarif.proofs.results.result_of.Goals as goal

pub returns : goal.returns
unfolding result_data
returns c =
    rw (
      view-Object c.put-6.new.map,
      c.in_ok-put-6.ensures.ok,
      c.in_ok-put-5.ensures.ok,
      c.in_ok-put-4.ensures.ok,
      c.in_ok-put-3.ensures.ok,
      c.in_ok-put-2.ensures.ok,
      c.in_ok-put.ensures.ok,
      c.empty-result.ensures,
      c.in_ok-level.ensures,
      c.in_ok-locations.ensures,
      c.in_ok-words.ensures,
      c.in_ok-related.ensures,
      c.in_ok-id.ensures,
      c.from-index.ensures,
      c.level_name.ensures,
      c.standing.ensures,
      c.as_slice.ensures,
      c.others.ensures,
      c.id_of.ensures,
      c.index_of.ensures,
    )
    refl
