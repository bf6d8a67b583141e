use Rattle.std.proofs.Common.{Bor, List, Some, ap, map, ◌∙◌}
use Rattle.ja_cert_json.specs.View.{view}
use Rattle.ja_cert_json.specs.declared.value.Json.{Json}
use Rattle.ja_cert_parts.proofs.ListLemmas.{six_items}
use Rattle.ja_cert_parts.proofs.objects.six_members.Goals as goal

pub returns : goal.returns
returns c =
    let read = c.in_ok-values.ensures in (
      read.read.0,
      read.read.1
          ∙ ap (λ (vs : List (Bor Json)). Some (map (λ (v : Bor Json). view v.now) vs))
          (six_items c.in_ok-values.values.items c.index.result.now c.index-2.result.now
          c.index-3.result.now c.index-4.result.now c.index-5.result.now c.index-6.result.now
          (read.count ∙ c.told-keys) c.index.ensures c.index-2.ensures c.index-3.ensures
          c.index-4.ensures c.index-5.ensures c.index-6.ensures),
    )
