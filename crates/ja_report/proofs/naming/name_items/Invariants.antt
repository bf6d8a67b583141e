use Rattle.std.proofs.Common.{◌≡◌, ◌++◌, take}
use Rattle.std.specs.List.{flat_map}
use Rattle.ja_report.specs.Report.{item_sites}
use Rattle.ja_report.proofs.naming.name_items.Given as goal

abbrev pub invariant-loop-item : goal.invariant-loop-item
invariant-loop-item l =
    l.named.items ≡ l.initial.named.items ++ flat_map item_sites (take l.item-index l.items)
