-- The sites of the labels before this one.
use Rattle.std.proofs.Common.{◌≡◌, take}
use Rattle.ja_value.specs.Value.{labels_in}
use Rattle.ja_lint_text.proofs.SiteLists.{firsts}
use Rattle.ja_lint_text.proofs.sites.sites_in.Given as goal

abbrev pub invariant-loop-label : goal.invariant-loop-label
invariant-loop-label l =
    l.sites.items ≡ firsts (labels_in l.labels) (take l.label-index l.label-items)
