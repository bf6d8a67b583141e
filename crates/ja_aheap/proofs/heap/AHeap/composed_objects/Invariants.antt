use Rattle.std.proofs.Common.{◌*◌, ◌-◌, ◌≤◌}
use Rattle.ja_trie.specs.Nodes.{ArePaths}
use Rattle.ja_value.specs.Labels.{mask_in}
use Rattle.ja_aheap.specs.code.Composed.{Composing}
use Rattle.ja_aheap.proofs.heap.AHeap.composed_objects.Given as goal

abbrev pub invariant-loop-site : goal.invariant-loop-site
invariant-loop-site g l = record {
  within : l.site ≤ l.self.sites;
  composing : Composing l.self.names l.self.objects l.later.objects (mask_in l.later.masks.value)
      l.objects (2 * l.site);
  paths : ArePaths (2 * l.self.sites) (2 * l.site) l.initial.steps l.steps;
}

abbrev pub decreases-loop-site : goal.decreases-loop-site
decreases-loop-site g l = l.self.sites - l.site
