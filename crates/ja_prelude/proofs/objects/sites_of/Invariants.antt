use Rattle.std.proofs.Common.{◌≡◌, ◌+◌, ◌++◌, length, map}
use Rattle.std.specs.List.{enumerate_from, flat_map}
use Rattle.ja_prelude.specs.Table.{sites_with}
use Rattle.ja_prelude.specs.code.Table.{seen_row}
use Rattle.ja_prelude.proofs.objects.sites_of.Given as goal

abbrev pub invariant-loop-left : goal.invariant-loop-left
invariant-loop-left l = record {
  rest : l.sites.items ++ flat_map (sites_with l.first (map seen_row l.table))
      (enumerate_from l.site l.left) ≡ flat_map (sites_with l.first (map seen_row l.table))
      (enumerate_from 0 l.initial.left);
  count : l.site + length l.left ≡ length l.initial.left;
}

abbrev pub decreases-loop-left : goal.decreases-loop-left
decreases-loop-left l = length l.left
