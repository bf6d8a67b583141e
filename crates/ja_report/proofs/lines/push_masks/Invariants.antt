use Rattle.std.proofs.Common.{take}
use Rattle.ja_aheap.specs.Heap.{heap_of}
use Rattle.ja_report.specs.code.Output.{Adds}
use Rattle.ja_report.proofs.ObjectLemmas.{site_lines}
use Rattle.ja_report.proofs.lines.push_masks.Given as goal

abbrev pub invariant-loop-site : goal.invariant-loop-site
invariant-loop-site l =
    Adds l.program (site_lines (heap_of l.state.heap) (take l.site-index l.site-items))
    l.initial.out l.out
