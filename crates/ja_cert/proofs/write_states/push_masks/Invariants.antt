use Rattle.std.proofs.Common.{◌≡◌, ◌++◌, take}
use Rattle.std.specs.List.{flat_map}
use Rattle.ja_base.specs.declared.ids.Site.{Site}
use Rattle.ja_aheap.specs.Heap.{heap_of}
use Rattle.ja_report.specs.Lines.{mask_line}
use Rattle.ja_cert.specs.code.Writing.{lines_text}
use Rattle.ja_cert.proofs.write_states.push_masks.Given as goal

abbrev pub invariant-loop-site : goal.invariant-loop-site
invariant-loop-site l =
    l.text.items ≡ l.initial.text.items ++ flat_map (λ (s : Site). lines_text l.program
    (mask_line s ((heap_of l.state.heap).mask s.0))) (take l.site-index l.site-items)
