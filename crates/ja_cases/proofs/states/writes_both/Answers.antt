use Rattle.std.proofs.Common.{◌≡◌, nat_lt, sym, ap, ◌∙◌}
use Rattle.ja_aheap.specs.Heap.{heap_of}
use Rattle.ja_cases.proofs.states.writes_both.Goals as goal

pub strongly-requires-clause-label : goal.strongly-requires-clause-label
strongly-requires-clause-label c =
    let here : c.new-2.result.site.0 ≡ 0 = ap (λ s. s.0) c.new-2.ensures in
    let sites : (heap_of c.in_ok-fork.fork.heap).sites ≡ 2 = sym c.in_ok-fork.ensures.shape.sites
    ∙ sym c.in_ok-state.ensures.shape.sites ∙ c.in_ok-entry.ensures.sites in
    λ i. nat_lt (here i) (sites i)

pub strongly-requires-clause-keys : goal.strongly-requires-clause-keys
strongly-requires-clause-keys c =
    c.in_ok-writes.ensures (heap_of c.in_ok-fork.fork.heap)
    (sym c.in_ok-fork.ensures.shape.names ∙ sym c.in_ok-state.ensures.shape.names
    ∙ c.in_ok-entry.ensures.names)

pub weakly-requires-clause-label : goal.weakly-requires-clause-label
weakly-requires-clause-label c =
    let here : c.new-4.result.site.0 ≡ 0 = ap (λ s. s.0) c.new-4.ensures in
    let sites : (heap_of c.in_ok-state.state.heap).sites ≡ 2 =
    sym c.in_ok-state.ensures.shape.sites ∙ c.in_ok-entry.ensures.sites in
    λ i. nat_lt (here i) (sites i)

pub weakly-requires-clause-keys : goal.weakly-requires-clause-keys
weakly-requires-clause-keys c =
    c.in_ok-writes-2.ensures (heap_of c.in_ok-state.state.heap)
    (sym c.in_ok-state.ensures.shape.names ∙ c.in_ok-entry.ensures.names)
