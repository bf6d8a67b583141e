use Rattle.std.proofs.Common.{◌*◌, ℕ, ap, sym, ◌∙◌}
use Rattle.ja_aheap.specs.declared.object.AObject.{AObject}
use Rattle.ja_aheap.specs.Objects.{object_of}
use Rattle.ja_abstract.specs.AbstractState.{key_number}
use Rattle.ja_aheap.proofs.ComposedLemmas.{sources_composed, read_kept}
use Rattle.ja_aheap.proofs.UpdateLemmas.{label_within}
use Rattle.ja_aheap.proofs.heap.AHeap.composed_object.Goals as goal

pub returns-then-is_kept : goal.returns-then-is_kept
returns-then-is_kept c = λ k key.
    let s = c.sources-sources.ensures in
    let sites = c.args.self.now.sites in
    let within = label_within c.args.label sites _ c.requires.label in
    read_kept c.args.self.now.names c.sources-sources.result c.args.self.now.objects c.args.label k
    key (within c.args.self.now.placed) s.first (c.is_kept.ensures c.if-is_kept.true)
    ∙ sources_composed c.sources-sources.result c.args.self.now.objects c.args.later.now.objects _
    c.args.label k
    (label_within c.args.label sites _ c.requires.label
    (c.args.later.now.placed ∙ ap (λ (n : ℕ). 2 * n) (sym c.requires.alike.sites)))
    s.later s.masks (s.origins (λ (o : AObject). object_of o k))

pub returns : goal.returns
returns c = λ k key.
    let s = c.sources-sources.ensures in
    c.in_ok-object.ensures (key_number k)
    ∙ sources_composed c.sources-sources.result c.args.self.now.objects c.args.later.now.objects _
    c.args.label k
    (label_within c.args.label c.args.self.now.sites _ c.requires.label
    (c.args.later.now.placed ∙ ap (λ (n : ℕ). 2 * n) (sym c.requires.alike.sites)))
    s.later s.masks (s.origins (λ (o : AObject). object_of o k))
