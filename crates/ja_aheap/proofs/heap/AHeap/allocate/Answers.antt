use Rattle.std.proofs.Common.{ℕ, ◌+◌, ap, ◌∙◌, subst, refl, if◌then◌else◌, ◌==◌}
use Rattle.ja_abstract.specs.AbstractState.{exactly_some}
use Rattle.ja_value.specs.Labels.{aged_labels, mask_in}
use Rattle.ja_value.specs.Value.{labels_in}
use Rattle.ja_trie.specs.Nodes.{ArePaths}
use Rattle.ja_aheap.specs.Heap.{heap_of, property_at}
use Rattle.ja_aheap.proofs.HeapLemmas.{heap_same, beyond_by_label, made_by_label, more_paths}
use Rattle.ja_aheap.proofs.MaskLemmas.{made_beyond}
use Rattle.ja_aheap.proofs.MentionedLemmas.{mentioned_made}
use Rattle.ja_aheap.proofs.heap.AHeap.allocate.Goals as goal

pub returns-in_err-move_object-clause-nodes : goal.returns-in_err-move_object-clause-nodes
returns-in_err-move_object-clause-nodes g c =
    subst (λ (n : ℕ). ArePaths n (n + 2) c.args.steps.now c.move_object.new.steps)
    c.args.self.now.placed
    (more_paths _ _ 2 _ c.aged.new.steps _ c.in_ok-objects.ensures.nodes
    (subst (λ (n : ℕ). ArePaths n 2 c.aged.new.steps c.move_object.new.steps)
    c.in_ok-objects.ensures.long c.in_err-move_object.ensures.nodes))

pub returns-in_err-self-clause-nodes : goal.returns-in_err-self-clause-nodes
returns-in_err-self-clause-nodes g c =
    subst (λ (n : ℕ). ArePaths n (n + 2) c.args.steps.now c.move_object.new.steps)
    c.args.self.now.placed
    (more_paths _ _ 2 _ c.aged.new.steps _ c.in_ok-objects.ensures.nodes
    (subst (λ (n : ℕ). ArePaths n 2 c.aged.new.steps c.move_object.new.steps)
    c.in_ok-objects.ensures.long c.in_ok-move_object.ensures.nodes))

pub returns-clause-made : goal.returns-clause-made
returns-clause-made g c =
    let h = c.args.self.now in
    let aged = c.in_ok-objects.objects in
    heap_same _ _ refl refl
    (λ l k. c.in_ok-move_object.ensures.moved l k
    ∙ made_by_label (heap_of h) c.args.site (property_at aged h.names)
    c.in_ok-objects.ensures.aged
    (beyond_by_label h.names h.objects) l k)
    (λ s. c.in_ok-self.ensures s
    ∙ ap (λ masks. if c.args.site.0 == s then exactly_some else mask_in masks s) c.deref.ensures)

pub returns-clause-nodes : goal.returns-clause-nodes
returns-clause-nodes g c =
    subst (λ (n : ℕ). ArePaths n (n + 2) c.args.steps.now c.move_object.new.steps)
    c.args.self.now.placed
    (more_paths _ _ 2 _ c.aged.new.steps _ c.in_ok-objects.ensures.nodes
    (subst (λ (n : ℕ). ArePaths n 2 c.aged.new.steps c.move_object.new.steps)
    c.in_ok-objects.ensures.long c.in_ok-move_object.ensures.nodes))

pub invariant_of-self-clause-mentions : goal.invariant_of-self-clause-mentions
invariant_of-self-clause-mentions g c =
    let h = c.args.self.now in
    mentioned_made h.names c.args.site h.objects c.in_ok-objects.objects c.move_object.new.objects
    (labels_in h.mentioned) (labels_in c.in_ok-mentioned.mentioned) c.in_ok-objects.ensures.aged
    c.in_ok-move_object.ensures.moved c.in_ok-mentioned.ensures h.mentions

pub invariant_of-self-clause-counted : goal.invariant_of-self-clause-counted
invariant_of-self-clause-counted g c = λ s beyond.
    let h = c.args.self.now in
    c.in_ok-self.ensures s
    ∙ ap (λ masks. if c.args.site.0 == s then exactly_some else mask_in masks s) c.deref.ensures
    ∙ made_beyond h.sites c.args.site.0 s (mask_in h.masks.value) c.requires beyond
    (h.counted s beyond)
