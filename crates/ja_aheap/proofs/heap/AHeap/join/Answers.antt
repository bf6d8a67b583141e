use Rattle.std.proofs.Common.{ℕ, List, arith, refl, ap, sym, ◌∙◌, subst}
use Rattle.std.specs.Option.{option_map_or}
use Rattle.ja_abstract.specs.AbstractState.{join_masks}
use Rattle.ja_value.specs.Labels.{mask_in}
use Rattle.ja_value.specs.Value.{labels_in}
use Rattle.ja_trie.specs.Nodes.{ArePaths}
use Rattle.ja_aheap.specs.Heap.{HeapMap, heap_of, property_at}
use Rattle.ja_aheap.proofs.HeapLemmas.{heap_same, joined_by_label, differs_at_label}
use Rattle.ja_aheap.specs.declared.object.AObject.{AObject}
use Rattle.ja_aheap.specs.code.Mentioned.{AreMentioned}
use Rattle.ja_aheap.proofs.MentionedLemmas.{joined_kept, mentioned_joined, mentioned_more}
use Rattle.ja_aheap.proofs.heap.AHeap.join.Goals as goal

pub returns-in_err-put-clause-nodes : goal.returns-in_err-put-clause-nodes
returns-in_err-put-clause-nodes g c =
    subst (λ (n : ℕ). ArePaths n n c.args.steps.now c.join_objects.new.steps)
    c.args.self.now.placed c.in_err-put.ensures.nodes

pub returns-in-Some-clause-joined : goal.returns-in-Some-clause-joined
returns-in-Some-clause-joined g c =
    let a = c.args.self.now in
    let b = c.args.other.now in
    heap_same _ _ refl refl
    (joined_by_label a.names b.names a.objects b.objects c.join_objects.new.objects
    c.requires.names c.in_ok-put.ensures.joined)
    (λ s. ap (λ o. mask_in (option_map_or (λ m. m.value) o c.deref.result.now) s) (sym c.in-Some.is)
    ∙ c.in_ok-masks.ensures.joined s
    ∙ (λ i. join_masks (mask_in (c.deref.ensures i) s) (mask_in (c.deref-2.ensures i) s)))

pub returns-in-Some-clause-nodes : goal.returns-in-Some-clause-nodes
returns-in-Some-clause-nodes g c =
    subst (λ (n : ℕ). ArePaths n n c.args.steps.now c.join_objects.new.steps)
    c.args.self.now.placed c.in_ok-put.ensures.nodes

pub returns-in-None-clause-joined : goal.returns-in-None-clause-joined
returns-in-None-clause-joined g c =
    let a = c.args.self.now in
    let b = c.args.other.now in
    heap_same _ _ refl refl
    (joined_by_label a.names b.names a.objects b.objects c.join_objects.new.objects
    c.requires.names c.in_ok-put.ensures.joined)
    (λ s. ap (λ m. mask_in m s) (sym c.deref.ensures)
    ∙ ap (λ o. mask_in (option_map_or (λ m. m.value) o c.deref.result.now) s) (sym c.in-None.is)
    ∙ c.in_ok-masks.ensures.joined s
    ∙ (λ i. join_masks (mask_in (c.deref.ensures i) s) (mask_in (c.deref-2.ensures i) s)))

pub returns-in-None-clause-changed : goal.returns-in-None-clause-changed
returns-in-None-clause-changed g c = λ said same.
    let a = c.args.self.now in
    let there = c.in_ok-put.ensures.changed said in
    differs_at_label a.names a.objects c.join_objects.new.objects there.0 there.1
    (ap (λ (m : HeapMap). m.property) same)

pub returns-in-None-clause-same : goal.returns-in-None-clause-same
returns-in-None-clause-same g c = λ said.
    ap (λ objects. record (heap_of c.args.self.now) {
      property = property_at objects c.args.self.now.names;
    }) (c.in_ok-put.ensures.same said)

pub returns-in-None-clause-nodes : goal.returns-in-None-clause-nodes
returns-in-None-clause-nodes g c =
    subst (λ (n : ℕ). ArePaths n n c.args.steps.now c.join_objects.new.steps)
    c.args.self.now.placed c.in_ok-put.ensures.nodes

pub invariant_of-self : goal.invariant_of-self
invariant_of-self g c =
    let h = c.args.self.now in
    record {
      placed = h.placed;
      few = h.few;
      counted = h.counted;
      mentions =
          mentioned_more h.names h.objects (labels_in h.mentioned) (labels_in c.join.new.self)
          (joined_kept c.join.result (labels_in h.mentioned) (labels_in c.args.other.now.mentioned)
          (labels_in c.join.new.self) c.join.ensures.joined c.join.ensures.kept) h.mentions;
    }

pub invariant_of-self-in-Break-branch-2 : goal.invariant_of-self-in-Break-branch-2
invariant_of-self-in-Break-branch-2 g c =
    let h = c.args.self.now in
    record {
      placed = h.placed;
      few = h.few;
      counted = h.counted;
      mentions =
          mentioned_more h.names h.objects (labels_in h.mentioned) (labels_in c.join.new.self)
          (joined_kept c.join.result (labels_in h.mentioned) (labels_in c.args.other.now.mentioned)
          (labels_in c.join.new.self) c.join.ensures.joined c.join.ensures.kept) h.mentions;
    }

pub invariant_of-self-in-Break-branch-3 : goal.invariant_of-self-in-Break-branch-3
invariant_of-self-in-Break-branch-3 g c =
    let h = c.args.self.now in
    record {
      placed = c.in_err-put.ensures.long ∙ h.placed;
      few = h.few;
      counted = h.counted;
      mentions =
          subst (λ (os : List AObject). AreMentioned h.names os (labels_in c.join.new.self))
          (sym c.in_err-put.ensures.kept)
          (mentioned_more h.names h.objects (labels_in h.mentioned) (labels_in c.join.new.self)
          (joined_kept c.join.result (labels_in h.mentioned) (labels_in c.args.other.now.mentioned)
          (labels_in c.join.new.self) c.join.ensures.joined c.join.ensures.kept) h.mentions);
    }

pub invariant_of-self-in-Some-clause-mentions : goal.invariant_of-self-in-Some-clause-mentions
invariant_of-self-in-Some-clause-mentions g c =
    let h = c.args.self.now in
    let its = c.args.other.now in
    mentioned_joined h.names its.names h.objects its.objects c.join_objects.new.objects
    (labels_in h.mentioned) (labels_in its.mentioned) (labels_in c.join.new.self)
    c.requires.names c.in_ok-put.ensures.joined c.in_ok-join.ensures.joined h.mentions its.mentions

pub invariant_of-self-in-None-clause-mentions : goal.invariant_of-self-in-None-clause-mentions
invariant_of-self-in-None-clause-mentions g c =
    let h = c.args.self.now in
    let its = c.args.other.now in
    mentioned_joined h.names its.names h.objects its.objects c.join_objects.new.objects
    (labels_in h.mentioned) (labels_in its.mentioned) (labels_in c.join.new.self)
    c.requires.names c.in_ok-put.ensures.joined c.in_ok-join.ensures.joined h.mentions its.mentions

pub invariant_of-self-in-Some-clause-counted : goal.invariant_of-self-in-Some-clause-counted
invariant_of-self-in-Some-clause-counted g c = λ s beyond.
    let h = c.args.self.now in
    let its = c.args.other.now in
    ap (λ o. mask_in (option_map_or (λ m. m.value) o c.deref.result.now) s) (sym c.in-Some.is)
    ∙ c.in_ok-masks.ensures.joined s
    ∙ (λ i. join_masks (mask_in (c.deref.ensures i) s) (mask_in (c.deref-2.ensures i) s))
    ∙ (λ i. join_masks (h.counted s beyond i)
    (its.counted s (omega (arith, c.requires.sites, beyond)) i))
