use Rattle.std.proofs.Common.{◌≡◌, ◌≤◌, ◌+◌, ◌*◌, ℕ, List, sym, subst, ◌∙◌, arith}
use Rattle.ja_trie.specs.Nodes.{ArePaths}
use Rattle.ja_value.specs.Labels.{mask_in}
use Rattle.ja_value.specs.Value.{labels_in}
use Rattle.ja_aheap.specs.declared.object.AObject.{AObject}
use Rattle.ja_aheap.specs.code.Composed.{Composing}
use Rattle.ja_aheap.proofs.ComposingLemmas.{composing_until, paths_more, paths_within}
use Rattle.ja_aheap.proofs.KeptLemmas.{unmoved_apart}
use Rattle.ja_aheap.proofs.heap.AHeap.composed_objects.Goals as goal
use Rattle.ja_aheap.proofs.heap.AHeap.composed_objects.Goals.{then-kept-site+in_ok-put_composed+in_ok-put_composed-2, else-kept-site}

pub kept_to-kept-requires-clause-named : goal.kept_to-kept-requires-clause-named
kept_to-kept-requires-clause-named g c = λ apart.
    let later = c.args.later.now in
    unmoved_apart (mask_in later.masks.value) (labels_in c.args.self.now.mentioned)
    (labels_in c.in_ok-moved.moved) later.sites later.counted c.in_ok-moved.ensures
    (sym c.intersects-named.ensures ∙ apart)

pub loop-site-preserved : goal.loop-site-preserved
loop-site-preserved g c =
    let self = c.args.self.now in
    let later = c.args.later.now in
    let long = 2 * self.sites in
    let site = c.loop-site.site in
    let next = c.max-site.result in
    let start = c.args.steps.now in
    let here = c.loop-site.invariant in
    let Composed = λ (n : ℕ) (objects : List AObject).
    Composing self.names self.objects later.objects (mask_in later.masks.value) objects n in
    let within : next ≤ self.sites = omega (
      arith,
      c.max-site.ensures,
      c.kept_to-kept.ensures.within,
      c.loop-site-test.true,
    ) in
    let until = λ (objects : List AObject) (n : ℕ). composing_until self.names self.objects
    later.objects objects (mask_in later.masks.value) n (2 * next) in
    elim c.if-kept-site.branch [
      | then-kept-site+in_ok-put_composed+in_ok-put_composed-2 w ↦
          let turn : 2 * site + 1 + 1 ≡ 2 * next = omega (
            arith,
            c.max-site.ensures,
            w.if-kept-site.true,
          ) in
          record {
            within = within;
            composing =
                subst (Composed (2 * next)) (sym w.objects-is)
                (until _ (2 * site + 1 + 1) (omega (arith, turn))
                (w.in_ok-put_composed-2.ensures.composing
                (w.in_ok-put_composed.ensures.composing here.composing))
                (λ m from before. absurd (omega (arith, from, before, turn))));
            paths =
                subst (ArePaths long (2 * next) start) (sym w.steps-is)
                (paths_within long (2 * site + 1 + 1) (2 * next) start _ (omega (arith, turn))
                (paths_more long (2 * site + 1) start _ _
                (paths_more long (2 * site) start _ _ here.paths w.put_composed.ensures.nodes)
                w.put_composed-then-kept-site.ensures.nodes));
          }
      | else-kept-site w ↦
          let to : next ≡ c.kept_to-kept.result = omega (
            arith,
            c.max-site.ensures,
            w.if-kept-site.false,
          ) in
          record {
            within = within;
            composing =
                subst (Composed (2 * next)) (sym w.objects-is)
                (until _ (2 * site)
                (omega (arith, c.max-site.ensures)) here.composing
                (λ m from before. c.kept_to-kept.ensures.kept m from
                (omega (arith, before, to))));
            paths =
                subst (ArePaths long (2 * next) start) (sym w.steps-is)
                (paths_within long (2 * site) (2 * next) start _
                (omega (arith, c.max-site.ensures)) here.paths);
          }
    ]
