use Rattle.std.proofs.Common.{◌≡◌, ◌*◌, ◌≤◌, Bool, true, false, if◌then◌else◌, ap, ◌∙◌, subst, arith, ⊎_elim}
use Rattle.std.proofs.Math.Nat.{eq-or-lt_of_le}
use Rattle.ja_abstract.specs.AbstractState.{label_number}
use Rattle.ja_abstract.specs.Made.{Own}
use Rattle.ja_trie.specs.Run.{IsRun}
use Rattle.ja_aheap.specs.code.Own.{own_in_place}
use Rattle.ja_aheap.proofs.HeapLemmas.{shown_in_run}
use Rattle.ja_aheap.proofs.heap.AHeap.untouched_to.Goals as goal

at_most_one : (b : Bool) → (if b then 1 else 0) ≤ 1
at_most_one true = omega arith
at_most_one false = omega arith

pub returns : goal.returns
returns c =
    let h = c.args.self.now in
    let end = c.run_end-end.result in
    let first : c.label_number-new.result ≡ 2 * c.args.site.0 = c.label_number-new.ensures
    ∙ omega arith in
    let run = subst (λ n. IsRun h.objects n end) first c.run_end-end.ensures in
    let here = c.is_untouched.ensures.0 c.if-not-is_untouched.false in
    record {
      ahead = omega (arith, c.max.ensures);
      untouched = λ l k above below. ⊎_elim
          (λ same. here l k above (omega (arith, same)))
          (λ behind. ap (λ (own : Own). own k) (shown_in_run h.names h.objects
          (2 * c.args.site.0) end end (label_number l) run (omega (arith, at_most_one l.old))
          (omega (arith, at_most_one l.old, c.max.ensures)) (omega arith))
          ∙ ap (λ n. own_in_place h.names h.objects n k) (omega arith)
          ∙ here (record { site = c.args.site; old = false }) k (omega arith) (omega arith))
          (eq-or-lt_of_le above);
      further = λ within all. omega (arith, c.max.ensures);
    }
