use Rattle.std.proofs.Common.{◌∙◌, ap, ℕ, Global, Vec}
use Rattle.ja_lint_top.proofs.Listed.{clean_ending, faulty_ending}
use Rattle.ja_lint_top.proofs.ending.ending_of.Goals as goal
use Rattle.ja_lint_top.proofs.ending.ending_of.Goals.{then-has_fault+in_ok-push_counts, else-has_fault+in_ok-push_promise}

pub returns : goal.returns
returns c =
    elim c.if-has_fault.branch [
      | then-has_fault+in_ok-push_counts w ↦
          faulty_ending c.args.manner c.args.files.now c.args.warnings.now _ _
          c.if-has_fault.text.items c.counted.result c.has_fault.result c.counted.ensures
          c.new-text.ensures.items c.in_ok-push_counted.ensures c.has_fault.ensures
          w.if-has_fault.true
          (ap (λ (v : Vec ℕ Global). v.items) w.text-is ∙ w.in_ok-push_counts.ensures)
      | else-has_fault+in_ok-push_promise w ↦
          clean_ending c.args.manner c.args.files.now c.args.warnings.now _ _
          c.if-has_fault.text.items c.counted.result w.rows.result c.has_fault.result
          c.counted.ensures c.new-text.ensures.items c.in_ok-push_counted.ensures
          c.has_fault.ensures w.if-has_fault.false w.rows.ensures
          (ap (λ (v : Vec ℕ Global). v.items) w.text-is ∙ w.in_ok-push_promise.ensures)
    ]
