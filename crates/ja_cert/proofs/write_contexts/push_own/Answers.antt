use Rattle.std.proofs.Common.{◌++◌, ◌∙◌, ℕ, ap, decimal}
use Rattle.ja_abstract.specs.AbstractState.{label_number}
use Rattle.ja_aheap.specs.Entries.{entries_of}
use Rattle.ja_table.specs.Tables.{states_in}
use Rattle.ja_report.specs.Lines.{entry_lines}
use Rattle.ja_cert.specs.Certificate.{lines_data, listed}
use Rattle.ja_cert.specs.code.Writing.{own_data, points_of}
use Rattle.ja_cert.proofs.Commas.{commas_last}
use Rattle.ja_cert.proofs.Wholes.{context_written}
use Rattle.ja_cert.proofs.write_contexts.push_own.Goals as goal

pub returns : goal.returns
unfolding own_data
returns c =
    let p = c.args.program.now in
    let own = c.args.own.now in
    commas_last _ _ _ (context_written _ _ _ _ _ _ _ _ _ _
    (lines_data p (entry_lines p (entries_of own.entries))) own.context.function.0
    (listed (points_of p own.context.function (states_in own.nodes.items)))
    (label_number own.context.receiver) c.in_ok-extend_from_slice.ensures.items
    c.in_ok-push_entries.ensures c.in_ok-extend_from_slice-2.ensures.items
    (c.in_ok-push_number.ensures
    ∙ ap (λ (n : ℕ). c.extend_from_slice-2.new.self.items ++ decimal n) c.from.ensures)
    c.in_ok-extend_from_slice-3.ensures.items
    c.in_ok-push_points.ensures c.in_ok-extend_from_slice-4.ensures.items
    (c.in_ok-push_number-2.ensures
    ∙ ap (λ (n : ℕ). c.extend_from_slice-4.new.self.items ++ decimal n) c.label_number.ensures)
    c.in_ok-extend_from_slice-5.ensures.items)
