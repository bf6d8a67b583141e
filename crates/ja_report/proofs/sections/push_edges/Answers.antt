use Rattle.std.proofs.Common.{◌≡◌, ◌++◌, ◌∙◌, List, ℕ, ap, sym, append_assoc, vec_len}
use Rattle.std.specs.Fmt.{decimal}
use Rattle.std.specs.List.{flat_map}
use lib.Chars.{codes}
use Rattle.ja_table.specs.declared.table.CallEdge.{CallEdge}
use Rattle.ja_report.specs.Report.{edge_text}
use Rattle.ja_report.proofs.EdgeLemmas.{edges_text_listed}
use Rattle.ja_report.proofs.sections.push_edges.Goals as goal

pub returns : goal.returns
returns c =
    let p = c.args.program.now in
    let t = c.args.table.now in
    let base = c.args.text.now.items in
    let listed : c.push_each_edge.new.text.items ≡ base ++ (codes "edges "
    ++ decimal (vec_len t.edges) ++ codes "\n"
    ++ flat_map (λ (e : CallEdge). edge_text p e.edge ++ codes "\n") t.edges.items) =
    simp (
      c.in_ok-push_each_edge.ensures,
      c.deref.ensures.value,
      c.in_ok-push.ensures.items,
      c.in_ok-push_number.ensures,
      c.len.ensures,
      c.in_ok-extend_from_slice.ensures.items,
      append_assoc,
    ) in
    listed ∙ ap (λ (l : List ℕ). base ++ l) (sym (edges_text_listed p t c.requires.fits))
