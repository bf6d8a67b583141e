use Rattle.std.proofs.Common.{append_assoc}
use Rattle.ja_report.specs.Report.{report_head}
use Rattle.ja_report.proofs.whole.push_head.Goals as goal

pub returns : goal.returns
unfolding report_head
returns c =
    simp (
      c.in_ok-push_sites.ensures,
      c.in_ok-push_edges.ensures,
      c.in_ok-push_warnings.ensures,
      c.in_ok-extend_from_slice-2.ensures.items,
      c.built_text.ensures,
      c.in_ok-push_devices.ensures,
      c.signatures.ensures,
      c.in_ok-extend_from_slice.ensures.items,
      append_assoc,
    )
