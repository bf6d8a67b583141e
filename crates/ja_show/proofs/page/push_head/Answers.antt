use Rattle.std.proofs.Common.{append_assoc}
use Rattle.ja_show.proofs.page.push_head.Goals as goal

pub returns : goal.returns
returns c =
    simp (
      c.in_ok-extend_from_slice-4.ensures.items,
      c.in_ok-push_escaped.ensures,
      c.in_ok-extend_from_slice-3.ensures.items,
      c.in_ok-push_heading-2.ensures,
      c.in_ok-extend_from_slice-2.ensures.items,
      c.in_ok-push_heading.ensures,
      c.in_ok-extend_from_slice.ensures.items,
      append_assoc,
    )
