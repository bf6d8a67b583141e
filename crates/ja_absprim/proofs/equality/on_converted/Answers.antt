use Rattle.std.proofs.Common.{◌∙◌}
use Rattle.ja_abstract.specs.Primitives.{strict_atoms}
use Rattle.ja_absprim.specs.Primitives.{atom_of}
use Rattle.ja_absprim.proofs.Onto.{over_pairs_standing, or_stops}
use Rattle.ja_absprim.proofs.equality.on_converted.Goals as goal

pub returns : goal.returns
returns c =
    or_stops _ _ _ _ _ _ c.may_stop.ensures c.may_stop-2.ensures (c.in_ok-given.ensures
    ∙ over_pairs_standing atom_of strict_atoms _ c.in_ok-list.list.items _
    c.in_ok-others.others.items _ _ c.deref.ensures.value c.in_ok-list.ensures
    c.deref-2.ensures.value c.in_ok-others.ensures)
