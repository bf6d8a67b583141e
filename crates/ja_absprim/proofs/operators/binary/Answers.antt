use Rattle.ja_abstract.specs.Primitives.{operator}
use Rattle.ja_absprim.specs.Primitives.{atom_of, abstracted_of}
use Rattle.ja_absprim.proofs.Onto.{call_over_pairs}
use Rattle.ja_absprim.proofs.operators.binary.Goals as goal

pub returns : goal.returns
returns c =
    call_over_pairs c.over_pairs.result abstracted_of atom_of (operator c.args.op) _
    c.in_ok-list.list.items _ c.in_ok-others.others.items _ _ c.deref.ensures.value
    c.in_ok-list.ensures c.deref-2.ensures.value c.in_ok-others.ensures c.over_pairs.ensures
