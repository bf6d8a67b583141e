use Rattle.std.proofs.Common.{map, sym, ap, ◌∙◌}
use Rattle.std.proofs.lemmas.List.{take_all}
use Rattle.std.proofs.lemmas.List.Folds.{flat_map-map}
use Rattle.std.specs.List.{flat_map}
use Rattle.ja_abstract.specs.PrimitiveOperations.{taken_at}
use Rattle.ja_absprim.specs.Primitives.{atom_of}
use Rattle.ja_functions.proofs.texts.taken_of.Goals as goal

pub returns : goal.returns
returns c =
    let s = c.args.sort in
    let kept = c.deref-atom-items.result.now in
    c.loop-atom.invariant
    ∙ (ap (flat_map (λ a. taken_at s (atom_of a)))
    (take_all c.loop-atom.atom-index kept c.loop-atom-test.false)
    ∙ (sym (flat_map-map (taken_at s) atom_of kept)
    ∙ ap (flat_map (taken_at s)) (ap (map atom_of) c.deref-atom-items.ensures.value
    ∙ c.in_ok-atoms.ensures)))
