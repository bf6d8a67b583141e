use Rattle.std.specs.Prelude.{◌-◌}
use Rattle.std.proofs.Common.{◌≡◌, ◌∙◌, List, ap, drop, length, map, refl, take}
use Rattle.ja_machine.specs.TextOperations.{row}
use Rattle.ja_abstract.specs.PrimitiveOperations.{Taken, class, of_taken}
use Rattle.ja_absprim.specs.Primitives.{abstracted_of}
use Rattle.ja_absprim.proofs.Onto.{onto_more, onto_end}
use Rattle.ja_functions.proofs.Choices.{behind_one_more, first_and_others, no_choice_yet}
use Rattle.ja_functions.proofs.texts.+over_operands.Goals as goal

pub loop-taken-init : goal.loop-taken-init
loop-taken-init t c =
    let there : c.into_iter-taken-iterator.result.iter.rest.now ≡ c.list-item.result.items = rw (
      c.into_iter-taken-iterator.ensures.into_iter_gives,
      c.rev-taken-items.ensures.source,
      c.iter.ensures.rest,
      c.deref.ensures.value,
    ) refl in
    no_choice_yet (of_taken (row c.args.operation) (class c.args.operation)) c.args.chosen.now _ _ _
    _ _ c.none-all.ensures there (ap (map (λ v. v.items))
    (first_and_others c.args.lists.now c.list-item.result _ c.in-len1-up.len_at_least
    c.list-item.is))

pub loop-taken-preserved : goal.loop-taken-preserved
loop-taken-preserved t c =
    let lists = c.args.lists.now in
    let xss : List (List Taken) = map (λ v. v.items) (take (length lists - 1) (drop 1 lists)) in
    let given = behind_one_more c.over_operands-given.result abstracted_of
    (of_taken (row c.args.operation) (class c.args.operation)) _ c.args.chosen.now
    c.in-Some.taken.now xss (c.deref-in-loop-taken.ensures.value ∙ c.in_ok-longer.ensures)
    c.over_operands-given.ensures in
    onto_more _ _ _ _ _ _ _ c.in-Some.ensures.steps (c.in_ok-all.ensures _ given)
    c.loop-taken.invariant

pub returns : goal.returns
returns t c = onto_end _ _ _ _ c.in-None.ensures.steps.0 c.loop-taken.invariant
