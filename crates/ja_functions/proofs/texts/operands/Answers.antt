use Rattle.std.proofs.Common.{◌∙◌, ◌++◌, ◌∷◌, [], List, ap, arith, map, sym}
use Rattle.std.proofs.lemmas.List.{length-map, map-append}
use Rattle.ja_abstract.specs.PrimitiveOperations.{Taken, taken}
use Rattle.ja_rows.specs.Out.{at}
use Rattle.ja_transfer.specs.Outcomes.{at_view}
use Rattle.ja_functions.proofs.Choices.{operands_are_as_many, operands_more}
use Rattle.ja_functions.proofs.texts.operands.Goals as goal

pub returns-then-sorts-args : goal.returns-then-sorts-args
returns-then-sorts-args c =
    sym (operands_are_as_many _ _ (λ e. c.if-sorts-args.true
    (e ∙ length-map c.args.args.now (at (at_view c.args.stepper.now)))))

pub loop-place-preserved : goal.loop-place-preserved
loop-place-preserved c =
    let value = at (at_view c.args.stepper.now) in
    let gathered : List (List Taken) = map (λ list. list.items) c.loop-place.lists.items in
    operands_more value c.args.sorts.now c.args.args.now c.loop-place.place _ _ gathered _ _
    (omega arith) c.loop-place-test.true
    (ap (map (λ list. list.items)) c.in_ok-push.ensures.items
    ∙ (map-append (λ list. list.items) c.loop-place.lists.items (c.in_ok-taken_of.field-0 ∷ [])
    ∙ ap (λ (xs : List Taken). gathered ++ xs ∷ []) (c.in_ok-taken_of.ensures
    ∙ ap (taken _) c.register.ensures))) c.loop-place.invariant
