use Rattle.std.proofs.Common.{◌||◌, ◌∙◌, rules}
use Rattle.ja_value.specs.Value.{labels_in, property_of}
use Rattle.ja_aheap.proofs.MentionedLemmas.{among_same, mentioning_start, mentioning_turn, mentioning_end}
use Rattle.ja_aheap.proofs.mentioned.mention.Goals as goal

pub returns-in_err-add-clause-kept : goal.returns-in_err-add-clause-kept
returns-in_err-add-clause-kept c =
    among_same (labels_in c.args.mentioned.now) (labels_in c.args.mentioned.now)
    (labels_in c.add.new.self) c.in_err-add.ensures.kept (λ l there. there)

pub loop-property-init : goal.loop-property-init
loop-property-init c =
    mentioning_start (property_of c.args.object.now.common).value.label
    (labels_in c.args.mentioned.now) (labels_in c.add.new.self) c.args.object.now.listed
    c.into_iter-property-iterator.result
    (search rules) (search rules) c.in_ok-add.ensures.joined

pub loop-property-preserved : goal.loop-property-preserved
loop-property-preserved c =
    mentioning_turn (property_of c.args.object.now.common).value.label
    (labels_in c.args.mentioned.now) c.args.object.now.listed
    (labels_in c.loop-property.mentioned) (labels_in c.add-in-loop-property.new.self) _ _ _
    (c.in-Some.field-0-0, c.in-Some.property) c.in-Some.is c.next.ensures.steps
    (c.in_ok-add-2.ensures.joined
    ∙ (λ i l. labels_in c.loop-property.mentioned l
    || (property_of (c.deref.ensures i)).value.label l))
    c.loop-property.invariant

pub returns-in_err-add-2-clause-kept : goal.returns-in_err-add-2-clause-kept
returns-in_err-add-2-clause-kept c =
    among_same (labels_in c.args.mentioned.now) (labels_in c.loop-property.mentioned)
    (labels_in c.add-in-loop-property.new.self) c.in_err-add-2.ensures.kept
    c.loop-property.invariant.kept

pub returns-clause-mentions : goal.returns-clause-mentions
returns-clause-mentions c =
    mentioning_end (labels_in c.args.mentioned.now) c.args.object.now _
    (labels_in c.loop-property.mentioned) c.in-None.ensures.steps.0 c.loop-property.invariant

pub returns-clause-kept : goal.returns-clause-kept
returns-clause-kept c = c.loop-property.invariant.kept
