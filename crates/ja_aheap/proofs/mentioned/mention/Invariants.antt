use Rattle.ja_value.specs.Value.{labels_in, property_of}
use Rattle.ja_aheap.proofs.MentionedLemmas.{Mentioning}
use Rattle.ja_aheap.proofs.mentioned.mention.Given as goal

abbrev pub invariant-loop-property : goal.invariant-loop-property
invariant-loop-property l =
    Mentioning (property_of l.object.common).value.label (labels_in l.fn.mentioned)
    l.object.listed l.property-iterator (labels_in l.mentioned)
