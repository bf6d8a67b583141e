use Rattle.std.proofs.lemmas.Bool.{iff_false}
use Rattle.ja_value.proofs.TextLemmas.{joined_apart}
use Rattle.ja_value.proofs.texts.join_one.Goals as goal

pub returns-in-One : goal.returns-in-One
returns-in-One c =
    joined_apart c.args.text.now c.in-One.other c.args.part.now _ c.in-One.is
    (iff_false c.same_text.ensures c.if-same_text.false)
    (rw (c.class_of_text-class.ensures, c.class_of_text.ensures) at c.join_text_classes.ensures)
