-- By the parts: a constant has one number, and each class has two that the others don't have.
use Rattle.ja_laws.proofs.order_laws.classes_are_ordered.Goals as goal
use Rattle.ja_laws.proofs.Ordered.{numbers_from, numbers_to, texts_from, texts_to}

pub returns-clause-below_numbers : goal.returns-clause-below_numbers
returns-clause-below_numbers c = numbers_from

pub returns-clause-numbers_below : goal.returns-clause-numbers_below
returns-clause-numbers_below c = numbers_to

pub returns-clause-below_texts : goal.returns-clause-below_texts
returns-clause-below_texts c = texts_from

pub returns-clause-texts_below : goal.returns-clause-texts_below
returns-clause-texts_below c = texts_to
