use Rattle.ja_prim.proofs.Orders.{irreflexive, texts_transitive, numbers_transitive, texts_ranked, numbers_ranked}
use Rattle.ja_prim.proofs.laws_of_texts.order_is_strict.Goals as goal

pub returns-clause-irreflexive : goal.returns-clause-irreflexive
returns-clause-irreflexive c = irreflexive

pub returns-clause-texts : goal.returns-clause-texts
returns-clause-texts c = texts_transitive

pub returns-clause-numbers : goal.returns-clause-numbers
returns-clause-numbers c = numbers_transitive

pub returns-clause-ranked_texts : goal.returns-clause-ranked_texts
returns-clause-ranked_texts c = texts_ranked

pub returns-clause-ranked_numbers : goal.returns-clause-ranked_numbers
returns-clause-ranked_numbers c = numbers_ranked
