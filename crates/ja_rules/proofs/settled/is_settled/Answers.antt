use Rattle.ja_rules.proofs.settled.is_settled.Goals as goal

pub is_step_settled-requires-clause-item : goal.is_step_settled-requires-clause-item
is_step_settled-requires-clause-item c = rw c.in-Step.is at c.requires.item

pub is_fill_settled-requires-clause-item : goal.is_fill_settled-requires-clause-item
is_fill_settled-requires-clause-item c = rw c.in-Fill.is at c.requires.item

pub is_back_settled-requires-clause-item : goal.is_back_settled-requires-clause-item
is_back_settled-requires-clause-item c = rw c.in-Back.is at c.requires.item

pub returns-in-Open : goal.returns-in-Open
returns-in-Open c = rw c.in-Open.is c.is_open_settled.ensures

pub returns-in-Step : goal.returns-in-Step
returns-in-Step c = rw c.in-Step.is c.is_step_settled.ensures

pub returns-in-Fill : goal.returns-in-Fill
returns-in-Fill c = rw c.in-Fill.is c.is_fill_settled.ensures

pub returns-in-Back : goal.returns-in-Back
returns-in-Back c = rw c.in-Back.is c.is_back_settled.ensures
