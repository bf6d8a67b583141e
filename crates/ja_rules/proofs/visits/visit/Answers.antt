use Rattle.ja_rules.proofs.visits.visit.Goals as goal

pub visit_step-requires-clause-item : goal.visit_step-requires-clause-item
visit_step-requires-clause-item c = rw c.in-Step.is at c.requires.item

pub visit_fill-requires-clause-item : goal.visit_fill-requires-clause-item
visit_fill-requires-clause-item c = rw c.in-Fill.is at c.requires.item

pub visit_back-requires-clause-item : goal.visit_back-requires-clause-item
visit_back-requires-clause-item c = rw c.in-Back.is at c.requires.item

pub returns-in-Open-clause-visited : goal.returns-in-Open-clause-visited
returns-in-Open-clause-visited c = rw c.in-Open.is c.visit_open.ensures.visited

pub returns-in-Open-clause-edges : goal.returns-in-Open-clause-edges
returns-in-Open-clause-edges c = rw c.in-Open.is c.visit_open.ensures.kept

pub returns-in-Step-clause-visited : goal.returns-in-Step-clause-visited
returns-in-Step-clause-visited c = rw c.in-Step.is c.visit_step.ensures.visited

pub returns-in-Step-clause-edges : goal.returns-in-Step-clause-edges
returns-in-Step-clause-edges c = rw c.in-Step.is tt

pub returns-in-Fill-clause-visited : goal.returns-in-Fill-clause-visited
returns-in-Fill-clause-visited c = rw c.in-Fill.is c.visit_fill.ensures.visited

pub returns-in-Fill-clause-edges : goal.returns-in-Fill-clause-edges
returns-in-Fill-clause-edges c = rw c.in-Fill.is c.visit_fill.ensures.kept

pub returns-in-Back-clause-visited : goal.returns-in-Back-clause-visited
returns-in-Back-clause-visited c = rw c.in-Back.is c.visit_back.ensures.visited

pub returns-in-Back-clause-edges : goal.returns-in-Back-clause-edges
returns-in-Back-clause-edges c = rw c.in-Back.is c.visit_back.ensures.kept
