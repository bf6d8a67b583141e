-- Each effect is in the table that it was applied to.
use Rattle.ja_laws.proofs.row_laws.visits_reach_callees.Goals as goal
use Rattle.ja_laws.proofs.PinnedRows.{callees_entered, fills, states_joined}

pub returns-clause-states : goal.returns-clause-states
returns-clause-states c = λ t w x o. states_joined t w x o

pub returns-clause-callees : goal.returns-clause-callees
returns-clause-callees c = λ t w x o. callees_entered t w x o

pub returns-clause-fills : goal.returns-clause-fills
returns-clause-fills c = λ t e w i l k there. fills t e w i l k there
