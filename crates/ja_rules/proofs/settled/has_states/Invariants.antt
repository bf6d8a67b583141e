-- The context has each state so far.
use Rattle.std.proofs.Common.{◌≡◌, map, take}
use Rattle.std.specs.Prelude.{◌↔◌, IsTrue}
use Rattle.ja_transfer.specs.Outcomes.{given_by}
use Rattle.ja_table.specs.Tables.{table_of}
use Rattle.ja_table.specs.code.Growing.{with_states_at}
use Rattle.ja_rules.proofs.settled.has_states.Given as goal

abbrev pub invariant-loop-given : goal.invariant-loop-given
invariant-loop-given l =
    IsTrue l.all
    ↔ (with_states_at (table_of l.table) l.context (map given_by (take l.given-index l.states))
    ≡ table_of l.table)
