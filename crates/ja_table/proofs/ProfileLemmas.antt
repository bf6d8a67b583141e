-- Tables as they are kept are of the profile.
use Rattle.std.specs.Prelude.{ℕ, List, Option, None, Some, IfSome}
use Rattle.std.specs.Option.{option_map, option_map_or, option_and_then}
use Rattle.ja_base.specs.declared.ids.Label.{Label}
use Rattle.ja_abstract.specs.declared.abstraction.Key.{Key}
use Rattle.ja_abstract.specs.Profile.{IsPropertyOfProfile, IsStateOfProfile}
use Rattle.ja_aheap.specs.Entries.{entries_of}
use Rattle.ja_aheap.proofs.ProfileLemmas.{entries_of_profile}
use Rattle.ja_astate.specs.declared.state.AState.{AState}
use Rattle.ja_astate.specs.State.{state_of}
use Rattle.ja_astate.proofs.ProfileLemmas.{state_of_profile}
use Rattle.ja_table.specs.declared.table.ATable.{ATable}
use Rattle.ja_table.specs.declared.table.ContextTable.{ContextTable}
use Rattle.ja_table.specs.declared.table.NodeTable.{NodeTable}
use Rattle.ja_table.specs.Profile.{IsTableOfProfile}
use Rattle.ja_table.specs.Tables.{find_context, kept_state, no_entries, states_in, table_of}

states_of_profile : (nodes : List NodeTable) (n : ℕ)
    → IfSome (states_in nodes n) IsStateOfProfile
states_of_profile nodes n = by (kept_state nodes n)
  where
    by : (x : Option AState) → IfSome (option_map state_of x) IsStateOfProfile
    by None = tt
    by (Some a) = state_of_profile a

pub table_of_profile : (t : ATable) → IsTableOfProfile (table_of t)
table_of_profile t =
    record {
      states = λ x n. state_in (find_context x t.contexts.items) n;
      entries = λ x l k. entry_in_context (find_context x t.contexts.items) l k;
    }
  where
    state_in : (o : Option ContextTable) (n : ℕ) → IfSome (option_and_then
        (λ (c : ContextTable). states_in c.nodes.items n) o) IsStateOfProfile
    state_in None n = tt
    state_in (Some c) n = states_of_profile c.nodes.items n

    entry_in_context : (o : Option ContextTable) (l : Label) (k : Key) → IfSome (option_map_or
        (λ (c : ContextTable). entries_of c.entries) o no_entries l k) IsPropertyOfProfile
    entry_in_context None l k = tt
    entry_in_context (Some c) l k = entries_of_profile c.entries l k
