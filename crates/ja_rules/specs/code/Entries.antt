-- Values at entry, with more demands and with other values.
use Rattle.std.specs.Prelude.{List, IsSome, IsTrue}
use Rattle.std.specs.List.{AllByRecursion}
use Rattle.ja_base.specs.declared.ids.Context.{Context}
use Rattle.ja_base.specs.declared.ids.Label.{Label}
use Rattle.ja_graph.specs.declared.program.Program.{Program}
use Rattle.ja_abstract.specs.declared.abstraction.Key.{Key}
use Rattle.ja_abstract.specs.AbstractState.{is_key, is_label}
use Rattle.ja_abstract.specs.Resolved.{Entries, Demands}
use Rattle.ja_rows.specs.Table.{with_demand, Table}
use Rattle.ja_table.specs.code.Growing.{with_entries_at}
use Rattle.ja_flow.specs.declared.values.EntryValue.{EntryValue}

abbrev pub demanded : Entries → Demands → Entries
demanded entries demands l k = with_demand (entries l k) (demands l k)

abbrev pub with_demands_at : Table → Context → Demands → Table
with_demands_at t x demands = with_entries_at t x (demanded (t.entry x) demands)

-- a pair is demanded
abbrev pub IsDemanded : Entries → Label × Key → Type 0
IsDemanded entries pair = IsSome (entries pair.0 pair.1)

-- demands and values of the program
abbrev pub AreDemandsOf : Program → Demands → Type 0
AreDemandsOf p demands =
    (l : Label) (k : Key) → IsTrue (demands l k) → IsTrue (is_label p l) × IsTrue (is_key p k)

abbrev pub AreValuesOf : Program → List EntryValue → Type 0
AreValuesOf p values =
    AllByRecursion (λ (v : EntryValue). IsTrue (is_label p v.label) × IsTrue (is_key p v.key)) values
