use Rattle.std.proofs.Common.{subst}
use Rattle.std.specs.Prelude.{◌↔◌, All, IsTrue, List}
use Rattle.ja_base.specs.declared.ids.Label.{Label}
use Rattle.ja_abstract.specs.declared.abstraction.Key.{Key}
use Rattle.ja_aheap.specs.Entries.{entries_of}
use Rattle.ja_table.specs.Tables.{table_of}
use Rattle.ja_rules.specs.code.Entries.{IsDemanded}
use Rattle.ja_table.proofs.Found.{at_reached, at_some, found_entry}
use Rattle.ja_rules.proofs.Settling.{demands_telling}
use Rattle.ja_rules.proofs.settled.has_demands.Goals as goal

pub unreachable-requires : goal.unreachable-requires
unreachable-requires c =
    at_reached c.args.table.now c.args.context c.at.result c.at.ensures c.requires.ordered
    c.requires.context c.in-None.is

pub returns : goal.returns
returns c =
    let t = c.args.table.now in
    let x = c.args.context in
    let own = c.in-Some.own.now in
    demands_telling (table_of t) x (entries_of own.entries) c.args.demands.now.pairs.items
    (found_entry t x own
    (at_some t x c.at.result c.at.ensures c.requires.ordered c.in-Some.own c.in-Some.is))
    c.are_demanded.result
    (subst (λ (ps : List (Label × Key)). IsTrue c.are_demanded.result
    ↔ All (IsDemanded (entries_of own.entries)) ps) c.deref.ensures.value
    c.are_demanded.ensures)
