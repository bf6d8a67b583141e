use Rattle.ja_table.specs.Tables.{table_of}
use Rattle.ja_rules.proofs.Settling.{none_told, open_settled}
use Rattle.ja_rules.proofs.settled.is_open_settled.Goals as goal

pub returns : goal.returns
returns c =
    open_settled c.args.program.now (table_of c.args.table.now) c.in_ok-values.values.items
    c.is_empty.result c.in_ok-values.ensures
    (none_told c.in_ok-values.values.items _ c.is_empty.result c.in_ok-values.values.ok.0
    c.is_empty.ensures)
