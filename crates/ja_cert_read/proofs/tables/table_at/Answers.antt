use Rattle.std.proofs.Common.{refl}
use Rattle.ja_cert_read.proofs.TablesBuilt.{context_said, table_fits_context, table_listed}
use Rattle.ja_cert_read.proofs.tables.table_at.Goals as goal

pub returns-clause-fits : goal.returns-clause-fits
returns-clause-fits c =
    table_fits_context c.args.program.now c.args.listed _ refl c.requires.right.context
    c.in_ok-nodes.ensures c.in_ok-entries.ensures

pub returns-clause-listed : goal.returns-clause-listed
returns-clause-listed c =
    table_listed c.args.program.now c.args.listed _ refl c.in_ok-nodes.ensures
    c.in_ok-entries.ensures

pub returns-clause-said : goal.returns-clause-said
returns-clause-said c =
    context_said c.args.program.now c.args.listed _ c.in_ok-nodes.ensures c.in_ok-entries.ensures
