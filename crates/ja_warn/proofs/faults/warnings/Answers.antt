use Rattle.std.proofs.Common.{sym, ◌∙◌, ap, subst}
use Rattle.ja_rows.specs.Warning.{AreWarnings}
use Rattle.ja_sound.specs.Sound.{WarnsOfFaults}
use Rattle.ja_table.specs.Tables.{table_of}
use Rattle.ja_warn.specs.Told.{warnings_in}
use Rattle.ja_warn.proofs.faults.warnings.Goals as goal

pub returns-clause-warnings : goal.returns-clause-warnings
returns-clause-warnings c =
    subst (AreWarnings c.args.program.now (table_of c.args.table.now))
    (sym (c.from_vec.ensures ∙ c.in_ok-warnings.ensures ∙ ap warnings_in c.as_slice.ensures))
    c.in_ok-told.ensures.warnings

pub returns-clause-faults : goal.returns-clause-faults
returns-clause-faults c closed =
    subst (WarnsOfFaults c.args.program.now)
    (sym (c.from_vec.ensures ∙ c.in_ok-warnings.ensures ∙ ap warnings_in c.as_slice.ensures))
    (c.in_ok-told.ensures.faults closed)
