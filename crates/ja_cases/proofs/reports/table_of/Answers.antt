use Rattle.std.proofs.Common.{refl}
use Rattle.ja_cases.proofs.Giving.{lent_fits, table_fits}
use Rattle.ja_cases.proofs.reports.table_of.Goals as goal

pub give_all-requires-clause-fits : goal.give_all-requires-clause-fits
give_all-requires-clause-fits c =
    lent_fits _ _ _ c.in_ok-table.ensures.fits c.index_mut.ensures.value

pub returns : goal.returns
returns c =
    table_fits c.args.program.now c.in_ok-table.table c.index_mut.result.now
    c.in_ok-table.ensures.fits c.index_mut.ensures.value _ c.give_all.new.own refl refl
    c.in_ok-give_all.ensures.context c.in_ok-give_all.ensures.fits
