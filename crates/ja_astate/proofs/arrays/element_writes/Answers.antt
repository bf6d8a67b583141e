use Rattle.std.proofs.Common.{sym, subst}
use Rattle.ja_astate.proofs.IndexLemmas.{IsBelow, index_below}
use Rattle.ja_astate.proofs.arrays.element_writes.Goals as goal

pub grown_length-requires : goal.grown_length-requires
grown_length-requires c =
    subst IsBelow (sym c.index_of_key-index.ensures)
    (index_below c.args.reader.now.program.now c.args.key)
