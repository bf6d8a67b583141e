use Rattle.ja_astate.specs.code.Names.{HasFirst}
use Rattle.ja_astate.proofs.names.names_of.Given as goal

abbrev pub invariant-loop-number : goal.invariant-loop-number
invariant-loop-number l = HasFirst l.program l.number l.names
