-- What clauses of the code cite beside `Given`, and no believed statement.
use Rattle.ja_machine.specs.declared.machine.Wants.{Wants}
use Rattle.ja_machine.specs.declared.machine.Wants.TheVariants as wanted

-- what is wanted, where names aren't counted: of some, the first one
abbrev pub uncounted : Wants → Wants
uncounted wanted.Tick = wanted.Tick
uncounted (wanted.Pick count) = wanted.Pick 1
uncounted (wanted.Device which) = wanted.Device which
