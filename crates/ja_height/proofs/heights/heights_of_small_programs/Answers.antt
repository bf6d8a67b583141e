-- Computed of the counts.
use Rattle.std.specs.Prelude.{refl}
use Rattle.ja_height.proofs.heights.heights_of_small_programs.Goals as goal

pub returns-clause-one : goal.returns-clause-one
returns-clause-one c = λ p f size counts.
    rw (
      size.functions_are,
      size.sites_are,
      size.names_are,
      counts.registers_are,
      counts.nodes_are,
      counts.entering_are,
    ) refl

pub returns-clause-two : goal.returns-clause-two
returns-clause-two c = λ p f g size fs gs.
    rw (
      size.functions_are,
      size.sites_are,
      size.names_are,
      fs.registers_are,
      fs.nodes_are,
      fs.entering_are,
      gs.registers_are,
      gs.nodes_are,
      gs.entering_are,
    ) refl
