-- Each step within an activation is sound, of each kind of node.
use Rattle.ja_graph.specs.declared.program.Program.{Program}
use Rattle.ja_graph.specs.WellFormed.{IsWellFormed}
use Rattle.ja_sound.specs.Statements.{SoundWithin}
use Rattle.ja_sound.proofs.Assembled.{sound_within}
use Rattle.ja_sound.proofs.OperationLists.{rows_cover}

pub steps_sound : (p : Program) → IsWellFormed p → SoundWithin p
steps_sound p good = sound_within rows_cover p good
