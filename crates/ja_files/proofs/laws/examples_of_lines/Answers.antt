-- Computed.
use Rattle.std.proofs.Common.{refl}
use Rattle.ja_lex.specs.Spots.{ends_line}
use Rattle.ja_prim.specs.Characters.{is_terminator}
use Rattle.ja_files.specs.Lines.{lines_of}
use Rattle.ja_files.proofs.laws.examples_of_lines.Goals as goal

pub returns : goal.returns
unfolding lines_of ends_line is_terminator
returns c = refl
