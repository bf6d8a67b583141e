use Rattle.ja_files.proofs.Placed.{placed}
use Rattle.ja_files.proofs.laws.lines_hold_places.Goals as goal

pub returns : goal.returns
returns c = placed
