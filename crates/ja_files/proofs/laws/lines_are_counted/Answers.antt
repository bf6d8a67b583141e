use Rattle.ja_files.proofs.Counted.{counted}
use Rattle.ja_files.proofs.laws.lines_are_counted.Goals as goal

pub returns : goal.returns
returns c = counted
