-- By the cause of each status.
use Rattle.ja_top.proofs.Complete.{complete}
use Rattle.ja_top.proofs.RunOut.{run_out}
use Rattle.ja_top.proofs.laws.answers_are_complete.Goals as goal

pub returns : goal.returns
returns c = record {
  analyses = λ call w status all is. complete call w all status is;
  runs = λ call w status all is. run_out call w all status is;
}
