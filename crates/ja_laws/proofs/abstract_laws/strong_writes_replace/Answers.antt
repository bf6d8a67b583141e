-- By the list of the target, and the one write.
use Rattle.ja_laws.proofs.abstract_laws.strong_writes_replace.Goals as goal
use Rattle.ja_laws.proofs.PinnedStates.{puts_replace, read_behind, replaces, strong_is}

pub returns : goal.returns
returns c = record {
  one_object = λ w target keys l k e. strong_is w target keys l k e;
  replaces = λ a l k q. replaces a l k q;
  read = λ a entries l k q known. read_behind a entries l k q known;
  puts = λ w target keys v l k e put. puts_replace w target keys v l k e put;
}
