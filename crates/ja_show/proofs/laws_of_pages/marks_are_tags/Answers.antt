use Rattle.ja_show.proofs.Tags.{lines_left}
use Rattle.ja_show.proofs.laws_of_pages.marks_are_tags.Goals as goal

pub returns : goal.returns
returns c = λ names messages file text few small. lines_left names messages file text few small
