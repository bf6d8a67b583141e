use Rattle.ja_prim.proofs.ReadingBack.{read_back}
use Rattle.ja_prim.proofs.laws_of_texts.numbers_are_read_back.Goals as goal

pub returns : goal.returns
returns c = read_back
