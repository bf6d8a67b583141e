use Rattle.ja_show.proofs.Escapes.{escaped_plain}
use Rattle.ja_show.proofs.laws_of_pages.escaped_texts_are_plain.Goals as goal

pub returns : goal.returns
returns c = λ bytes. escaped_plain bytes
