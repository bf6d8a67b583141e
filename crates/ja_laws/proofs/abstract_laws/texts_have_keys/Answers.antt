-- By the kind of the key.
use Rattle.ja_laws.proofs.abstract_laws.texts_have_keys.Goals as goal
use Rattle.ja_laws.proofs.PinnedStates.{key_of_text, keys_of_all}

pub returns : goal.returns
returns c = record {
  one = λ p t k good of_program. key_of_text p t k good of_program;
  all = λ p k of_program is_text. keys_of_all p k of_program is_text;
}
