-- What the texts have in common, computed.
use Rattle.std.proofs.Common.{◌≡◌, refl}
use Rattle.ja_prelude.specs.Texts.{error_kinds, error_texts, texts_at}

pub errors : texts_at error_kinds ≡ error_texts
errors = refl
