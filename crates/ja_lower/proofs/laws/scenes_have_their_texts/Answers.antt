use Rattle.ja_lower.proofs.Scenes.{scene_has_its_text}
use Rattle.ja_lower.proofs.laws.scenes_have_their_texts.Goals as goal

pub returns : goal.returns
returns c = scene_has_its_text
