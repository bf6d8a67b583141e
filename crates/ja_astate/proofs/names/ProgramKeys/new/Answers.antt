use Rattle.std.proofs.Common.{ap, ◌∙◌}
use Rattle.ja_abstract.specs.Keys.{text_key}
use Rattle.ja_astate.proofs.NameLemmas.{has_length}
use Rattle.ja_astate.proofs.names.ProgramKeys.new.Goals as goal

pub returns : goal.returns
returns c =
    let p = c.args.program.now in
    record {
      apart = c.requires.distinct;
      has_length = has_length p c.requires;
      names = c.in_ok-names.ensures;
      nan = c.key_in.ensures p c.in_ok-names.ensures ∙ ap (text_key p) c.in_ok-nan.ensures;
      texts = c.in_ok-all_texts.ensures;
      numbers = c.in_ok-new.ensures;
      index_texts = c.in_ok-new-2.ensures;
      other_texts = c.in_ok-new-3.ensures;
    }
