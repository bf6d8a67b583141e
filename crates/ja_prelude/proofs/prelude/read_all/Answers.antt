use Rattle.std.proofs.Common.{◌∙◌}
use Rattle.ja_prelude.specs.Reading.{is_few, is_text}
use Rattle.ja_prelude.proofs.FunctionLists.{all_texts, paths_are_short, paths_are, statements_are, prelude_is}
use Rattle.ja_prelude.proofs.prelude.read_all.Goals as goal

pub trees_of-requires-clause-few : goal.trees_of-requires-clause-few
trees_of-requires-clause-few c =
    all_texts is_few c.args.functions.now c.requires c.texts_are_read.ensures.few

pub trees_of-requires-clause-texts : goal.trees_of-requires-clause-texts
trees_of-requires-clause-texts c =
    all_texts is_text c.args.functions.now c.requires c.texts_are_read.ensures.read

pub paths_of-requires : goal.paths_of-requires
paths_of-requires c = paths_are_short c.args.functions.now c.requires

pub returns : goal.returns
returns c =
    prelude_is
    (c.in_ok-statements.ensures ∙ statements_are c.args.functions.now c.requires)
    (c.from_vec-paths.ensures ∙ (c.in_ok-paths_of.ensures
    ∙ paths_are c.args.functions.now c.requires))
    (c.deref.ensures.value ∙ c.in_ok-builtin_names.ensures) c.as_slice.ensures
    c.in_ok-names.ensures
