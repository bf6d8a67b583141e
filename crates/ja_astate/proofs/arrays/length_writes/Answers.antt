use Rattle.std.proofs.Common.{sym, subst}
use Rattle.std.specs.Prelude.{IsTrue}
use Rattle.std.specs.List.{All}
use Rattle.std.proofs.lemmas.List.Elements.{All-from_recursion}
use Rattle.ja_abstract.specs.declared.abstraction.Key.{Key}
use Rattle.ja_abstract.specs.AbstractState.{is_key}
use Rattle.ja_abstract.specs.Keys.{index_keys}
use Rattle.ja_abstract.proofs.WritesInProgram.{index_keys_are}
use Rattle.ja_astate.proofs.arrays.length_writes.Goals as goal

pub push_cuts-requires : goal.push_cuts-requires
push_cuts-requires c =
    let r = c.args.reader.now in
    let p = r.program.now in
    subst (All (λ (k : Key). IsTrue (is_key p k))) (sym (c.indices.ensures p r.keys_are))
    (All-from_recursion (λ (k : Key). IsTrue (is_key p k)) (index_keys p) (index_keys_are p))
