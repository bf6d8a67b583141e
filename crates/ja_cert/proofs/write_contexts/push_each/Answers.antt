use Rattle.std.proofs.Common.{◌++◌, ◌∙◌, List, ap, map}
use Rattle.ja_table.specs.declared.table.ContextTable.{ContextTable}
use Rattle.ja_cert.specs.code.Writing.{own_data, with_commas}
use Rattle.ja_cert.proofs.Commas.{commas_listed}
use Rattle.ja_cert.proofs.write_contexts.push_each.Goals as goal

pub returns : goal.returns
returns c =
    let p = c.args.program.now in
    commas_listed (own_data p) _ _ _ _ c.loop-own.invariant c.loop-own-test.false
    ∙ ap (λ (cs : List ContextTable). c.args.text.now.items ++ with_commas (map (own_data p) cs))
    c.deref-own-items.ensures.value
