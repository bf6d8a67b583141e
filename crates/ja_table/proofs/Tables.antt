-- The program's own context in a table.
use Rattle.std.specs.Prelude.{◌≡◌, true, List, [], ◌∷◌, Some, slice_get, is_some}
use Rattle.std.proofs.Common.{ap, ◌∙◌, subst, sym}
use Rattle.std.proofs.lemmas.Bool.{cond-true, false≢true}
use Rattle.std.proofs.lemmas.Option.{same_Some}
use Rattle.ja_base.specs.declared.ids.Context.{Context}
use Rattle.ja_rows.specs.Table.{root, same_context}
use Rattle.ja_rows.proofs.Applied.{same_context-self}
use Rattle.ja_table.specs.declared.table.ContextTable.{ContextTable}
use Rattle.ja_table.specs.Tables.{is_of, find_context}

-- where it comes first it is found
pub root_found : (contexts : List ContextTable) (c : ContextTable) → slice_get contexts 0 ≡ Some c
    → c.context ≡ root → find_context root contexts ≡ Some c
root_found [] c at is = absurd (false≢true (ap is_some at))
root_found (d ∷ ds) c at is =
    let here : d ≡ c = same_Some d c at in
    cond-true (is_of root d) (Some d) (find_context root ds)
    (subst (λ (x : Context). same_context x root ≡ true) (sym (ap (λ (e : ContextTable). e.context)
    here ∙ is)) (same_context-self root)) ∙ ap Some here
