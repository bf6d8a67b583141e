use Rattle.std.proofs.Common.{◌≡◌, List, ◌∙◌, ap}
use Rattle.std.proofs.lemmas.Result.{on_ok_weaker}
use Rattle.std.specs.List.{flat_map, fold}
use Rattle.ja_syntax.specs.Hoisted.{Texts, variables_of}
use Rattle.ja_syntax.specs.code.Hoisted.{with_name}
use Rattle.ja_syntax.specs.declared.tree.Statement.{Statement}
use Rattle.ja_syntax.proofs.HoistedLemmas.{added_finally, added_catch, added_both}
use Rattle.ja_syntax.proofs.hoisting.+variables.Goals as goal

-- the names of the statements of a slice are those of the list that it shows
same_names : (old new : Texts) (xs ys : List Statement)
    → new ≡ fold with_name old (flat_map variables_of xs) → xs ≡ ys
    → new ≡ fold with_name old (flat_map variables_of ys)
same_names old new xs ys h e = h ∙ ap (λ zs. fold with_name old (flat_map variables_of zs)) e

pub add_statement-returns-in-None-Some : goal.add_statement-returns-in-None-Some
add_statement-returns-in-None-Some t c = on_ok_weaker c.add_statements-in-None-Some.result (λ h.
    let first = same_names c.args.names.now c.add_statements-in-Try.new.names _ _
    c.in_ok-add_statements-in-Try.ensures c.as_slice-in-Try.ensures in
    let last = same_names c.add_statements-in-Try.new.names c.add_statements-in-None-Some.new.names
    _ _ h c.as_slice-in-None-Some.ensures in
    added_finally c.args.names.now _ _ c.args.statement.now c.in-Try.block c.in-None-Some.body
    c.in-Try.catch c.in-Try.finally c.in-Try.place c.in-Try.is c.in-None-Some.is-0
    c.in-None-Some.is-1 first last) c.add_statements-in-None-Some.ensures

pub add_statement-returns-in-Some-None : goal.add_statement-returns-in-Some-None
add_statement-returns-in-Some-None t c = on_ok_weaker c.add_statements-in-Some-None.result (λ h.
    let first = same_names c.args.names.now c.add_statements-in-Try.new.names _ _
    c.in_ok-add_statements-in-Try.ensures c.as_slice-in-Try.ensures in
    let last = same_names c.add_statements-in-Try.new.names c.add_statements-in-Some-None.new.names
    _ _ h c.as_slice-in-Some-None.ensures in
    added_catch c.args.names.now _ _ c.args.statement.now c.in-Try.block c.in-Some-None.catch
    c.in-Try.catch c.in-Try.finally c.in-Try.place c.in-Try.is c.in-Some-None.is-0
    c.in-Some-None.is-1 first last) c.add_statements-in-Some-None.ensures

pub add_statement-returns-in_ok-add_statements-in-Some-Some :
    goal.add_statement-returns-in_ok-add_statements-in-Some-Some
add_statement-returns-in_ok-add_statements-in-Some-Some t c =
    on_ok_weaker c.add_statements-in-Some-Some-2.result (λ h.
    let first = same_names c.args.names.now c.add_statements-in-Try.new.names _ _
    c.in_ok-add_statements-in-Try.ensures c.as_slice-in-Try.ensures in
    let then = same_names c.add_statements-in-Try.new.names c.add_statements-in-Some-Some.new.names
    _ _ c.in_ok-add_statements-in-Some-Some.ensures c.as_slice-in-Some-Some.ensures in
    let last = same_names c.add_statements-in-Some-Some.new.names
    c.add_statements-in-Some-Some-2.new.names _ _ h c.as_slice-in-Some-Some-2.ensures in
    added_both c.args.names.now _ _ _ c.args.statement.now c.in-Try.block c.in-Some-Some.body
    c.in-Some-Some.catch c.in-Try.catch c.in-Try.finally c.in-Try.place c.in-Try.is
    c.in-Some-Some.is-0 c.in-Some-Some.is-1 first then last)
    c.add_statements-in-Some-Some-2.ensures
