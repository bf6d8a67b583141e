use Rattle.std.proofs.Common.{refl, subst, sym}
use Rattle.std.specs.Prelude.{IsTrue}
use Rattle.ja_base.specs.declared.ids.Context.{Context}
use Rattle.ja_abstract.specs.Contents.{opened}
use Rattle.ja_rows.specs.Table.{root}
use Rattle.ja_table.specs.Tables.{table_of}
use Rattle.ja_table.proofs.Found.{found_reached}
use Rattle.ja_rules.proofs.Lent.{entry_pairs}
use Rattle.ja_table.proofs.SameMeaning.{keys_same}
use Rattle.ja_table.proofs.Tables.{root_found}
use Rattle.ja_rules.proofs.Visiting.{both_ok, ok_after, open_told, values_of_pairs}
use Rattle.ja_rules.proofs.visits.visit_open.Goals as goal

pub returns-in_err-values-clause-kept : goal.returns-in_err-values-clause-kept
returns-in_err-values-clause-kept c = keys_same c.args.table.now

pub set_values_at-requires-clause-context : goal.set_values_at-requires-clause-context
set_values_at-requires-clause-context c =
    let t = c.args.table.now in
    let fits = c.requires.fits in
    subst (λ (x : Context). IsTrue ((table_of t).context x)) (sym c.own_context.ensures)
    (found_reached t root fits.first (root_found t.contexts.items fits.first fits.first_is
    fits.first_is_root))

pub returns-clause-visited : goal.returns-clause-visited
returns-clause-visited c =
    let p = c.args.program.now in
    let t = table_of c.args.table.now in
    both_ok c.set_values_at.result c.set_values_at.ensures.set c.set_values_at.ensures.told
    (λ b set told. open_told p t (table_of c.set_values_at.new.table) c.own_context.result
    (t.entry root) c.in_ok-values.values.items b c.own_context.ensures refl set
    c.in_ok-values.ensures.set c.in_ok-values.ensures.changed told)

pub returns-clause-kept : goal.returns-clause-kept
returns-clause-kept c = c.set_values_at.ensures.kept

pub returns-clause-fits : goal.returns-clause-fits
returns-clause-fits c =
    let p = c.args.program.now in
    let t = c.args.table.now in
    ok_after c.set_values_at.result c.set_values_at.ensures.fits
    (λ more. more p (values_of_pairs p ((table_of t).entry root) c.in_ok-values.values.items
    (opened p) c.in_ok-values.ensures.set (entry_pairs p t root c.requires.fits))
    c.requires.fits)
