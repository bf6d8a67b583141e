use Rattle.std.proofs.Common.{◌≡◌, ◌≤◌, ◌==◌, true, length, map, Some, sym, ap, ◌∙◌, arith}
use Rattle.std.specs.Option.{option_map}
use Rattle.std.proofs.lemmas.Bool.Decides.{nat_tests}
use Rattle.ja_prim.specs.Texts.{is_short, max_units}
use Rattle.ja_prelude.specs.Table.{TableRow}
use Rattle.ja_prelude.specs.code.Table.{seen_row}
use Rattle.ja_prelude.proofs.ListLemmas.{all-found}
use Rattle.ja_prelude.proofs.objects.add_site.Goals as goal

short : (row : TableRow) → is_short row.path ≡ true → length row.path ≤ max_units
short row h = grind (arith, nat_tests)

pub site_of-requires-clause-path : goal.site_of-requires-clause-path
site_of-requires-clause-path c =
    let result : c.row_with.result ≡ Some c.in-Some.field-0 = cc in
    let found = sym c.row_with.ensures ∙ ap (option_map (λ row. seen_row row.now)) result in
    short (seen_row c.in-Some.field-0.now) (all-found (λ (row : TableRow). is_short row.path)
    (λ (row : TableRow). row.object.site.0 == c.args.site) (map seen_row c.args.table.now)
    (seen_row c.in-Some.field-0.now) c.requires.paths found)
